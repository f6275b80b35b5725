-- What is written is read back: for any five delimiters with no fault and any text of bytes, by any set of sequences that holds those of plain text.
-- Assumes nothing.
use mathlib.Core.Path.{◌≡◌, refl, sym, ap, subst⁻¹, ◌∙◌}
use mathlib.Core.List.{List, [], ◌∷◌, ◌++◌, map, map-id}
use mathlib.Core.Bool.{Bool, true, false}
use Prim.Native.Nat.{ℕ, suc, ◌+◌, ◌*◌, ◌/◌, ◌%◌, ◌≤◌, ◌<◌}
use native.Mathlib.Omega.{arith}
use lib.Dec.{ltb}
use lib.ListN.{length, get_or, take, length-append}
use lib.Seq.{take-append_seam, drop-append-add}
use borrow.Author.Tests.{eq-eqb, ne_eqb, lt-ltb, le-ltb, ltb-true, ltb-false}
use Rattle.alphabet.proofs.BoolLaws.{false_true}
use Rattle.alphabet.proofs.ListLaws.{find_is, find_own}
use Rattle.alphabet.proofs.DelimiterLaws.{delimiter_permitted}
use Rattle.alphabet.proofs.NullLaws.{two_quotes_lem}
use Rattle.alphabet.specs.Lists.{first, find}
use Rattle.alphabet.specs.Bytes.{printable, hex_of, hex_digit, is_null}
use Rattle.alphabet.specs.Delimiters.{permitted, first_wrong_delimiter}
use Rattle.escaping.specs.Escape.{letters, escape_of, escape_byte, escape_bytes, two_quotes, escape}
use Rattle.alphabet.specs.Hex.{all_hex, pairs_of}
use Rattle.text.specs.Unescape.{known, meaning, Sequences, plain_text, before, scan}
use Rattle.escaping.specs.Outcomes.{text}
use Rattle.escaping.specs.Outcomes.{fitting}
use Rattle.text.specs.Unescape.{unescaping}
use Rattle.escaping.proofs.PieceLaws.{written_letter, written_plain, written_hex}
use Rattle.escaping.proofs.OutcomeLaws.{escape_null, escape_other}
use Rattle.text.proofs.StepLaws.{step_known, step_plain, scan_emit, scan_skip}
use Rattle.laws.proofs.EscapeTable.{letter_back, digit_back, escape_not}

find_other : (b x : ℕ) (r : List ℕ) → (b ≡ x → ⊥) → find b (x ∷ r) ≡ suc (find b r)
unfolding first
find_other b x r n = rw (ne_eqb b x n)

find_same : (b : ℕ) (r : List ℕ) → find b (b ∷ r) ≡ 0
unfolding first
find_same b r = rw (eq-eqb b b refl)

-- a whole sequence: c stands between two escape delimiters
pub sequence_back : {A : Type 0} (q : Sequences A) (ds : List ℕ) (at : ℕ) (c r : List ℕ) (xs : List A)
    → find (escape_of ds) (c ++ escape_of ds ∷ r) ≡ length c → q.known c ≡ true → q.meaning ds c ≡ xs
    → scan q ds at 0 (escape_of ds ∷ (c ++ escape_of ds ∷ r)) ≡ before xs (scan q ds (at + (length c + 2)) 0 r)
sequence_back {A} q ds at c r xs f k m =
    let e = escape_of ds in
    let s = c ++ e ∷ r in
    let n = length c in
    let t : take n s ≡ c = take-append_seam c (e ∷ r) in
    let l : length s ≡ n + suc (length r) = length-append c (e ∷ r) in
    let p = step_known q ds e s n refl f (omega arith) (ap q.known t ∙ k) in
    scan_emit q ds at e s (q.meaning ds (take n s)) (n + 1) p
    ∙ ap (λ (ys : List A). before ys (scan q ds (at + 1) (n + 1) s)) (ap (q.meaning ds) t ∙ m)
    ∙ ap (before xs) (scan_skip q ds (at + 1) (n + 1) s
    ∙ ap (λ (l : List ℕ). scan q ds ((at + 1) + (n + 1)) 0 l) (drop-append-add c (e ∷ r) 1)
    ∙ ap (λ (n : ℕ). scan q ds n 0 r) (omega arith))

hex_known : (h l : ℕ) → hex_of h < 16 → hex_of l < 16 → known (88 ∷ h ∷ l ∷ []) ≡ true
unfolding known all_hex
hex_known h l p q = rw (lt-ltb (hex_of h) 16 p) (rw (lt-ltb (hex_of l) 16 q))

hex_meaning : (ds : List ℕ) (h l b : ℕ) → hex_of h ≡ b / 16 → hex_of l ≡ b % 16 → meaning ds (88 ∷ h ∷ l ∷ []) ≡ b ∷ []
unfolding meaning pairs_of
hex_meaning ds h l b p q = let e : hex_of h * 16 + hex_of l ≡ b = omega arith in ap (λ (x : ℕ). x ∷ []) e

-- a list of bytes, as every slice of them is
abbrev pub AreBytes : List ℕ → Type 0
AreBytes t = (i : ℕ) → get_or t i 0 < 256

-- what is no delimiter is not the escape delimiter
pub no_delimiter : (ds : List ℕ) → length ds ≡ 5 → (b : ℕ) → 5 ≤ find b ds → b ≡ escape_of ds → ⊥
no_delimiter ds five b h e =
    let z = find_own ds 3 (omega arith) in
    let q : find b ds ≡ find (escape_of ds) ds = ap (λ (x : ℕ). find x ds) e in
    omega arith

-- those of plain text are among the sequences q, and say the same bytes
abbrev pub HoldsPlainText : {A : Type 0} → Sequences A → List ℕ → Type 0
HoldsPlainText q ds = (c : List ℕ) → known c ≡ true → (q.known c ≡ true) × (q.meaning ds c ≡ map q.plain (meaning ds c))

plain_holds : (ds : List ℕ) → HoldsPlainText plain_text ds
plain_holds ds c k = (k, sym (map-id (meaning ds c)))

module _ (ds : List ℕ) (five : length ds ≡ 5) (fine : first_wrong_delimiter ds ≡ 5) where
  escape_at : (x : ℕ) (r : List ℕ) → permitted x ≡ false → find (escape_of ds) (x ∷ r) ≡ suc (find (escape_of ds) r)
  escape_at x r f = find_other (escape_of ds) x r (escape_not ds five fine x f)

  -- a byte that may not be a delimiter is none
  pub absent : (x : ℕ) → permitted x ≡ false → 5 ≤ find x ds
  absent x f = by (ltb (find x ds) 5) refl
    where
      by : (t : Bool) → ltb (find x ds) 5 ≡ t → 5 ≤ find x ds
      by true e =
          let h = ltb-true (find x ds) 5 e in
          let z : true ≡ false = sym (delimiter_permitted ds five fine (find x ds) h) ∙ ap permitted (find_is x ds (omega arith)) ∙ f in
          false_true (sym z)
      by false e = ltb-false (find x ds) 5 e

  module _ {A : Type 0} (q : Sequences A) where
    abbrev Back : ℕ → ℕ → List ℕ → List ℕ → Type 0
    Back b at r w = scan q ds at 0 (w ++ r) ≡ before (q.plain b ∷ []) (scan q ds (at + length w) 0 r)

    plain_read : (b at : ℕ) (r : List ℕ) → 5 ≤ find b ds → printable b ≡ true → Back b at r (b ∷ [])
    plain_read b at r h a = scan_emit q ds at b r (q.plain b ∷ []) 0 (step_plain q ds b r (no_delimiter ds five b h) a h)

    module _ (holds : HoldsPlainText q ds) where
      known_back : (at : ℕ) (c r t : List ℕ) → find (escape_of ds) (c ++ escape_of ds ∷ r) ≡ length c → known c ≡ true → meaning ds c ≡ t
          → scan q ds at 0 (escape_of ds ∷ (c ++ escape_of ds ∷ r)) ≡ before (map q.plain t) (scan q ds (at + (length c + 2)) 0 r)
      known_back at c r t f k m = sequence_back q ds at c r (map q.plain t) f (holds c k).0 ((holds c k).1 ∙ ap (map q.plain) m)

      letter_read : (b at : ℕ) (r : List ℕ) → find b ds < 5 → Back b at r (escape_of ds ∷ get_or letters (find b ds) 0 ∷ escape_of ds ∷ [])
      unfolding known meaning
      letter_read b at r h =
          let L = get_or letters (find b ds) 0 in
          let o = letter_back (find b ds) h in
          known_back at (L ∷ []) r (b ∷ [])
          (escape_at L (escape_of ds ∷ r) o.0 ∙ ap suc (find_same (escape_of ds) r))
          (lt-ltb (find L letters) 5 (omega arith))
          (ap (λ (x : ℕ). get_or ds x 0 ∷ []) o.1 ∙ ap (λ (x : ℕ). x ∷ []) (find_is b ds (omega arith)))

      hex_read : (b at : ℕ) (r : List ℕ) → b < 256 → Back b at r (escape_of ds ∷ 88 ∷ hex_digit (b / 16) ∷ hex_digit (b % 16) ∷ escape_of ds ∷ [])
      hex_read b at r h =
          let e = escape_of ds in
          let x = hex_digit (b / 16) in
          let y = hex_digit (b % 16) in
          let p = digit_back (b / 16) (omega arith) in
          let o = digit_back (b % 16) (omega arith) in
          known_back at (88 ∷ x ∷ y ∷ []) r (b ∷ [])
          (escape_at 88 (x ∷ y ∷ e ∷ r) refl ∙ ap suc (escape_at x (y ∷ e ∷ r) p.0 ∙ ap suc (escape_at y (e ∷ r) o.0 ∙ ap suc (find_same e r))))
          (hex_known x y (omega arith) (omega arith))
          (hex_meaning ds x y b p.1 o.1)

      -- one byte, whatever follows
      byte_back : (b at : ℕ) (r : List ℕ) → b < 256 → Back b at r (escape_byte ds b)
      byte_back b at r small = by (ltb (find b ds) 5) refl (printable b) refl
        where
          by : (t : Bool) → ltb (find b ds) 5 ≡ t → (u : Bool) → printable b ≡ u → Back b at r (escape_byte ds b)
          by true p u o =
              let h = ltb-true (find b ds) 5 p in
              subst⁻¹ (Back b at r) (written_letter ds b (find b ds) refl h) (letter_read b at r h)
          by false p true o =
              let h = ltb-false (find b ds) 5 p in
              subst⁻¹ (Back b at r) (written_plain ds b h o) (plain_read b at r h o)
          by false p false o =
              let h = ltb-false (find b ds) 5 p in
              subst⁻¹ (Back b at r) (written_hex ds b h o) (hex_read b at r small)

      bytes_back : (t : List ℕ) (at : ℕ) → AreBytes t → scan q ds at 0 (escape_bytes ds t) ≡ text (map q.plain t)
      unfolding escape_bytes scan
      bytes_back [] at small = refl
      bytes_back (b ∷ t) at small =
          byte_back b at (escape_bytes ds t) (small 0) ∙ ap (before (q.plain b ∷ [])) (bytes_back t (at + length (escape_byte ds b)) (λ i. small (suc i)))

      quotes_back : scan q ds 0 0 (two_quotes ds) ≡ text (map q.plain (34 ∷ 34 ∷ []))
      unfolding known meaning all_hex pairs_of scan
      quotes_back =
          let e = escape_of ds in
          known_back 0 (88 ∷ 50 ∷ 50 ∷ 50 ∷ 50 ∷ []) [] (34 ∷ 34 ∷ [])
          (escape_at 88 (50 ∷ 50 ∷ 50 ∷ 50 ∷ e ∷ []) refl
          ∙ ap suc (escape_at 50 (50 ∷ 50 ∷ 50 ∷ e ∷ []) refl
          ∙ ap suc (escape_at 50 (50 ∷ 50 ∷ e ∷ []) refl
          ∙ ap suc (escape_at 50 (50 ∷ e ∷ []) refl
          ∙ ap suc (escape_at 50 (e ∷ []) refl
          ∙ ap suc (find_same e []))))))
          refl
          refl

      -- the scan of what is written is what the text's bytes say
      pub scan_back : (t : List ℕ) → AreBytes t → scan q ds 0 0 (escape ds t) ≡ text (map q.plain t)
      scan_back t small = by (is_null t) refl
        where
          by : (u : Bool) → is_null t ≡ u → scan q ds 0 0 (escape ds t) ≡ text (map q.plain t)
          by true e = ap (scan q ds 0 0) (escape_null ds t e) ∙ quotes_back ∙ ap (λ (l : List ℕ). text (map q.plain l)) (sym (two_quotes_lem t e))
          by false e = ap (scan q ds 0 0) (escape_other ds t e) ∙ bytes_back t 0 small

  -- in plain text it is the text
  pub plain_back : (t : List ℕ) → AreBytes t → scan plain_text ds 0 0 (escape ds t) ≡ text t
  plain_back t small = scan_back plain_text (plain_holds ds) t small ∙ ap text (map-id t)

  quotes_plain : scan plain_text ds 0 0 (34 ∷ 34 ∷ []) ≡ text (34 ∷ 34 ∷ [])
  unfolding scan
  quotes_plain =
      plain_read plain_text 34 0 (34 ∷ []) (absent 34 refl) refl
      ∙ ap (before (34 ∷ [])) (plain_read plain_text 34 (0 + 1) [] (absent 34 refl) refl)

  -- what is written is not null
  pub never_null : (t : List ℕ) → AreBytes t → is_null (escape ds t) ≡ false
  never_null t small = by (is_null t) refl (is_null (escape_bytes ds t)) refl
    where
      by : (u : Bool) → is_null t ≡ u → (v : Bool) → is_null (escape_bytes ds t) ≡ v → is_null (escape ds t) ≡ false
      by true e v f = ap is_null (escape_null ds t e)
      by false e false f = ap is_null (escape_other ds t e) ∙ f
      by false e true f =
          let w : text t ≡ text (34 ∷ 34 ∷ []) =
          sym (plain_back t small) ∙ ap (scan plain_text ds 0 0) (escape_other ds t e ∙ two_quotes_lem (escape_bytes ds t) f) ∙ quotes_plain in
          let z : t ≡ 34 ∷ 34 ∷ [] = cc in
          false_true (sym e ∙ ap is_null z)

  -- unescaping what was escaped gives the text again, where there is room for it
  pub round_trip : (t : List ℕ) (room : ℕ) → AreBytes t → unescaping ds (escape ds t) room ≡ fitting room (text t)
  unfolding unescaping
  round_trip t room small =
      let b : 5 ≤ first_wrong_delimiter ds = omega arith in
      rw (le-ltb (first_wrong_delimiter ds) 5 b) (rw (never_null t small) (rw (plain_back t small)))
