-- What escaping writes holds no separator and no byte that is not allowed; and the round trip as a user of the two functions meets it.
-- Assumes nothing.
use mathlib.Core.Path.{◌≡◌, refl, ap, subst⁻¹, ◌∙◌}
use mathlib.Core.List.{List, [], ◌∷◌}
use mathlib.Core.Bool.{Bool, true, false, not, ◌||◌}
use Prim.Native.Nat.{ℕ, suc, ◌/◌, ◌%◌, ◌≤◌, ◌<◌}
use native.Mathlib.Omega.{arith}
use lib.Dec.{ltb}
use lib.ListN.{length, get_or, take, drop}
use lib.Seq.{take-append_seam}
use borrow.Author.Tests.{le-leb, le-ltb, ltb-true, ltb-false}
use Rattle.std.specs.Prelude.{Ok}
use Rattle.alphabet.specs.Answers.{length_given}
use Rattle.alphabet.proofs.BoolLaws.{and_both, from_to_lem}
use Rattle.alphabet.proofs.DelimiterLaws.{delimiter_permitted}
use Rattle.laws.proofs.EachLaws.{Each, each_append, each_at}
use Rattle.alphabet.specs.Lists.{find}
use Rattle.alphabet.specs.Bytes.{from_to, printable, hex_digit, is_null}
use Rattle.alphabet.specs.Delimiters.{punctuation, never_delimiter, permitted, first_wrong_delimiter}
use Rattle.escaping.specs.Escape.{letters, escape_of, escape_byte, escape_bytes, two_quotes, escape}
use Rattle.escaping.specs.Outcomes.{Outcome, text}
use Rattle.alphabet.specs.Filling.{over}
use Rattle.escaping.specs.Outcomes.{fitting, escaping, answer, filled}
use Rattle.text.specs.Unescape.{unescaping}
use Rattle.escaping.proofs.PieceLaws.{written_letter, written_plain, written_hex}
use Rattle.escaping.proofs.OutcomeLaws.{escape_null, escape_other}
use Rattle.laws.proofs.EscapeTable.{letter_back, digit_back, letter_printable, digit_printable}
use Rattle.laws.proofs.RoundTrip.{AreBytes, absent, round_trip}

-- ---- a delimiter is printable

within : (lo hi b : ℕ) → 32 ≤ lo → hi ≤ 126 → from_to lo hi b ≡ true → printable b ≡ true
within lo hi b l h e =
    let p = from_to_lem lo hi b e in
    rw (le-leb 32 b (omega arith)) (rw (le-leb b 126 (omega arith)))

pub permitted_printable : (b : ℕ) → permitted b ≡ true → printable b ≡ true
permitted_printable b e =
    at (from_to 33 47 b) refl (from_to 58 64 b) refl (from_to 91 96 b) refl (and_both (punctuation b) (not (never_delimiter b)) e).0
  where
    at : (t : Bool) → from_to 33 47 b ≡ t → (u : Bool) → from_to 58 64 b ≡ u → (v : Bool) → from_to 91 96 b ≡ v
        → (t || (u || (v || from_to 123 126 b))) ≡ true → printable b ≡ true
    at true p u q v s k = within 33 47 b (omega arith) (omega arith) p
    at false p true q v s k = within 58 64 b (omega arith) (omega arith) q
    at false p false q true s k = within 91 96 b (omega arith) (omega arith) s
    at false p false q false s k = within 123 126 b (omega arith) (omega arith) k

-- "no separator and no byte that is not allowed": of the delimiters only the escape delimiter stands in what is written
abbrev pub MayStand : List ℕ → ℕ → Type 0
MayStand ds b = (printable b ≡ true) × (find b ds < 5 → b ≡ escape_of ds)

module _ (ds : List ℕ) (five : length ds ≡ 5) (fine : first_wrong_delimiter ds ≡ 5) where
  escape_stands : MayStand ds (escape_of ds)
  escape_stands = (permitted_printable (escape_of ds) (delimiter_permitted ds five fine 3 (omega arith)), λ h. refl)

  other_stands : (x : ℕ) → printable x ≡ true → 5 ≤ find x ds → MayStand ds x
  other_stands x p f = (p, λ h. absurd (omega arith))

  sign_stands : (x : ℕ) → printable x ≡ true → permitted x ≡ false → MayStand ds x
  sign_stands x p f = other_stands x p (absent ds five fine x f)

  byte_clean : (b : ℕ) → b < 256 → Each (MayStand ds) (escape_byte ds b)
  unfolding Each
  byte_clean b small = by (ltb (find b ds) 5) refl (printable b) refl
    where
      by : (t : Bool) → ltb (find b ds) 5 ≡ t → (u : Bool) → printable b ≡ u → Each (MayStand ds) (escape_byte ds b)
      by true p u q =
          let h = ltb-true (find b ds) 5 p in
          let L = sign_stands (get_or letters (find b ds) 0) (letter_printable (find b ds) h) (letter_back (find b ds) h).0 in
          subst⁻¹ (Each (MayStand ds)) (written_letter ds b (find b ds) refl h) (escape_stands, (L, (escape_stands, tt)))
      by false p true q =
          let h = ltb-false (find b ds) 5 p in
          subst⁻¹ (Each (MayStand ds)) (written_plain ds b h q) (other_stands b q h, tt)
      by false p false q =
          let h = ltb-false (find b ds) 5 p in
          let x : b / 16 < 16 = omega arith in
          let y : b % 16 < 16 = omega arith in
          let X = sign_stands (hex_digit (b / 16)) (digit_printable (b / 16) x) (digit_back (b / 16) x).0 in
          let Y = sign_stands (hex_digit (b % 16)) (digit_printable (b % 16) y) (digit_back (b % 16) y).0 in
          subst⁻¹ (Each (MayStand ds)) (written_hex ds b h q) (escape_stands, (sign_stands 88 refl refl, (X, (Y, (escape_stands, tt)))))

  bytes_clean : (t : List ℕ) → AreBytes t → Each (MayStand ds) (escape_bytes ds t)
  unfolding Each escape_bytes
  bytes_clean [] small = tt
  bytes_clean (b ∷ t) small =
      each_append (MayStand ds) (escape_byte ds b) (escape_bytes ds t) (byte_clean b (small 0)) (bytes_clean t (λ i. small (suc i)))

  quotes_clean : Each (MayStand ds) (two_quotes ds)
  unfolding Each
  quotes_clean =
      let two = sign_stands 50 refl refl in
      (escape_stands, (sign_stands 88 refl refl, (two, (two, (two, (two, (escape_stands, tt)))))))

  -- what is written holds no separator and no byte that is not allowed
  pub never_separator : (t : List ℕ) → AreBytes t → (i : ℕ) → i < length (escape ds t) → MayStand ds (get_or (escape ds t) i 0)
  never_separator t small = each_at (MayStand ds) (escape ds t) (by (is_null t) refl)
    where
      by : (u : Bool) → is_null t ≡ u → Each (MayStand ds) (escape ds t)
      by true e = subst⁻¹ (Each (MayStand ds)) (escape_null ds t e) quotes_clean
      by false e = subst⁻¹ (Each (MayStand ds)) (escape_other ds t e) (bytes_clean t small)

  fits : (t : List ℕ) (room : ℕ) → length t ≤ room → fitting room (text t) ≡ text t
  unfolding fitting
  fits t room h = rw (le-leb (length t) room h)

  escaping_fits : (t : List ℕ) (room : ℕ) → length (escape ds t) ≤ room → escaping ds t room ≡ text (escape ds t)
  unfolding escaping
  escaping_fits t room h =
      let b : 5 ≤ first_wrong_delimiter ds = omega arith in
      rw (le-ltb (first_wrong_delimiter ds) 5 b) (fits (escape ds t) room h)

  -- the front of the buffer d, as long as `escape` said, after `escape` wrote t there
  abbrev pub written : List ℕ → List ℕ → List ℕ
  written t d = take (length_given (answer (escaping ds t (length d)))) (filled (escaping ds t (length d)) d)

  -- where both buffers have room, `unescape` of what `escape` left in the one gives the text's length and fills the front of the other with the text
  pub both_ways : (t d e : List ℕ) → AreBytes t → length (escape ds t) ≤ length d → length t ≤ length e
      → (answer (unescaping ds (written t d) (length e)) ≡ Ok (length t))
      × (filled (unescaping ds (written t d) (length e)) e ≡ over t e)
  unfolding answer filled
  both_ways t d e small h k =
      let w = escape ds t in
      let front : written t d ≡ w =
      ap (λ (o : Outcome ℕ). take (length_given (answer o)) (filled o d)) (escaping_fits t (length d) h) ∙ take-append_seam w (drop (length w) d) in
      let back : unescaping ds (written t d) (length e) ≡ text t =
      ap (λ (s : List ℕ). unescaping ds s (length e)) front ∙ round_trip ds five fine t (length e) small ∙ fits t (length e) k in
      (ap answer back, ap (λ (o : Outcome ℕ). filled o e) back)
