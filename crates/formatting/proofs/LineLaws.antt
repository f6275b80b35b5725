-- The bytes of the present line, at the front of a longer list: what is put behind them stands behind them. Assumes
-- nothing.
use mathlib.Core.Path.{◌≡◌, refl, sym, ap, ap₂, ◌∙◌}
use mathlib.Core.List.{List, [], ◌++◌, append-nil}
use mathlib.Core.Bool.{Bool, true, false}
use Prim.Native.Nat.{ℕ, ◌+◌, ◌≤◌}
use native.Mathlib.Omega.{arith}
use lib.ListN.{length, take, drop, length-append, length-replicate, take-append-drop}
use lib.Seq.{take-take, take-append_seam}
use Rattle.alphabet.specs.Filling.{pasted, put_at}
use Rattle.alphabet.proofs.FillingLaws.{put_fits}
use Rattle.formatting.specs.Sheet.{Sheet, blanks, is_empty, lead}
use Rattle.formatting.specs.declared.page.Page.{Page}
use Rattle.formatting.specs.Pages.{lead_of, reach_of, ahead, Matches}
use Rattle.formatting.proofs.OutputLaws.{put_length}
use Rattle.formatting.proofs.SheetLaws.{ahead_length}
use Rattle.formatting.proofs.PageLaws.{reach_exact, empty_is}

-- what begins with more begins with less
pub begins_less : (t xs ys : List ℕ) → take (length (xs ++ ys)) t ≡ xs ++ ys → take (length xs) t ≡ xs
begins_less t xs ys e =
    let n = length-append xs ys in
    sym (take-take (length xs) (length (xs ++ ys)) t (omega arith)) ∙ ap (take (length xs)) e ∙ take-append_seam xs ys

pub begins_more : (t xs ys : List ℕ) (n : ℕ) → n ≡ length xs → take n t ≡ xs → n + length ys ≤ length t → take (length (xs ++ ys)) (pasted t n ys) ≡ xs ++ ys
begins_more t xs ys n e f h =
    let z = ap (λ (v : List ℕ). v ++ ys ++ drop (n + length ys) t) f in
    ap (take (length (xs ++ ys))) z ∙ take-append_seam (xs ++ ys) (drop (n + length ys) t)

-- what stands there already changes nothing
pasted_same : (t xs ys : List ℕ) (n : ℕ) → n ≡ length xs → take (length (xs ++ ys)) t ≡ xs ++ ys → pasted t n ys ≡ t
pasted_same t xs ys n e f =
    let m : n + length ys ≡ length (xs ++ ys) = let k = length-append xs ys in omega arith in
    ap (λ (v : List ℕ). v ++ ys ++ drop (n + length ys) t) (ap (λ (k : ℕ). take k t) e ∙ begins_less t xs ys f)
    ∙ ap (λ (k : ℕ). xs ++ ys ++ drop k t) m ∙ ap (λ (v : List ℕ). v ++ drop (length (xs ++ ys)) t) (sym f) ∙ take-append-drop (length (xs ++ ys)) t

-- the blanks that are owed, and bytes behind them
abbrev pub put_down : Page → List ℕ → List ℕ → List ℕ
put_down c t u = put_at (put_at t c.line (blanks (lead_of c))) (reach_of c) u

pub down_length : (c : Page) (t u : List ℕ) → length t ≡ 200 → length (put_down c t u) ≡ 200
down_length c t u b = put_length (put_at t c.line (blanks (lead_of c))) u (reach_of c) ∙ put_length t (blanks (lead_of c)) c.line ∙ b

module _ {d₀ : List ℕ} {s : Sheet} {c : Page} {t d : List ℕ} (m : Matches d₀ s c t d) (u : List ℕ) (broad : length t ≡ 200) (h : reach_of c + length u ≤ 200) where
  exact : (length (ahead s) ≡ reach_of c) × (lead s ≡ lead_of c)
  exact = reach_exact m (omega arith)

  first_put : put_at t c.line (blanks (lead_of c)) ≡ pasted t (length s.line) (blanks (lead s))
  unfolding reach_of
  first_put =
      let n = length-replicate {A = ℕ} (lead_of c) 32 in
      (put_fits t (blanks (lead_of c)) c.line (omega arith)).1 ∙ ap₂ (λ (x y : ℕ). pasted t x (blanks y)) m.line (sym exact.1)

  first_length : length (put_at t c.line (blanks (lead_of c))) ≡ 200
  first_length = put_length t (blanks (lead_of c)) c.line ∙ broad

  abbrev front : List ℕ
  front = s.line ++ blanks (lead s)

  lengths : length front ≡ length s.line + lead s
  lengths = length-append s.line (blanks (lead s)) ∙ ap (λ (n : ℕ). length s.line + n) (length-replicate (lead s) 32)

  begun : (v : Bool) → is_empty s.word ≡ v → take (length (ahead s)) (pasted t (length s.line) (blanks (lead s))) ≡ ahead s
  begun false e = ap (take (length (ahead s))) (pasted_same t s.line (blanks (lead s)) (length s.line) refl (begins_less t front s.word (m.begun e))) ∙ m.begun e
  begun true e =
      let w : s.word ≡ [] = empty_is s.word e in
      let a = lengths in
      let b = exact.0 in
      let x = ahead_length s in
      let y = length-replicate {A = ℕ} (lead s) 32 in
      let q : ahead s ≡ front = ap (λ (v : List ℕ). front ++ v) w ∙ append-nil front in
      ap (λ (v : List ℕ). take (length v) (pasted t (length s.line) (blanks (lead s)))) q
      ∙ begins_more t s.line (blanks (lead s)) (length s.line) refl m.bytes (omega arith) ∙ sym q

  -- the bytes stand behind the line, its debt and its word
  pub put_begins : take (length (ahead s ++ u)) (put_down c t u) ≡ ahead s ++ u
  put_begins =
      let a = exact.0 in
      let n : length (pasted t (length s.line) (blanks (lead s))) ≡ 200 = ap length (sym first_put) ∙ first_length in
      ap (λ (v : List ℕ). take (length (ahead s ++ u)) (put_at v (reach_of c) u)) first_put
      ∙ ap (take (length (ahead s ++ u))) (put_fits (pasted t (length s.line) (blanks (lead s))) u (reach_of c) (omega arith)).1
      ∙ begins_more (pasted t (length s.line) (blanks (lead s))) (ahead s) u (reach_of c) (sym a)
      (ap (λ (k : ℕ). take k (pasted t (length s.line) (blanks (lead s)))) (sym a) ∙ begun (is_empty s.word) refl) (omega arith)
