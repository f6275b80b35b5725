-- Bytes on a line, from their end: the last word, and the blanks before it. Assumes nothing.
use mathlib.Core.Path.{◌≡◌, refl, sym, ap, ap₂, ◌∙◌}
use mathlib.Core.List.{List, [], ◌∷◌, ◌++◌, append_assoc, append-nil}
use mathlib.Core.Bool.{Bool, true, false, not, ◌||◌}
use Prim.Native.Nat.{ℕ, zero, suc, ◌+◌, ◌-◌, ◌≤◌, ◌<◌}
use native.Mathlib.Omega.{arith}
use lib.Dec.{eqb}
use lib.ListN.{length, get_or, take, drop, replicate-append-replicate, take-append-drop}
use lib.Seq.{take_all, length-take-le}
use borrow.Author.Tests.{ne_eqb}
use Rattle.alphabet.proofs.BoolLaws.{and_both}
use Rattle.alphabet.proofs.ListLaws.{drop_next}
use Rattle.formatting.specs.Sheet.{blanks}
use Rattle.formatting.specs.Runs.{clear, firm, inked, blankless}

pub blankless_next : (l : List ℕ) (j : ℕ) → 0 < j → j ≤ length l → (get_or l (j - 1) 0 ≡ 32 → ⊥) → blankless (drop j l) ≡ true → blankless (drop (j - 1) l) ≡ true
unfolding blankless
blankless_next l j h k n e =
    let i : (j - 1) + 1 ≡ j = omega arith in
    ap blankless (drop_next l (j - 1) (omega arith)) ∙ rw (ne_eqb _ _ n) (ap (λ (m : ℕ). blankless (drop m l)) i ∙ e)

pub clear_drop : (n : ℕ) (l : List ℕ) → clear l ≡ true → clear (drop n l) ≡ true
unfolding clear
clear_drop zero l c = c
clear_drop (suc n) [] c = refl
clear_drop (suc n) (b ∷ r) c = clear_drop n r (and_both (not (eqb b 10 || eqb b 13)) (clear r) c).1

pub clear_take : (n : ℕ) (l : List ℕ) → clear l ≡ true → clear (take n l) ≡ true
unfolding clear
clear_take zero l c = refl
clear_take (suc n) [] c = refl
clear_take (suc n) (b ∷ r) c =
    let q = and_both (not (eqb b 10 || eqb b 13)) (clear r) c in
    rw q.0 (clear_take n r q.1)

pub inked_of : (l : List ℕ) → clear l ≡ true → blankless l ≡ true → inked l ≡ true
unfolding clear blankless inked
inked_of [] c e = refl
inked_of (b ∷ r) c e =
    let q = and_both (not (eqb b 10 || eqb b 13)) (clear r) c in
    let p = and_both (not (eqb b 32)) (blankless r) e in
    rw (by (eqb b 32) (eqb b 13) (eqb b 10) p.0 q.0) (inked_of r q.1 p.1)
  where
    by : (x y z : Bool) → not x ≡ true → not (z || y) ≡ true → not (x || (y || z)) ≡ true
    by true y z h k = h
    by false true true h k = k
    by false true false h k = k
    by false false true h k = k
    by false false false h k = refl

pub firm_take : (l : List ℕ) (e : ℕ) → 0 < e → e ≤ length l → (get_or l (e - 1) 0 ≡ 32 → ⊥) → firm (take e l) ≡ true
unfolding firm
firm_take [] e h k n = absurd (omega arith)
firm_take (b ∷ r) zero h k n = absurd (omega arith)
firm_take (b ∷ r) (suc zero) h k n = ap not (ne_eqb b 32 n)
firm_take (b ∷ []) (suc (suc e)) h k n = absurd (omega arith)
firm_take (b ∷ x ∷ r) (suc (suc e)) h k n =
    firm_take (x ∷ r) (suc e) (omega arith) (omega arith) (λ (q : get_or (x ∷ r) (suc e - 1) 0 ≡ 32). n (by q))
  where
    by : get_or (x ∷ r) (suc e - 1) 0 ≡ 32 → get_or (b ∷ x ∷ r) (suc (suc e) - 1) 0 ≡ 32
    by q =
        let i : suc e - 1 ≡ e = omega arith in
        let j : suc (suc e) - 1 ≡ suc e = omega arith in
        ap (λ (m : ℕ). get_or (b ∷ x ∷ r) m 0) j ∙ ap (λ (m : ℕ). get_or (x ∷ r) m 0) (sym i) ∙ q

pub trim_next : (l : List ℕ) (e : ℕ) → 0 < e → e ≤ length l → get_or l (e - 1) 0 ≡ 32 → l ≡ take e l ++ blanks (length l - e) → l ≡ take (e - 1) l ++ blanks (length l - (e - 1))
trim_next l e h k b q =
    let i : (e - 1) + 1 ≡ e = omega arith in
    let n : length l - (e - 1) ≡ suc (length l - e) = omega arith in
    q ∙ ap (λ (m : ℕ). take m l ++ blanks (length l - e)) (sym i) ∙ ap (λ (v : List ℕ). v ++ blanks (length l - e)) (take_next l (e - 1) (omega arith) ∙ ap (λ (x : ℕ). take (e - 1) l ++ x ∷ []) b)
    ∙ append_assoc (take (e - 1) l) (32 ∷ []) (blanks (length l - e)) ∙ ap (λ (m : ℕ). take (e - 1) l ++ blanks m) (sym n)
  where
    take_next : (l : List ℕ) (i : ℕ) → i < length l → take (i + 1) l ≡ take i l ++ get_or l i 0 ∷ []
    take_next [] i h = absurd (omega arith)
    take_next (x ∷ r) zero h = refl
    take_next (x ∷ r) (suc i) h = let e : suc i + 1 ≡ suc (i + 1) = omega arith in ap (λ (m : ℕ). take m (x ∷ r)) e ∙ ap (λ (v : List ℕ). x ∷ v) (take_next r i (omega arith))

pub trim_start : (l : List ℕ) → l ≡ take (length l) l ++ blanks (length l - length l)
trim_start l =
    let n : length l - length l ≡ 0 = omega arith in
    sym (ap (λ (m : ℕ). take (length l) l ++ blanks m) n ∙ append-nil (take (length l) l) ∙ take_all (length l) l (omega arith))

-- bytes that end in a blank and then a word: words, blanks, and a word
pub split_run : (u : List ℕ) (start end : ℕ) → 0 < start → start ≤ length u → get_or u (start - 1) 0 ≡ 32
    → take (start - 1) u ≡ take end (take (start - 1) u) ++ blanks (length (take (start - 1) u) - end)
    → u ≡ take end (take (start - 1) u) ++ (blanks (suc ((start - 1) - end)) ++ drop start u)
split_run u start end h k b e =
    let i : (start - 1) + 1 ≡ start = omega arith in
    let n = length-take-le (start - 1) u (omega arith) in
    let m : ((start - 1) - end) + 1 ≡ suc ((start - 1) - end) = omega arith in
    let p = take end (take (start - 1) u) in
    let a = blanks ((start - 1) - end) in
    let q = drop start u in
    sym (take-append-drop (start - 1) u)
    ∙ ap₂ ◌++◌ (e ∙ ap (λ (x : ℕ). p ++ blanks (x - end)) n) (drop_next u (start - 1) (omega arith) ∙ ap₂ ◌∷◌ b (ap (λ (x : ℕ). drop x u) i))
    ∙ append_assoc p a (32 ∷ q) ∙ ap (λ (v : List ℕ). p ++ v) (sym (append_assoc a (32 ∷ []) q) ∙ ap (λ (v : List ℕ). v ++ q) (replicate-append-replicate ((start - 1) - end) 1 32 ∙ ap blanks m))
