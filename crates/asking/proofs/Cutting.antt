-- How many words a line has, by its spaces. Assumes nothing.
use Prim.Native.Nat.{ℕ, ◌+◌, ◌≤◌}
use mathlib.Core.Path.{◌≡◌, refl, sym, ◌∙◌}
use mathlib.Core.Bool.{Bool, true, false, cond}
use mathlib.Core.List.{List, [], ◌∷◌}
use native.Mathlib.Omega.{arith}
use lib.Dec.{eqb}
use lib.ListN.{length}
use borrow.Author.Tests.{eq-eqb, ne_eqb}
use Rattle.std.specs.List.{count_by}
use Rattle.std.proofs.lemmas.Bool.{eqb-true}
use Rattle.std.proofs.lemmas.List.Sums.{sum_by-cons}
use Rattle.alphabet.specs.Parts.{grown, split}
use Rattle.alphabet.proofs.PartLaws.{split_some}
use Rattle.asking.specs.Words.{words}

grown_length : (x : ℕ) (ws : List (List ℕ)) → 1 ≤ length ws → length (grown x ws) ≡ length ws
grown_length x [] h = absurd (omega arith)
grown_length x (w ∷ ws) h = refl

eqb_turned : (a b : ℕ) → eqb a b ≡ eqb b a
eqb_turned a b = at (eqb b a) refl
  where
    at : (t : Bool) → eqb b a ≡ t → eqb a b ≡ t
    at true e = eq-eqb a b (sym (eqb-true b a e))
    at false e = ne_eqb a b (λ s. let z : true ≡ false = sym (eq-eqb b a (sym s)) ∙ e in cc)

-- how many of the bytes are spaces, byte by byte
count_more : (b : ℕ) (r : List ℕ) → count_by (λ k. eqb k 32) (b ∷ r) ≡ cond (eqb b 32) 1 0 + count_by (λ k. eqb k 32) r
count_more b r = sum_by-cons (λ k. cond (eqb k 32) 1 0) b r

pub word_count : (l : List ℕ) → length (words l) ≡ count_by (λ b. eqb b 32) l + 1
unfolding split
word_count [] = refl
word_count (b ∷ r) = at (eqb b 32) refl (word_count r)
  where
    at : (t : Bool) → eqb b 32 ≡ t → length (words r) ≡ count_by (λ k. eqb k 32) r + 1 → length (words (b ∷ r)) ≡ count_by (λ k. eqb k 32) (b ∷ r) + 1
    at true e h = rw (count_more b r, eqb_turned 32 b, e) (omega (arith, h))
    at false e h = rw (count_more b r, eqb_turned 32 b, e) (omega (arith, h, grown_length b (words r) (split_some 32 r)))
