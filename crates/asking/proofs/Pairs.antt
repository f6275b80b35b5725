-- Laws of words that say bytes: what the whole word says. Assumes nothing.
use Prim.Native.Nat.{ℕ, ◌+◌, ◌*◌, ◌≤◌, ◌<◌}
use mathlib.Core.Path.{◌≡◌, refl, sym, ap, ◌∙◌}
use mathlib.Core.Bool.{true, false, cond}
use mathlib.Core.List.{List, [], ◌∷◌, ◌++◌}
use native.Mathlib.Omega.{arith}
use lib.ListN.{length, get_or, take, drop, set}
use borrow.Author.Tests.{le-leb, lt-leb, ne_eqb}
use lib.Dec.{eqb}
use Rattle.std.specs.Prelude.{Some, None}
use Rattle.std.proofs.lemmas.Bool.{eqb-true}
use Rattle.alphabet.specs.Lists.{same}
use Rattle.alphabet.proofs.BoolLaws.{false_true}
use Rattle.alphabet.proofs.ListLaws.{same_is, same_own}
use Rattle.alphabet.specs.Bytes.{hex_of}
use Rattle.alphabet.specs.Hex.{all_hex, pairs_of}
use Rattle.alphabet.proofs.HexLaws.{pairs_next}
use Rattle.asking.proofs.Lists.{front_more}
use Rattle.asking.specs.Hex.{said, fitting}

pub said_dash : (l : List ℕ) → same l (45 ∷ []) ≡ true → said l ≡ Some []
unfolding said
said_dash l e = rw (same_is l (45 ∷ []) e) refl

pub said_empty : (l : List ℕ) → eqb (length l) 0 ≡ true → said l ≡ None
unfolding said
said_empty [] e = refl
said_empty (a ∷ r) e = absurd (let z = eqb-true (length (a ∷ r)) 0 e in omega arith)

pub said_pairs : (l : List ℕ) → same l (45 ∷ []) ≡ false → eqb (length l) 0 ≡ false → said l ≡ cond (all_hex l) (Some (pairs_of l)) None
unfolding said all_hex
said_pairs [] n e = false_true (sym e)
said_pairs (a ∷ []) n e = rw (ne_eqb a 45 (λ d. false_true (sym n ∙ ap (λ k. same (k ∷ []) (45 ∷ [])) d ∙ same_own (45 ∷ []))))
said_pairs (a ∷ b ∷ r) n e = refl

-- no digits are pairs of digits, and say no bytes
pub none_said : all_hex [] ≡ true
unfolding all_hex
none_said = refl

pub none_paired : pairs_of [] ≡ []
unfolding pairs_of
none_paired = refl

-- what is said where there is room for it, and where there is not
module _ (room : ℕ) (xs : List ℕ) where
  pub fits : length xs ≤ room → fitting room (Some xs) ≡ Some xs
  unfolding fitting
  fits h = rw (le-leb (length xs) room h)

  pub too_long : room < length xs → fitting room (Some xs) ≡ None
  unfolding fitting
  too_long h = rw (lt-leb (length xs) room h)

-- a pair more is written: the front and what is left still say what the whole says
pub pair_more : (w b : List ℕ) (p v : ℕ) → 2 * p + 1 < length w → p < length b → v ≡ hex_of (get_or w (2 * p) 0) * 16 + hex_of (get_or w (2 * p + 1) 0)
    → pairs_of w ≡ take p b ++ pairs_of (drop (2 * p) w) → pairs_of w ≡ take (p + 1) (set b p v) ++ pairs_of (drop (2 * (p + 1)) w)
pair_more w b p v h k e s =
    let n : 2 * p + 2 ≡ 2 * (p + 1) = omega arith in
    s ∙ ap (λ r. take p b ++ r) (pairs_next w (2 * p) h ∙ ap (λ u. u ∷ pairs_of (drop (2 * p + 2) w)) (sym e))
    ∙ sym (front_more b (pairs_of (drop (2 * p + 2) w)) p v k) ∙ ap (λ m. take (p + 1) (set b p v) ++ pairs_of (drop m w)) n
