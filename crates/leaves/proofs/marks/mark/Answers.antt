-- Rests on `block_marked`: the six sums of a block are its marks.
use Prim.Native.Nat.{ℕ, ◌≤◌, ◌%◌}
use mathlib.Core.Path.{◌≡◌, refl}
use native.Mathlib.Omega.{arith}
use Rattle.alphabet.specs.Lists.{among}
use Rattle.leaves.specs.Walks.{Light, sum_of}
use Rattle.leaves.proofs.MarkLaws.{light_block, sum_most, block_marked}
use Rattle.leaves.proofs.marks.mark.Goals.{After-sum, After-sum-2, After-sum-3, After-sum-4, After-sum-5, After-sum-6, After-weights_of-weights}
use Rattle.leaves.proofs.marks.mark.Goals as goal

light : (c : After-weights_of-weights) (at : ℕ) → at ≤ 40 → at % 8 ≡ 0 → Light c.weights_of-weights.result at
light c at h z =
    let e = c.weights_of-weights.ensures in
    light_block (among c.args.ends) c.args.block.now c.weights_of-weights.result e.0 c.requires e.1 at h z

small : (c : After-weights_of-weights) (at r : ℕ) → at ≤ 40 → at % 8 ≡ 0 → r ≡ sum_of c.weights_of-weights.result at → r ≤ 255
small c at r h z e = let m = sum_most c.weights_of-weights.result at (light c at h z) in omega arith

first : (c : After-sum) → c.sum.result ≤ 255
first c = small (goal.at.After-sum c).After-weights_of-weights 0 _ (omega arith) refl c.sum.ensures

second : (c : After-sum-2) → c.sum-2.result ≤ 255
second c = small (goal.at.After-sum-2 c).After-weights_of-weights 8 _ (omega arith) refl c.sum-2.ensures

third : (c : After-sum-3) → c.sum-3.result ≤ 255
third c = small (goal.at.After-sum-3 c).After-weights_of-weights 16 _ (omega arith) refl c.sum-3.ensures

fourth : (c : After-sum-4) → c.sum-4.result ≤ 255
fourth c = small (goal.at.After-sum-4 c).After-weights_of-weights 24 _ (omega arith) refl c.sum-4.ensures

fifth : (c : After-sum-5) → c.sum-5.result ≤ 255
fifth c = small (goal.at.After-sum-5 c).After-weights_of-weights 32 _ (omega arith) refl c.sum-5.ensures

sixth : (c : After-sum-6) → c.sum-6.result ≤ 255
sixth c = small (goal.at.After-sum-6 c).After-weights_of-weights 40 _ (omega arith) refl c.sum-6.ensures

-- all six at the end
pub record Small (c : After-sum-6) : Type 0 where
  pub s₆ : c.sum-6.result ≤ 255
  pub s₅ : c.sum-5.result ≤ 255
  pub s₄ : c.sum-4.result ≤ 255
  pub s₃ : c.sum-3.result ≤ 255
  pub s₂ : c.sum-2.result ≤ 255
  pub s₁ : c.sum.result ≤ 255

all_small : (c : After-sum-6) → Small c
all_small c =
    record {
      s₆ = sixth c;
      s₅ = fifth (goal.at.After-sum-6 c).After-sum-5;
      s₄ = fourth (goal.at.After-sum-6 c).After-sum-4;
      s₃ = third (goal.at.After-sum-6 c).After-sum-3;
      s₂ = second (goal.at.After-sum-6 c).After-sum-2;
      s₁ = first (goal.at.After-sum-6 c).After-sum;
    }

pub returns : goal.returns
returns c =
    let e₁ = c.sum.ensures in
    let e₂ = c.sum-2.ensures in
    let e₃ = c.sum-3.ensures in
    let e₄ = c.sum-4.ensures in
    let e₅ = c.sum-5.ensures in
    let e₆ = c.sum-6.ensures in
    let m = block_marked (among c.args.ends) c.args.block.now c.weights_of-weights.result c.weights_of-weights.ensures.0 c.requires in
    omega arith

pub sum-requires : goal.sum-requires
sum-requires c = light (goal.at.sum-requires c).After-weights_of-weights 0 (omega arith) refl

pub sum-requires-2 : goal.sum-requires-2
sum-requires-2 c = light (goal.at.sum-requires-2 c).After-weights_of-weights 8 (omega arith) refl

pub overflow_mul-front : goal.overflow_mul-front
overflow_mul-front c = let s = second c in omega arith

pub overflow_add-front : goal.overflow_add-front
overflow_add-front c = let s = second c in let f = first (goal.at.overflow_add-front c).After-sum in omega arith

pub sum-requires-3 : goal.sum-requires-3
sum-requires-3 c = light (goal.at.sum-requires-3 c).After-weights_of-weights 16 (omega arith) refl

pub sum-requires-4 : goal.sum-requires-4
sum-requires-4 c = light (goal.at.sum-requires-4 c).After-weights_of-weights 24 (omega arith) refl

pub overflow_mul-middle : goal.overflow_mul-middle
overflow_mul-middle c = let s = fourth c in omega arith

pub overflow_add-middle : goal.overflow_add-middle
overflow_add-middle c = let s = fourth c in let f = third (goal.at.overflow_add-middle c).After-sum-3 in omega arith

pub sum-requires-5 : goal.sum-requires-5
sum-requires-5 c = light (goal.at.sum-requires-5 c).After-weights_of-weights 32 (omega arith) refl

pub sum-requires-6 : goal.sum-requires-6
sum-requires-6 c = light (goal.at.sum-requires-6 c).After-weights_of-weights 40 (omega arith) refl

pub overflow_mul-back : goal.overflow_mul-back
overflow_mul-back c = let s = sixth c in omega arith

pub overflow_add-back : goal.overflow_add-back
overflow_add-back c = let s = sixth c in let f = fifth (goal.at.overflow_add-back c).After-sum-5 in omega arith

pub overflow_mul-result : goal.overflow_mul-result
overflow_mul-result c = let s = all_small c in omega arith

pub overflow_add-result : goal.overflow_add-result
overflow_add-result c = let s = all_small c in omega arith

pub overflow_mul-result-2 : goal.overflow_mul-result-2
overflow_mul-result-2 c = let s = all_small c in omega arith

pub overflow_add-result-2 : goal.overflow_add-result-2
overflow_add-result-2 c = let s = all_small c in omega arith
