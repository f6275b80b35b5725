-- Rests on the laws of a walk along parts: some repetition is present where one from `start` on is.
use borrow.Author.Rules.{rules}
use Prim.Native.Nat.{ℕ, ◌≤◌, ◌-◌, ◌+◌}
use mathlib.Core.Path.{◌≡◌, refl, sym, ap, ◌∙◌}
use mathlib.Core.Bool.{Bool, true, false}
use mathlib.Core.List.{List, [], ◌∷◌}
use lib.Dec.{eqb}
use borrow.Author.Tests.{eqb-true, eqb-false}
use lib.ListN.{length, get_or, take, drop}
use native.Mathlib.Omega.{arith}
use Rattle.alphabet.specs.Parts.{split}
use Rattle.rules.specs.Rules.{some_present}
use Rattle.alphabet.proofs.PartLaws.{walk_in, walk_more, walk_last}
use Rattle.rules.proofs.RuleLaws.{present_here, present_past, present_none}
use Rattle.rules.proofs.checks.some_present.Goals.{After-find, After-is_present}
use Rattle.rules.proofs.checks.some_present.Goals as goal

abbrev field : (c : After-is_present) → List ℕ
field c = c.args.field.now

inside : (c : After-find) → c.loop-delimiters.start + c.find.result ≤ length c.args.field.now
inside c =
    let a = c.args in
    walk_in (get_or a.delimiters.bytes 2 0) a.field.now c.loop-delimiters.start c.find.result c.loop-delimiters.invariant.0 c.find.ensures

abbrev ds : (c : After-is_present) → List ℕ
ds c = c.args.delimiters.bytes

abbrev sep : (c : After-is_present) → ℕ
sep c = get_or (ds c) 2 0

abbrev end : (c : After-is_present) → ℕ
end c = c.loop-delimiters.start + c.find.result

more : (c : After-is_present) → ((end c) ≡ length (field c) → ⊥) → some_present (ds c) (split (sep c) (field c)) ≡ some_present (ds c) (take ((end c) - c.loop-delimiters.start) (drop c.loop-delimiters.start (field c)) ∷ split (sep c) (drop ((end c) + 1) (field c)))
more c h = c.loop-delimiters.invariant.1 ∙ ap (some_present (ds c)) (walk_more (sep c) (field c) c.loop-delimiters.start c.find.result c.loop-delimiters.invariant.0 c.find.ensures h)

last : (c : After-is_present) → (end c) ≡ length (field c) → some_present (ds c) (split (sep c) (field c)) ≡ some_present (ds c) (take ((end c) - c.loop-delimiters.start) (drop c.loop-delimiters.start (field c)) ∷ [])
last c h = c.loop-delimiters.invariant.1 ∙ ap (some_present (ds c)) (walk_last (sep c) (field c) c.loop-delimiters.start c.find.result c.loop-delimiters.invariant.0 c.find.ensures h)

here : (c : After-is_present) → c.is_present.result ≡ true → some_present (ds c) (split (sep c) (field c)) ≡ true
here c e = at (eqb (end c) (length (field c))) refl
  where
    at : (t : Bool) → eqb (end c) (length (field c)) ≡ t → some_present (ds c) (split (sep c) (field c)) ≡ true
    at true q = (last c) (eqb-true _ _ q) ∙ present_here (ds c) _ _ (sym c.is_present.ensures ∙ e)
    at false q = (more c) (eqb-false _ _ q) ∙ present_here (ds c) _ _ (sym c.is_present.ensures ∙ e)

pub returns-then-is_present : goal.returns-then-is_present
returns-then-is_present c = sym (here (goal.at.returns-then-is_present c).After-is_present c.if-is_present.true)

pub returns-then-end-field : goal.returns-then-end-field
returns-then-end-field c =
    sym (last (goal.at.returns-then-end-field c).After-is_present c.if-end-field.true ∙ present_past (ds (goal.at.returns-then-end-field c).After-is_present) _ [] (sym c.is_present.ensures ∙ c.if-is_present.false) ∙ present_none (ds (goal.at.returns-then-end-field c).After-is_present))

pub loop-delimiters-preserved : goal.loop-delimiters-preserved
loop-delimiters-preserved c =
    let i = inside (goal.at.loop-delimiters-preserved c).After-find in
    (omega arith, more (goal.at.loop-delimiters-preserved c).After-is_present c.if-end-field.false ∙ present_past (ds (goal.at.loop-delimiters-preserved c).After-is_present) _ _ (sym c.is_present.ensures ∙ c.if-is_present.false))

pub overflow_add-end : goal.overflow_add-end
overflow_add-end c = let i = inside c in omega arith

pub slice_bounds-is_present-end : goal.slice_bounds-is_present-end
slice_bounds-is_present-end c = let i = inside c in search rules

pub overflow_add-start : goal.overflow_add-start
overflow_add-start c = let i = inside (goal.at.overflow_add-start c).After-find in omega arith

pub loop-delimiters-smaller : goal.loop-delimiters-smaller
loop-delimiters-smaller c = let i = inside (goal.at.loop-delimiters-smaller c).After-find in omega arith
