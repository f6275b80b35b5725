-- Rests on what the tests give, and on the laws of checks in order.
use mathlib.Core.Path.{◌≡◌, sym, ap, ◌∙◌}
use native.Mathlib.Omega.{arith}
use mathlib.Core.Bool.{Bool, not, ◌&&◌}
use lib.Dec.{ltb}
use borrow.Author.Tests.{eq-eqb, ne_eqb}
use Rattle.alphabet.specs.Answers.{fails_if}
use Rattle.alphabet.specs.Limits.{segment_limit}
use Rattle.alphabet.specs.declared.answers.Refusal.TheVariants.{SecondHeader}
use Rattle.alphabet.proofs.CheckLaws.{ends}
use Rattle.reading.proofs.checks.check_segment.Goals as goal

pub returns-then-number-most : goal.returns-then-number-most
returns-then-number-most c =
    let e : c.args.number ≡ segment_limit = omega arith in rw (eq-eqb _ _ e)

pub returns-then-not-is_named : goal.returns-then-not-is_named
returns-then-not-is_named c =
    let n : c.args.number ≡ segment_limit → ⊥ = omega arith in rw (ne_eqb _ _ n, ap not (sym c.is_named.ensures) ∙ c.if-not-is_named.true-raw)

pub returns : goal.returns
returns c =
    let a = c.args in
    let n : c.args.number ≡ segment_limit → ⊥ = omega arith in rw (ne_eqb _ _ n, ap not (sym c.is_named.ensures) ∙ c.if-not-is_named.false-raw) (ends (c.fails_if.ensures ∙ ap (λ (t : Bool). fails_if (ltb 0 a.number && t) SecondHeader a.start) c.is_header.ensures))
