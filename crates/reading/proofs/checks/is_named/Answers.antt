-- Rests on what the tests of the three bytes give, and on 0 being no letter.
use Prim.Native.Nat.{ℕ, ◌<◌}
use mathlib.Core.Path.{◌≡◌, refl, sym, ap, ◌∙◌}
use mathlib.Core.List.{List}
use mathlib.Core.Bool.{Bool, true, false, ◌&&◌, ◌||◌}
use lib.Dec.{eqb}
use lib.ListN.{length, get_or, get_or-eq_default}
use borrow.Author.Tests.{eq-eqb, ne_eqb}
use native.Mathlib.Omega.{arith}
use Rattle.alphabet.specs.Bytes.{capital}
use Rattle.reading.specs.Segments.{capital_or_digit, named}
use Rattle.reading.proofs.checks.is_named.Goals.{After-may_follow-2}
use Rattle.reading.proofs.checks.is_named.Goals as goal

second-bad : (a b c d : Bool) → b ≡ false → false ≡ ((a && (b && c)) && d)
second-bad true b c d e = rw e
second-bad false b c d e = refl

third-bad : (a b c d : Bool) → c ≡ false → false ≡ ((a && (b && c)) && d)
third-bad true true c d e = rw e
third-bad true false c d e = refl
third-bad false b c d e = refl

all-good : (a b c d : Bool) → a ≡ true → b ≡ true → c ≡ true → d ≡ ((a && (b && c)) && d)
all-good a b c d p q r = rw (p, q, r)

short : (s : List ℕ) (sep : ℕ) → length s < 3 → false ≡ named sep s
short s sep h =
    third-bad (capital (get_or s 0 0)) (capital_or_digit (get_or s 1 0)) (capital_or_digit (get_or s 2 0)) (eqb (length s) 3 || eqb (get_or s 3 0) sep)
    (ap capital_or_digit (get_or-eq_default s 0 (omega arith)))

pub returns-then-segment-lt3 : goal.returns-then-segment-lt3
returns-then-segment-lt3 c = let a = c.args in short a.segment.now a.separator c.if-segment-lt3.true

pub returns-then-not-is_capital : goal.returns-then-not-is_capital
returns-then-not-is_capital c = rw (sym c.is_capital.ensures ∙ c.if-not-is_capital.true)

pub returns-then-not-may_follow : goal.returns-then-not-may_follow
returns-then-not-may_follow c =
    let a = c.args in
    let s = a.segment.now in
    second-bad (capital (get_or s 0 0)) (capital_or_digit (get_or s 1 0)) (capital_or_digit (get_or s 2 0)) (eqb (length s) 3 || eqb (get_or s 3 0) a.separator) (sym c.may_follow.ensures ∙ c.if-not-may_follow.true)

pub returns-then-not-may_follow-2 : goal.returns-then-not-may_follow-2
returns-then-not-may_follow-2 c =
    let a = c.args in
    let s = a.segment.now in
    third-bad (capital (get_or s 0 0)) (capital_or_digit (get_or s 1 0)) (capital_or_digit (get_or s 2 0)) (eqb (length s) 3 || eqb (get_or s 3 0) a.separator) (sym c.may_follow-2.ensures ∙ c.if-not-may_follow-2.true)

-- all three are good
abbrev s : (c : After-may_follow-2) (good : c.may_follow-2.result ≡ true) → List ℕ
s c good = c.args.segment.now

abbrev sep : (c : After-may_follow-2) (good : c.may_follow-2.result ≡ true) → ℕ
sep c good = c.args.separator

whole : (c : After-may_follow-2) (good : c.may_follow-2.result ≡ true) → (eqb (length (s c good)) 3 || eqb (get_or (s c good) 3 0) (sep c good)) ≡ named (sep c good) (s c good)
whole c good =
    all-good (capital (get_or (s c good) 0 0)) (capital_or_digit (get_or (s c good) 1 0)) (capital_or_digit (get_or (s c good) 2 0)) (eqb (length (s c good)) 3 || eqb (get_or (s c good) 3 0) (sep c good))
    (sym c.is_capital.ensures ∙ c.if-not-is_capital.false)
    (sym c.may_follow.ensures ∙ c.if-not-may_follow.false)
    (sym c.may_follow-2.ensures ∙ good)

pub returns-then-segment-eq3 : goal.returns-then-segment-eq3
returns-then-segment-eq3 c =
    let good = c.if-not-may_follow-2.false in
    sym (ap (λ (t : Bool). t || eqb (get_or (s (goal.at.returns-then-segment-eq3 c).After-may_follow-2 good) 3 0) (sep (goal.at.returns-then-segment-eq3 c).After-may_follow-2 good)) (eq-eqb (length (s (goal.at.returns-then-segment-eq3 c).After-may_follow-2 good)) 3 c.if-segment-eq3.true)) ∙ whole (goal.at.returns-then-segment-eq3 c).After-may_follow-2 good

pub returns : goal.returns
returns c =
    let good = c.if-not-may_follow-2.false in
    sym (ap (λ (t : Bool). t || eqb (get_or (s (goal.at.returns c).After-may_follow-2 good) 3 0) (sep (goal.at.returns c).After-may_follow-2 good)) (ne_eqb (length (s (goal.at.returns c).After-may_follow-2 good)) 3 c.if-segment-eq3.false)) ∙ whole (goal.at.returns c).After-may_follow-2 good

pub bounds-segment-0 : goal.bounds-segment-0
bounds-segment-0 c = omega (arith, c.if-segment-lt3.false)

pub bounds-segment-1 : goal.bounds-segment-1
bounds-segment-1 c = omega (arith, c.if-segment-lt3.false)

pub bounds-segment-2 : goal.bounds-segment-2
bounds-segment-2 c = omega (arith, c.if-segment-lt3.false)

pub bounds-segment-3 : goal.bounds-segment-3
bounds-segment-3 c = omega (arith, c.if-segment-eq3.false, c.if-segment-lt3.false)
