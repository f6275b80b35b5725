-- Rests on what a sequence asks for, by its length.
use mathlib.Core.Path.{◌≡◌, refl, sym, ap, ◌∙◌}
use mathlib.Core.List.{List}
use Prim.Native.Nat.{ℕ}
use lib.ListN.{drop}
use native.Mathlib.Omega.{arith}
use Rattle.std.specs.Prelude.{Some, None}
use Rattle.alphabet.proofs.ListLaws.{rest_of}
use Rattle.format_commands.specs.Commands.{number_of, numbered, held_number}
use Rattle.format_commands.proofs.CommandLaws.{order_three, order_one, order_none, order_more}
use Rattle.format_commands.proofs.orders.order_of.Goals.{After-number_of}
use Rattle.format_commands.proofs.orders.order_of.Goals as goal

pub returns-then-inside-eq3 : goal.returns-then-inside-eq3
returns-then-inside-eq3 c = c.by_name.ensures ∙ order_three c.args.inside.now c.if-inside-eq3.true

pub returns-then-inside-eq1 : goal.returns-then-inside-eq1
returns-then-inside-eq1 c = c.by_letter.ensures ∙ order_one c.args.inside.now c.if-inside-eq1.true

pub returns-then-inside-lt4 : goal.returns-then-inside-lt4
returns-then-inside-lt4 c = order_none c.args.inside.now c.if-inside-eq1.false c.if-inside-eq3.false c.if-inside-lt4.true

-- the number behind the name
number : (c : After-number_of) → c.number_of.result ≡ held_number (number_of (drop 3 c.args.inside.now))
number c = c.number_of.ensures ∙ ap (λ (l : List ℕ). held_number (number_of l)) (rest_of c.args.inside.now 3)

pub returns-in_err-amount : goal.returns-in_err-amount
unfolding numbered
returns-in_err-amount c =
    let n = sym c.in_err-amount.was ∙ number (goal.at.returns-in_err-amount c).After-number_of in
    c.from_residual.ensures ∙ order_more c.args.inside.now None None (let h = c.if-inside-lt4.false in omega arith) n refl

pub returns : goal.returns
returns c =
    let n = sym c.in_ok-amount.was ∙ number (goal.at.returns c).After-number_of in
    order_more c.args.inside.now c.with_number.result (Some c.in_ok-amount.amount) (let h = c.if-inside-lt4.false in omega arith) n c.with_number.ensures
