-- Rests on `reached_on`: a byte that ends no leaf is passed over.
use Prim.Native.Nat.{ℕ, ◌+◌}
use mathlib.Core.Path.{◌≡◌, sym, ap, ◌∙◌}
use mathlib.Core.List.{List}
use lib.ListN.{get_or}
use native.Mathlib.Omega.{arith}
use Rattle.alphabet.specs.Lists.{among}
use Rattle.leaves.specs.Walks.{ends_of}
use Rattle.leaves.proofs.TurnLaws.{reached_on}
use Rattle.leaves.proofs.walking.step.Goals.{After-is_among}
use Rattle.leaves.proofs.walking.step.Goals as goal

-- what was asked, of the message's own ends
asked : (c : After-is_among) → c.is_among.result ≡ among (ends_of c.args.message.now) (get_or c.args.message.now c.args.place 0)
asked c =
    c.is_among.ensures ∙ ap (λ (x : List ℕ). among x (get_or c.args.message.now c.args.place 0)) c.requires.2

pub turn-requires : goal.turn-requires
turn-requires c =
    ((c.requires.0, sym (asked (goal.at.turn-requires c).After-is_among) ∙ c.if-is_among.true), c.requires.1, c.requires.2, c.requires.3)

pub returns-clause-stands : goal.returns-clause-stands
returns-clause-stands c =
    let m = c.args.message.now in
    let h = c.requires.0 in
    let none = sym (asked (goal.at.returns-clause-stands c).After-is_among) ∙ c.if-is_among.false in (
      reached_on m _ _ c.args.place (c.args.place + 1) c.requires.1.0 (omega arith) (omega arith)
          (λ j k. let e : c.args.place + j ≡ c.args.place = omega arith in ap (λ (x : ℕ). among (ends_of m) (get_or m x 0)) e ∙ none),
      c.requires.1.1,
      c.requires.1.2,
    )

pub returns-clause-writes : goal.returns-clause-writes
returns-clause-writes c =
    let m = c.args.message.now in
    let h = c.requires.0 in
    let none = sym (asked (goal.at.returns-clause-writes c).After-is_among) ∙ c.if-is_among.false in (λ W d₀ w. w)
