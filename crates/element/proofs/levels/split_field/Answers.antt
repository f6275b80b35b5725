-- Rests on the law of the three levels, each with one stop more. Where a level does not begin, nothing below it does.
use Prim.Native.Nat.{ℕ}
use mathlib.Core.Path.{◌≡◌, sym, ap, ◌∙◌}
use mathlib.Core.List.{[], ◌∷◌}
use Rattle.std.specs.Prelude.{Option, Some, None}
use Rattle.alphabet.specs.Bytes.{carriage_return}
use Rattle.alphabet.specs.Lists.{among}
use Rattle.alphabet.specs.Parts.{ended_by}
use Rattle.element.specs.Levels.{below, subcomponent_at}
use Rattle.element.specs.Ends.{level_ends}
use Rattle.element.proofs.StartLaws.{levels_down, levels_asked, below_nothing}
use Rattle.element.proofs.levels.split_field.Goals.{After-end_of-subcomponent_end}
use Rattle.element.proofs.levels.split_field.Goals as goal

-- where the three levels begin, or do not, so does the subcomponent
down : (c : After-end_of-subcomponent_end) (first second third : Option ℕ) → let a = c.args in let m = a.message.now in
    let sep = c.byte_at-separator.result in let r = c.end_of-repetition_end.result in let o = c.end_of-component_end.result in
    ended_by (level_ends c.byte_at-repetition.result a.address.repetition (among (carriage_return ∷ sep ∷ carriage_return ∷ carriage_return ∷ carriage_return ∷ []))) m first
    ≡ below c.byte_at-repetition.result m (ended_by (among (carriage_return ∷ sep ∷ carriage_return ∷ carriage_return ∷ carriage_return ∷ [])) m (Some a.field)) a.address.repetition
    → ended_by (level_ends c.byte_at-component.result a.address.component (among (carriage_return ∷ sep ∷ r ∷ carriage_return ∷ carriage_return ∷ []))) m second
    ≡ below c.byte_at-component.result m (ended_by (among (carriage_return ∷ sep ∷ r ∷ carriage_return ∷ carriage_return ∷ [])) m first) a.address.component
    → ended_by (level_ends c.byte_at-subcomponent.result a.address.subcomponent (among (carriage_return ∷ sep ∷ r ∷ o ∷ carriage_return ∷ []))) m third
    ≡ below c.byte_at-subcomponent.result m (ended_by (among (carriage_return ∷ sep ∷ r ∷ o ∷ carriage_return ∷ [])) m second) a.address.subcomponent
    → ended_by (among (carriage_return ∷ sep ∷ r ∷ o ∷ c.end_of-subcomponent_end.result ∷ [])) m third ≡ subcomponent_at m a.address
down c first second third e f g =
    let a = c.args in
    levels_down a.message.now c.byte_at-separator.result c.byte_at-repetition.result c.byte_at-component.result c.byte_at-subcomponent.result _ _ _ _ _ _ c.end_of-repetition_end.ensures c.end_of-component_end.ensures c.end_of-subcomponent_end.ensures (Some a.field) first second third e f g
    ∙ levels_asked a.message.now a.address (Some a.field) _ _ _ _ c.byte_at-separator.ensures c.byte_at-repetition.ensures c.byte_at-component.ensures c.byte_at-subcomponent.ensures c.requires

pub returns-in_err-first : goal.returns-in_err-first
returns-in_err-first c =
    let m = c.args.message.now in
    c.from_residual.ensures
    ∙ down (goal.at.returns-in_err-first c).After-end_of-subcomponent_end None None None (ap (ended_by _ m) (sym c.in_err-first.was) ∙ c.start_below.ensures) (below_nothing _ m _) (below_nothing _ m _)

pub returns-in_err-second : goal.returns-in_err-second
returns-in_err-second c =
    let m = c.args.message.now in
    c.from_residual-in_err-second.ensures
    ∙ down (goal.at.returns-in_err-second c).After-end_of-subcomponent_end (Some c.in_ok-first.first) None None (ap (ended_by _ m) (sym c.in_ok-first.was) ∙ c.start_below.ensures) (ap (ended_by _ m) (sym c.in_err-second.was) ∙ c.start_below-2.ensures) (below_nothing _ m _)

pub returns-in_err-third : goal.returns-in_err-third
returns-in_err-third c =
    let m = c.args.message.now in
    c.from_residual-in_err-third.ensures
    ∙ down (goal.at.returns-in_err-third c).After-end_of-subcomponent_end (Some c.in_ok-first.first) (Some c.in_ok-second.second) None (ap (ended_by _ m) (sym c.in_ok-first.was) ∙ c.start_below.ensures) (ap (ended_by _ m) (sym c.in_ok-second.was) ∙ c.start_below-2.ensures) (ap (ended_by _ m) (sym c.in_err-third.was) ∙ c.start_below-3.ensures)

pub returns : goal.returns
returns c =
    let m = c.args.message.now in
    c.part_from.ensures
    ∙ down (goal.at.returns c).After-end_of-subcomponent_end (Some c.in_ok-first.first) (Some c.in_ok-second.second) (Some c.in_ok-third.third) (ap (ended_by _ m) (sym c.in_ok-first.was) ∙ c.start_below.ensures) (ap (ended_by _ m) (sym c.in_ok-second.was) ∙ c.start_below-2.ensures) (ap (ended_by _ m) (sym c.in_ok-third.was) ∙ c.start_below-3.ensures)
