-- Rests on the laws of the choice: each return is what the two components that were found choose.
use mathlib.Core.Path.{◌≡◌, sym, ap, ap₂, ◌∙◌}
use mathlib.Core.Bool.{Bool, ◌&&◌}
use mathlib.Core.List.{List, []}
use lib.ListN.{get_or}
use Prim.Native.Nat.{ℕ}
use native.Mathlib.Omega.{arith}
use Rattle.alphabet.specs.Parts.{split}
use Rattle.element.specs.Addresses.{type_address}
use Rattle.element.specs.Finding.{raw_bytes}
use Rattle.element.proofs.RawLaws.{raw_type}
use Rattle.structure.specs.Structures.{choose, structure_for, built_in}
use Rattle.structure.proofs.ChoiceLaws.{is_report, is_acknowledgement, is_adt, is_none}
use Rattle.structure.proofs.structures.structure_of.Goals.{After-part_in-event}
use Rattle.structure.proofs.structures.structure_of.Goals as goal

-- the two components that were found choose the structure
looked : (c : After-part_in-event)
    → choose built_in c.part_in-kind.result.now c.part_in-event.result.now ≡ structure_for built_in c.args.message.now
unfolding structure_for
looked c =
    let m = c.args.message.now in
    let whole = c.raw-whole.ensures ∙ ap (raw_bytes m) c.type_address.ensures in
    let component : (k : ℕ) → List ℕ = λ k. get_or (split c.byte_at-separator.result c.raw-whole.result.now) k [] in
    let found : (k : ℕ) → component k ≡ get_or (split (get_or m 4 0) (raw_bytes m (type_address 0))) k [] =
    λ k. ap₂ (λ (x : ℕ) (l : List ℕ). get_or (split x l) k []) c.byte_at-separator.ensures whole in
    ap₂ (choose built_in) (c.part_in-kind.ensures ∙ found 0 ∙ sym (raw_type m 1 (omega arith)))
    (c.part_in-event.ensures ∙ found 1 ∙ sym (raw_type m 2 (omega arith)))

pub returns-then-same : goal.returns-then-same
returns-then-same c =
    let both = ap₂ (λ (x y : Bool). x && y) (sym c.same.ensures) (sym c.same-2.ensures) in
    sym (is_report c.part_in-kind.result.now c.part_in-event.result.now (both ∙ c.if-same.true)) ∙ looked (goal.at.returns-then-same c).After-part_in-event

pub returns-then-same-2 : goal.returns-then-same-2
returns-then-same-2 c =
    sym (is_acknowledgement c.part_in-kind.result.now c.part_in-event.result.now (sym c.same-3.ensures ∙ c.if-same-2.true)) ∙ looked (goal.at.returns-then-same-2 c).After-part_in-event

pub returns-then-same-3 : goal.returns-then-same-3
returns-then-same-3 c =
    c.admission_of.ensures ∙ sym (is_adt c.part_in-kind.result.now c.part_in-event.result.now (sym c.same-4.ensures ∙ c.if-same-3.true)) ∙ looked (goal.at.returns-then-same-3 c).After-part_in-event

pub returns : goal.returns
returns c =
    let both = ap₂ (λ (x y : Bool). x && y) (sym c.same.ensures) (sym c.same-2.ensures) in
    sym (is_none c.part_in-kind.result.now c.part_in-event.result.now (both ∙ c.if-same.false) (sym c.same-3.ensures ∙ c.if-same-2.false) (sym c.same-4.ensures ∙ c.if-same-3.false))
    ∙ looked (goal.at.returns c).After-part_in-event
