-- Rests on the laws of a field, by its number, and on what the levels below it give.
use Prim.Native.Nat.{ℕ}
use mathlib.Core.Path.{◌≡◌, sym, ap, ◌∙◌}
use mathlib.Core.List.{[], ◌∷◌}
use Rattle.std.specs.Prelude.{Option, Some}
use Rattle.alphabet.specs.Bytes.{carriage_return}
use Rattle.alphabet.specs.Lists.{among}
use Rattle.alphabet.specs.Parts.{ended_by}
use Rattle.alphabet.specs.declared.parts.Part.{Part}
use Rattle.reading.specs.Segments.{field_separator, segment_at}
use Rattle.element.specs.Levels.{unsplit, part_in, field_at}
use Rattle.element.proofs.LevelLaws.{field_separator_lem, field_part_lem, separator_fixed, element_none, element_unsplit, element_split}
use Rattle.element.proofs.StartLaws.{field_begins, field_missing}
use Rattle.element.proofs.levels.part_of.Goals.{After-field_start}
use Rattle.element.proofs.levels.part_of.Goals as goal

pub returns-then-address : goal.returns-then-address
returns-then-address c =
    let a = c.args in
    let m = a.message.now in
    let n = a.address in
    let h = c.if-address.true in
    c.header_element.ensures
    ∙ ap (λ (p : Option Part). unsplit p n) (sym (field_separator_lem m n.segment (segment_at m n.segment) n.field h))
    ∙ sym (element_unsplit m n (separator_fixed n.segment n.field h))

-- the field, by the separator that was read
field : (c : After-field_start) → let a = c.args in
    ended_by (among (carriage_return ∷ c.byte_at-separator.result ∷ carriage_return ∷ carriage_return ∷ carriage_return ∷ [])) a.message.now c.field_start.result
    ≡ field_at a.message.now a.address
field c =
    let a = c.args in
    let m = a.message.now in
    let n = a.address in
    field_begins m _ _ n.segment (Some c.in_ok-start.start) c.field_start.result c.byte_at-separator.ensures (sym c.in_ok-start.was ∙ c.requires) c.field_start.ensures
    ∙ ap (part_in (field_separator m) m (segment_at m n.segment)) c.index_of-index.ensures
    ∙ sym (field_part_lem m n.segment (segment_at m n.segment) n.field c.if-address.false)

pub returns-in_err-start : goal.returns-in_err-start
returns-in_err-start c =
    let a = c.args in
    let m = a.message.now in
    c.from_residual.ensures ∙ sym (element_none m a.address (field_missing m a.address (sym c.requires ∙ c.in_err-start.was) c.if-address.false))

pub returns-in_err-field : goal.returns-in_err-field
returns-in_err-field c =
    let a = c.args in
    let m = a.message.now in
    let f = field (goal.at.returns-in_err-field c).After-field_start in
    c.from_residual-in_err-field.ensures
    ∙ sym (element_none m a.address (sym f ∙ ap (ended_by (among (carriage_return ∷ c.byte_at-separator.result ∷ carriage_return ∷ carriage_return ∷ carriage_return ∷ [])) m) c.in_err-field.was))

pub returns-then-address-2 : goal.returns-then-address-2
returns-then-address-2 c =
    let a = c.args in
    let n = a.address in
    let m = a.message.now in
    let f = field (goal.at.returns-then-address-2 c).After-field_start in
    c.header_element-then-address-2.ensures
    ∙ ap (λ (p : Option Part). unsplit p n) (c.part_from-part.ensures ∙ ap (ended_by _ m) (sym c.in_ok-field.was) ∙ f)
    ∙ sym (element_unsplit m n c.if-address-2.true)

pub split_field-requires : goal.split_field-requires
split_field-requires c =
    let m = c.args.message.now in
    let f = field (goal.at.split_field-requires c).After-field_start in
    ap (λ (x : ℕ). ended_by (among (carriage_return ∷ x ∷ carriage_return ∷ carriage_return ∷ carriage_return ∷ [])) m (Some c.in_ok-field.field)) (sym c.byte_at-separator.ensures)
    ∙ ap (ended_by _ m) (sym c.in_ok-field.was) ∙ f

pub returns : goal.returns
returns c =
    let a = c.args in
    c.split_field.ensures ∙ sym (element_split a.message.now a.address c.if-address-2.false)
