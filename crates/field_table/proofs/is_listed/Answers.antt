-- Rests on the letters of each list being its words.
use mathlib.Core.Path.{sym, ap, ◌∙◌}
use Rattle.alphabet.specs.Parts.{split}
use Rattle.field_table.specs.Table.{values_of, member}
use Rattle.field_table.proofs.TableLaws.{or_end, processing_are, sex_are, statuses_are}
use Rattle.field_table.proofs.is_listed.Goals as goal

pub returns-in-Processing : goal.returns-in-Processing
returns-in-Processing c =
    let l = c.args.bytes.now in
    c.is_letter_of.ensures ∙ ap (member l) processing_are ∙ ap (λ v. member l (values_of v)) (sym c.in-Processing.is)

pub returns-in-Version : goal.returns-in-Version
unfolding values_of member split
returns-in-Version c = c.same.ensures ∙ or_end _ ∙ ap (λ v. member c.args.bytes.now (values_of v)) (sym c.in-Version.is)

pub returns-in-Sex : goal.returns-in-Sex
returns-in-Sex c =
    let l = c.args.bytes.now in
    c.is_letter_of-in-Sex.ensures ∙ ap (member l) sex_are ∙ ap (λ v. member l (values_of v)) (sym c.in-Sex.is)

pub returns-in-ValueTypes : goal.returns-in-ValueTypes
returns-in-ValueTypes c = c.is_value_type.ensures ∙ ap (λ v. member c.args.bytes.now (values_of v)) (sym c.in-ValueTypes.is)

pub returns-in-Statuses : goal.returns-in-Statuses
returns-in-Statuses c =
    let l = c.args.bytes.now in
    c.is_letter_of-in-Statuses.ensures ∙ ap (member l) statuses_are ∙ ap (λ v. member l (values_of v)) (sym c.in-Statuses.is)

pub returns-in-Codes : goal.returns-in-Codes
returns-in-Codes c = c.is_code.ensures ∙ ap (λ v. member c.args.bytes.now (values_of v)) (sym c.in-Codes.is)
