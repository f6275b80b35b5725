-- Rests on computing: the numbers are those of the list's words.
use mathlib.Core.Path.{refl, ap₂, ◌∙◌}
use mathlib.Core.Bool.{◌||◌}
use Rattle.alphabet.specs.Parts.{split}
use Rattle.field_table.specs.Table.{values_of, member}
use Rattle.field_table.proofs.TableLaws.{or_end}
use Rattle.field_table.proofs.is_code.Goals as goal

pub returns : goal.returns
unfolding values_of member split
returns c =
    let k = c.code_of-code.ensures in
    ap₂ ◌||◌ (k 65 65 refl refl)
    (ap₂ ◌||◌ (k 65 69 refl refl)
    (k 65 82 refl refl ∙ or_end _))
