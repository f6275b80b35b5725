-- Rests on computing: the numbers are those of the list's words.
use mathlib.Core.Path.{refl, ap₂, ◌∙◌}
use mathlib.Core.Bool.{◌||◌}
use Rattle.alphabet.specs.Parts.{split}
use Rattle.field_table.specs.Table.{values_of, member}
use Rattle.field_table.proofs.TableLaws.{or_end}
use Rattle.field_table.proofs.is_value_type.Goals as goal

pub returns : goal.returns
unfolding values_of member split
returns c =
    let k = c.code_of-code.ensures in
    ap₂ ◌||◌ (k 67 69 refl refl)
    (ap₂ ◌||◌ (k 68 84 refl refl)
    (ap₂ ◌||◌ (k 69 68 refl refl)
    (ap₂ ◌||◌ (k 70 84 refl refl)
    (ap₂ ◌||◌ (k 78 77 refl refl)
    (ap₂ ◌||◌ (k 82 80 refl refl)
    (ap₂ ◌||◌ (k 83 78 refl refl)
    (ap₂ ◌||◌ (k 83 84 refl refl)
    (ap₂ ◌||◌ (k 84 77 refl refl)
    (ap₂ ◌||◌ (k 84 83 refl refl)
    (k 84 88 refl refl ∙ or_end _))))))))))
