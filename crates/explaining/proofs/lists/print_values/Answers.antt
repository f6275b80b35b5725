-- Rests on lists that are computed: the words of each text are the values of the table.
use mathlib.Core.Path.{refl}
use Rattle.field_table.specs.Table.{values_of}
use Rattle.explaining.proofs.lists.print_values.Goals as goal

pub print_list-requires : goal.print_list-requires
unfolding values_of
print_list-requires c = refl

pub print_list-requires-in-Version : goal.print_list-requires-in-Version
unfolding values_of
print_list-requires-in-Version c = refl

pub print_list-requires-in-Sex : goal.print_list-requires-in-Sex
unfolding values_of
print_list-requires-in-Sex c = refl

pub print_list-requires-in-ValueTypes : goal.print_list-requires-in-ValueTypes
unfolding values_of
print_list-requires-in-ValueTypes c = refl

pub print_list-requires-in-Statuses : goal.print_list-requires-in-Statuses
unfolding values_of
print_list-requires-in-Statuses c = refl

pub print_list-requires-in-Codes : goal.print_list-requires-in-Codes
unfolding values_of
print_list-requires-in-Codes c = refl
