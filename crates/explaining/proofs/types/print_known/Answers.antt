-- Rests on a list that is computed: the words of the text are the types that structure has.
use Rattle.explaining.proofs.TypeLaws.{types_known}
use Rattle.explaining.proofs.types.print_known.Goals as goal

pub print_types-requires : goal.print_types-requires
print_types-requires c = types_known
