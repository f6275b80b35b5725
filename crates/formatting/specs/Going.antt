-- What the walk's own functions do, said of what is still to be laid: the lines of all the items are those of the items
-- that are left, from the state that was come to.
use Rattle.std.specs.Prelude.{◌≡◌, List, ◌++◌}
use Rattle.format_commands.specs.Items.{Item}
use Rattle.formatting.specs.Sheet.{Laid, laid, unfit, Lines, none, lines_from}

-- the lines of the items r, from a state on
abbrev pub lines_after : Laid → List Item → Lines
lines_after (laid s) r = lines_from s r
lines_after unfit r = none

-- from one state the items xs lead to another, whatever follows them
abbrev pub Goes : Laid → List Item → Laid → Type 0
Goes l xs m = (r : List Item) → lines_after l (xs ++ r) ≡ lines_after m r
