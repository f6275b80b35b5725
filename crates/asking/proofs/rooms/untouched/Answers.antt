-- `asking::rooms::untouched` meets its contract: each byte of a repeat is the byte that it repeats.
use lib.ListN.{get_or-replicate}
use Rattle.asking.proofs.rooms.untouched.Goals as goal

pub returns : goal.returns
returns c i h = get_or-replicate 65536 i 165 0 h
