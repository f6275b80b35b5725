-- What arithmetic needs of the limits, whatever the figures. Assumes nothing.
use Prim.Native.Nat.{◌≤◌}
use lib.Dec.{lit≤}
use Rattle.alphabet.specs.Limits.{segment_limit, id_limit}

-- an acknowledgement has two segments or three
pub segment_limit_three : 3 ≤ segment_limit
unfolding segment_limit
segment_limit_three = lit≤ tt

-- an ID that is escaped byte by byte, five for one, goes into a buffer of a thousand
pub id_limit_small : id_limit ≤ 200
unfolding id_limit
id_limit_small = lit≤ tt
