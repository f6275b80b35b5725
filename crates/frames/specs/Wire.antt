-- The bytes that frame a message on the wire, and the two limits of the frame reader. Document 02, W1: "0x0B, the
-- message, 0x1C, 0x0D"; the last of them is document 01's CR.
use Rattle.std.specs.Prelude.{ℕ, cond, leb}
use Rattle.alphabet.specs.Limits.{message_limit}

abbrev pub opens : ℕ
opens = 11

abbrev pub closes : ℕ
closes = 28

-- "dropped and counted, to 2^32-1 at most"
unfoldable pub most_dropped : ℕ
most_dropped = 4294967295

-- "The limit is document 01's or the buffer's length, the smaller"
unfoldable pub frame_limit : ℕ → ℕ
frame_limit room = cond (leb message_limit room) message_limit room
