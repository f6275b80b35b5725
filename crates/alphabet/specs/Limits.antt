-- The limits: document 01's sentences with the figures of W6, here and wherever these sentences are quoted. No proof of
-- the library opens them but those of the functions that give them: what arithmetic needs of them is in
-- `proofs/LimitLaws.antt`. The samples, which compute with a message, open them.
use Rattle.std.specs.Prelude.{ℕ}

-- "A message has 1 to 1,048,576 bytes and 1 to 4,096 segments."
unfoldable pub message_limit : ℕ
message_limit = 1048576

unfoldable pub segment_limit : ℕ
segment_limit = 4096

-- control IDs: "1 to 199 bytes"
unfoldable pub id_limit : ℕ
id_limit = 199
