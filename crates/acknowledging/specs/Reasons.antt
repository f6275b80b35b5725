-- When there is a reason why a message cannot be acknowledged. What the last three reasons are about, as one test of a
-- header that has an end and no fault of its own: "type ACK; MSH-10, the whole field, not present or over 199 bytes".
use Rattle.std.specs.Prelude.{ℕ, List, Bool, true, false, Option, Some, None, not, ◌&&◌, leb, length}
use Rattle.alphabet.specs.Bytes.{ascii}
use Rattle.alphabet.specs.Limits.{id_limit}
use Rattle.alphabet.specs.Lists.{same}
use Rattle.acknowledgement.specs.Acknowledgement.{type_part, sent, present}
use Rattle.acknowledging.specs.declared.reasons.Reason.{Reason}

abbrev pub is_none : Option Reason → Bool
is_none None = true
is_none (Some reason) = false

abbrev pub answerable : List ℕ → Bool
answerable h = not (same (type_part h 1) (ascii "ACK")) && (present h (sent h 10) && leb (length (sent h 10)) id_limit)
