-- The message that a program holds. Assumes nothing.
use Rattle.std.specs.Prelude.{ℕ, cond, List, [], leb, length, Result, Err}
use Rattle.alphabet.specs.declared.answers.Fault.{Fault}
use Rattle.alphabet.specs.declared.answers.Refusal.TheVariants.{Length}

-- "Programs keep 64 KiB buffers and say 1 beyond it": a message that is not held is no bytes to the library, which says
-- 1 of these
unfoldable pub held_of : List ℕ → List ℕ
held_of m = cond (leb (length m) 65536) m []

-- "before anything else, in the form of what was asked .., and write nothing": the answer of a verb that writes
abbrev pub not_held : Result ℕ Fault
not_held = Err (record { kind = Length; place = 0 })
