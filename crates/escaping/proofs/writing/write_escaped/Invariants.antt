use lib.ListN.{length}
use Rattle.escaping.specs.Escape.{escape_bytes}
use Rattle.alphabet.proofs.FillingLaws.{Filling}
use Rattle.escaping.proofs.writing.write_escaped.Given as goal

abbrev pub invariant-loop-first : goal.invariant-loop-first
invariant-loop-first l = Filling (escape_bytes l.delimiters.bytes l.text) l.initial.buffer (escape_bytes l.delimiters.bytes l.rest) l.buffer l.place

abbrev pub decreases-loop-first : goal.decreases-loop-first
decreases-loop-first l = length l.rest
