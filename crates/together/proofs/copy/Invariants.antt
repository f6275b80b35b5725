use lib.ListN.{drop}
use Rattle.alphabet.proofs.FillingLaws.{Filling}
use Rattle.together.proofs.PieceLaws.{bytes}
use Rattle.together.proofs.copy.Given as goal

abbrev pub invariant-loop-piece : goal.invariant-loop-piece
invariant-loop-piece l = Filling (bytes l.pieces) l.initial.buffer (bytes (drop l.piece-index l.pieces)) l.buffer l.place
