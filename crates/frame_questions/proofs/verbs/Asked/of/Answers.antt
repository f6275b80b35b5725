-- `frame_questions::verbs::Asked::of` meets its contract: a word with the bytes of a verb is that verb.
use native.Mathlib.Omega.{arith}
use borrow.Author.Rules.{rules}
use Rattle.alphabet.specs.Bytes.{ascii}
use Rattle.asking.proofs.Verbs.{same_verb}
use Rattle.frame_questions.specs.Verbs.{Verb, frame, frames}
use Rattle.frame_questions.proofs.verbs.Asked.of.Goals as goal

pub returns-in-frame : goal.returns-in-frame
returns-in-frame c = same_verb Verb (ascii "frame") frame (omega arith) (search rules)

pub returns-in-frames : goal.returns-in-frames
returns-in-frames c = same_verb Verb (ascii "frames") frames (omega arith) (search rules)
