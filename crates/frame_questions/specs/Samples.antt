-- The verbs in letters. Assumes nothing.
use Rattle.alphabet.specs.Bytes.{ascii}
use Rattle.frame_questions.specs.Verbs.{Verb, frame, frames}

verbs : Verb (ascii "frame") × Verb (ascii "frames")
verbs = (frame, frames)
