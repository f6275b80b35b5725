-- The verbs in letters. Assumes nothing.
use Rattle.alphabet.specs.Bytes.{ascii}
use Rattle.element_questions.specs.Verbs.{Verb, find, nm, si, dt, tm, ts}

verbs : Verb (ascii "find") × Verb (ascii "nm") × Verb (ascii "si") × Verb (ascii "dt") × Verb (ascii "tm") × Verb (ascii "ts")
verbs = (find, nm, si, dt, tm, ts)
