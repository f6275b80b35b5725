-- The verbs that stand in no family, in letters. Assumes nothing.
use Rattle.alphabet.specs.Bytes.{ascii}
use Rattle.questions.specs.Verbs.{Verb, read, ack}

verbs : Verb (ascii "read") × Verb (ascii "ack")
verbs = (read, ack)
