-- The verbs in letters. Assumes nothing.
use Rattle.alphabet.specs.Bytes.{ascii}
use Rattle.text_questions.specs.Verbs.{Verb, escape, unescape, format}

verbs : Verb (ascii "escape") × Verb (ascii "unescape") × Verb (ascii "format")
verbs = (escape, unescape, format)
