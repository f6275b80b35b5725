-- `text_questions::texts::Writing::of` meets its contract: a word with the bytes of a verb is that verb.
use native.Mathlib.Omega.{arith}
use borrow.Author.Rules.{rules}
use Rattle.alphabet.specs.Bytes.{ascii}
use Rattle.asking.proofs.Verbs.{same_verb}
use Rattle.text_questions.specs.Verbs.{Verb, escape, unescape, format}
use Rattle.text_questions.proofs.texts.Writing.of.Goals as goal

pub returns-in-escape : goal.returns-in-escape
returns-in-escape c = same_verb Verb (ascii "escape") escape (omega arith) (search rules)

pub returns-in-unescape : goal.returns-in-unescape
returns-in-unescape c = same_verb Verb (ascii "unescape") unescape (omega arith) (search rules)

pub returns-in-format : goal.returns-in-format
returns-in-format c = same_verb Verb (ascii "format") format (omega arith) (search rules)
