-- `element_questions::lookups::Lookup::of` meets its contract: a word with the bytes of a verb is that verb.
use native.Mathlib.Omega.{arith}
use borrow.Author.Rules.{rules}
use Rattle.alphabet.specs.Bytes.{ascii}
use Rattle.asking.proofs.Verbs.{same_verb}
use Rattle.element_questions.specs.Verbs.{Verb, find, nm, si, dt, tm, ts}
use Rattle.element_questions.proofs.lookups.Lookup.of.Goals as goal

pub returns-in-find : goal.returns-in-find
returns-in-find c = same_verb Verb (ascii "find") find (omega arith) (search rules)

pub returns-in-nm : goal.returns-in-nm
returns-in-nm c = same_verb Verb (ascii "nm") nm (omega arith) (search rules)

pub returns-in-si : goal.returns-in-si
returns-in-si c = same_verb Verb (ascii "si") si (omega arith) (search rules)

pub returns-in-dt : goal.returns-in-dt
returns-in-dt c = same_verb Verb (ascii "dt") dt (omega arith) (search rules)

pub returns-in-tm : goal.returns-in-tm
returns-in-tm c = same_verb Verb (ascii "tm") tm (omega arith) (search rules)

pub returns-in-ts : goal.returns-in-ts
returns-in-ts c = same_verb Verb (ascii "ts") ts (omega arith) (search rules)
