-- `judge_questions::judges::Judge::of` meets its contract: a word with the bytes of a verb is that verb.
use native.Mathlib.Omega.{arith}
use borrow.Author.Rules.{rules}
use Rattle.alphabet.specs.Bytes.{ascii}
use Rattle.asking.proofs.Verbs.{same_verb}
use Rattle.judge_questions.specs.Verbs.{Verb, structure, verdict}
use Rattle.judge_questions.proofs.judges.Judge.of.Goals as goal

pub returns-in-structure : goal.returns-in-structure
returns-in-structure c = same_verb Verb (ascii "structure") structure (omega arith) (search rules)

pub returns-in-verdict : goal.returns-in-verdict
returns-in-verdict c = same_verb Verb (ascii "verdict") verdict (omega arith) (search rules)
