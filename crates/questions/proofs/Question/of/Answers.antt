-- `questions::Question::of` meets its contract: a word that has a family is a verb, and `read` is of the first.
use Rattle.questions.specs.Verbs.{read, ack, of_element, of_judgement, of_text_verb, of_frame}
use Rattle.questions.proofs.Families.{same_verb, other_verb, of_family}
use Rattle.questions.proofs.Question.of.Goals as goal

pub returns-then-same-clause-unknown : goal.returns-then-same-clause-unknown
returns-then-same-clause-unknown c = same_verb read c.same.ensures c.if-same.true

pub returns-then-same-2-clause-unknown : goal.returns-then-same-2-clause-unknown
returns-then-same-2-clause-unknown c = same_verb ack c.same-2.ensures c.if-same-2.true

pub returns-then-same-2-clause-read : goal.returns-then-same-2-clause-read
returns-then-same-2-clause-read c = other_verb c.same.ensures c.if-same.false

pub returns-in-Some-clause-unknown : goal.returns-in-Some-clause-unknown
returns-in-Some-clause-unknown c = of_family of_element c.of.ensures c.in-Some.is

pub returns-in-Some-of-clause-unknown : goal.returns-in-Some-of-clause-unknown
returns-in-Some-of-clause-unknown c = of_family of_judgement c.of-2.ensures c.in-Some-of.is

pub returns-in-Some-of-2-clause-unknown : goal.returns-in-Some-of-2-clause-unknown
returns-in-Some-of-2-clause-unknown c = of_family of_text_verb c.of-3.ensures c.in-Some-of-2.is

pub returns-in-Some-of-3-clause-unknown : goal.returns-in-Some-of-3-clause-unknown
returns-in-Some-of-3-clause-unknown c = of_family of_frame c.of-4.ensures c.in-Some-of-3.is

pub returns-clause-read : goal.returns-clause-read
returns-clause-read c = other_verb c.same.ensures c.if-same.false
