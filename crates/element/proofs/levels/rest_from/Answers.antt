-- Rests on `rest_of`: what is lent from a place on stands from there on; past the end nothing stands.
use mathlib.Core.Path.{sym}
use lib.ListN.{drop_of_length-le}
use Rattle.alphabet.proofs.ListLaws.{rest_of}
use Rattle.element.proofs.levels.rest_from.Goals as goal

pub returns-then-message-start : goal.returns-then-message-start
returns-then-message-start c = let a = c.args in sym (drop_of_length-le a.message.now c.if-message-start.true)

pub returns : goal.returns
returns c = let a = c.args in rest_of a.message.now a.start
