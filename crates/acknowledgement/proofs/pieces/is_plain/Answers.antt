-- Rests on the law of an ID that is plain.
use mathlib.Core.Path.{sym, ◌∙◌}
use mathlib.Core.Bool.{not}
use lib.Dec.{eqb}
use lib.ListN.{length}
use borrow.Author.Tests.{eqb-true, not-true}
use Rattle.alphabet.proofs.BoolLaws.{and_both}
use Rattle.acknowledgement.proofs.PieceLaws.{id_plain}
use Rattle.acknowledgement.proofs.pieces.is_plain.Goals as goal

pub returns : goal.returns
returns c e =
    let a = c.args in
    let both = and_both (eqb c.plain_run-run.result (length a.id.now)) (not c.is_null.result) e in
    id_plain a.delimiters.bytes a.id.now (sym c.plain_run-run.ensures ∙ eqb-true c.plain_run-run.result (length a.id.now) both.0)
    (sym c.is_null.ensures ∙ not-true c.is_null.result both.1)
