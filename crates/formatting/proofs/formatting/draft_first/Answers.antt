-- Rests on lines that were written as a draft, and handed over.
use mathlib.Core.Path.{◌≡◌, refl, sym, ◌∙◌}
use lib.ListN.{length}
use lib.Seq.{length-take-le}
use borrow.Author.Rules.{rules}
use borrow.Author.Tests.{ltb-false}
use Rattle.std.specs.Prelude.{Ok, Err}
use Rattle.alphabet.proofs.CheckLaws.{passes_not}
use Rattle.escaping.specs.Outcomes.{answer, filled}
use Rattle.formatting.specs.Laying.{laid_in}
use Rattle.formatting.proofs.FormatLaws.{draft_size, draft_short, draft_handed}
use Rattle.formatting.proofs.formatting.draft_first.Goals.{After-from_residual, After-put}
use Rattle.formatting.proofs.formatting.draft_first.Goals as goal

-- lines that are longer than the buffer
long : (c : After-from_residual)
    → let o = laid_in c.args.delimiters.bytes c.args.text.now (length c.args.buffer.now) in (answer o ≡ Err c.in_err-fails_if.field-0.0) × (filled o c.args.buffer.now ≡ c.args.buffer.now)
long c =
    let a = c.args in
    draft_short a.delimiters.bytes a.text.now a.buffer.now a.draft.now _ c.typeset.result c.typeset.ensures c.in-Ok.n c.in-Ok.is refl (sym c.fails_if.ensures ∙ c.in_err-fails_if.was)

pub returns-in_err-fails_if-clause-value : goal.returns-in_err-fails_if-clause-value
returns-in_err-fails_if-clause-value c = rw ((long c).0) (search rules)

pub returns-in_err-fails_if-clause-buffer_after : goal.returns-in_err-fails_if-clause-buffer_after
returns-in_err-fails_if-clause-buffer_after c = sym (long c).1

pub slice_bounds-put-end : goal.slice_bounds-put-end
slice_bounds-put-end c =
    let a = c.args in
    draft_size a.delimiters.bytes a.text.now a.buffer.now a.draft.now _ c.typeset.result c.typeset.ensures c.in-Ok.n c.in-Ok.is

pub slice_bounds-put-end-2 : goal.slice_bounds-put-end-2
slice_bounds-put-end-2 c = sym (length-take-le _ _ (slice_bounds-put-end c))

-- and lines that fit into it
handed : (c : After-put)
    → let o = laid_in c.args.delimiters.bytes c.args.text.now (length c.args.buffer.now) in (Ok c.in-Ok.n ≡ answer o) × (c.put.new.buffer ≡ filled o c.args.buffer.now)
handed c =
    let a = c.args in
    let h = ltb-false _ _ (passes_not _ _ _ (sym c.fails_if.ensures ∙ c.in_ok-fails_if.was)) in
    draft_handed a.delimiters.bytes a.text.now a.buffer.now a.draft.now _ c.typeset.result c.typeset.ensures c.in-Ok.n c.in-Ok.is h _ c.put.ensures.buffer_after

pub returns-clause-value : goal.returns-clause-value
returns-clause-value c = (handed (goal.at.returns-clause-value c).After-put).0

pub returns-clause-buffer_after : goal.returns-clause-buffer_after
returns-clause-buffer_after c = (handed (goal.at.returns-clause-buffer_after c).After-put).1
