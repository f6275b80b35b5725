-- Rests on a page that is laid, and on its last line.
use Prim.Native.Nat.{ℕ}
use mathlib.Core.Path.{◌≡◌, sym, subst}
use borrow.Author.Rules.{rules}
use Rattle.std.specs.Prelude.{Err}
use Rattle.alphabet.specs.Answers.{Refusable}
use Rattle.formatting.specs.declared.page.Page.{Page}
use Rattle.formatting.specs.Pages.{Sound}
use Rattle.formatting.specs.Laying.{Typesets}
use Rattle.formatting.proofs.FormatLaws.{first_sound, lays_first, typeset_fails, typeset_passes, passed}
use Rattle.formatting.proofs.formatting.typeset.Goals as goal

pub lay-requires : goal.lay-requires
lay-requires c =
    let a = c.args in
    subst (λ (p : Page). Sound p c.empty_line-line.result a.buffer.now) (sym c.first_page.ensures) (first_sound a.writes c.empty_line-line.result a.buffer.now c.empty_line-line.ensures)

pub returns-in_err-page : goal.returns-in_err-page
returns-in_err-page c =
    let a = c.args in
    let q : c.from_residual.result ≡ Err c.in_err-page.field-0.0 = search rules in
    let l = lays_first a.writes c.first_page.result c.first_page.ensures c.lay.ensures in
    subst (λ (r : Refusable ℕ). Typesets a.delimiters.bytes a.text.now a.writes a.buffer.now r c.lay.new.buffer) (sym q)
    (typeset_fails a.delimiters.bytes a.text.now a.writes _ a.buffer.now _ _ c.lay.result l c.in_err-page.was)

pub finish-requires : goal.finish-requires
finish-requires c = (passed c.lay.ensures c.in_ok-page.was).follows.sound

pub returns : goal.returns
returns c =
    let a = c.args in
    typeset_passes a.delimiters.bytes a.text.now a.writes _ a.buffer.now _ _ c.in_ok-page.page
    (passed (lays_first a.writes c.first_page.result c.first_page.ensures c.lay.ensures) c.in_ok-page.was)
    c.finish.result _ c.finish.ensures c.conclude.result c.conclude.ensures
