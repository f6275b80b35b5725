-- Each exit is a case of `formatting`.
use Prim.Native.Nat.{ℕ}
use mathlib.Core.Path.{◌≡◌, sym, ap, ◌∙◌}
use lib.ListN.{length}
use borrow.Author.Rules.{rules}
use Rattle.std.specs.Prelude.{Err}
use Rattle.escaping.specs.Outcomes.{Outcome, answer, filled}
use Rattle.escaping.proofs.OutcomeLaws.{refused}
use Rattle.formatting.specs.Formatting.{formatting}
use Rattle.formatting.proofs.FormatLaws.{formatting_stops, formatting_laid}
use Rattle.formatting.proofs.formatting.format.Goals.{After-from_residual}
use Rattle.formatting.proofs.formatting.format.Goals as goal

wrong : (c : After-from_residual) → formatting c.args.delimiters.bytes c.args.text.now (length c.args.buffer.now) ≡ Err c.in_err-check_text.field-0.0
wrong c = formatting_stops _ _ _ (sym c.check_text.ensures ∙ c.in_err-check_text.was)

pub returns-in_err-check_text-clause-value : goal.returns-in_err-check_text-clause-value
returns-in_err-check_text-clause-value c = rw ((refused c.args.buffer.now (wrong c)).0) (search rules)

pub returns-in_err-check_text-clause-buffer_after : goal.returns-in_err-check_text-clause-buffer_after
returns-in_err-check_text-clause-buffer_after c = sym (refused c.args.buffer.now (wrong c)).1

pub returns-clause-value : goal.returns-clause-value
returns-clause-value c =
    let a = c.args in
    c.lay_out.ensures.value ∙ ap answer (sym (formatting_laid a.delimiters.bytes a.text.now _ (sym c.check_text.ensures ∙ c.in_ok-check_text.was)))

pub returns-clause-buffer_after : goal.returns-clause-buffer_after
returns-clause-buffer_after c =
    let a = c.args in
    c.lay_out.ensures.buffer_after
    ∙ ap (λ (o : Outcome ℕ). filled o a.buffer.now) (sym (formatting_laid a.delimiters.bytes a.text.now _ (sym c.check_text.ensures ∙ c.in_ok-check_text.was)))
