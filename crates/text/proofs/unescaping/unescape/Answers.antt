-- Rests on the laws of the outcome: each exit is a case of `unescaping`.
use Prim.Native.Nat.{ℕ}
use mathlib.Core.Path.{◌≡◌, sym, ap, ◌∙◌}
use mathlib.Core.Bool.{true}
use mathlib.Core.List.{List}
use lib.Dec.{ltb}
use lib.ListN.{length}
use native.Mathlib.Omega.{arith}
use borrow.Author.Rules.{rules}
use borrow.Author.Tests.{ltb-false}
use Rattle.std.specs.Prelude.{Ok, Err}
use Rattle.alphabet.proofs.CheckLaws.{passes_not}
use Rattle.escaping.specs.Outcomes.{text, fitting}
use Rattle.escaping.proofs.OutcomeLaws.{refused, told, fitting_stops, fitting_goes}
use Rattle.text.specs.Unescape.{plain_text, scan, unescaping}
use Rattle.text.specs.Judging.{is_text, text_of}
use Rattle.text.proofs.OutcomeLaws.{judged_text, judged_fault, unescaping_stops, unescaping_goes}
use Rattle.text.proofs.unescaping.unescape.Goals.{After-from_residual, After-from_residual-in_err-n, In_ok-n, After-from_residual-in_err-fails_if, In_ok-fails_if}
use Rattle.text.proofs.unescaping.unescape.Goals as goal

-- what is refused before the text is looked at
wrong : (c : After-from_residual) → unescaping c.args.delimiters.bytes c.args.text.now (length c.args.buffer.now) ≡ Err c.in_err-check_text.field-0.0
wrong c = unescaping_stops _ _ _ (sym c.check_text.ensures ∙ c.in_err-check_text.was)

pub returns-in_err-check_text-clause-value : goal.returns-in_err-check_text-clause-value
returns-in_err-check_text-clause-value c = rw ((refused c.args.buffer.now (wrong c)).0) (search rules)

pub returns-in_err-check_text-clause-buffer_after : goal.returns-in_err-check_text-clause-buffer_after
returns-in_err-check_text-clause-buffer_after c = sym (refused c.args.buffer.now (wrong c)).1

-- a fault of the text
faulty : (c : After-from_residual-in_err-n) → unescaping c.args.delimiters.bytes c.args.text.now (length c.args.buffer.now) ≡ Err c.in_err-n.field-0.0
unfolding fitting
faulty c =
    let a = c.args in
    unescaping_goes a.delimiters.bytes a.text.now _ (sym c.check_text.ensures ∙ c.in_ok-check_text.was)
    ∙ ap (fitting (length a.buffer.now)) (judged_fault (scan plain_text a.delimiters.bytes 0 0 a.text.now) (sym c.judge.ensures ∙ c.in_err-n.was))

pub returns-in_err-n-clause-value : goal.returns-in_err-n-clause-value
returns-in_err-n-clause-value c = rw ((refused c.args.buffer.now (faulty c)).0) (search rules)

pub returns-in_err-n-clause-buffer_after : goal.returns-in_err-n-clause-buffer_after
returns-in_err-n-clause-buffer_after c = sym (refused c.args.buffer.now (faulty c)).1

-- a text that has none, and its length
abbrev T : In_ok-n → List ℕ
T c = text_of (scan plain_text c.args.delimiters.bytes 0 0 c.args.text.now)

judged : (c : In_ok-n) → (scan plain_text c.args.delimiters.bytes 0 0 c.args.text.now ≡ text (T c)) × (length (T c) ≡ c.in_ok-n.n) × (is_text (scan plain_text c.args.delimiters.bytes 0 0 c.args.text.now) ≡ true)
judged c = judged_text (scan plain_text c.args.delimiters.bytes 0 0 c.args.text.now) c.in_ok-n.n (sym c.judge.ensures ∙ c.in_ok-n.was)

said : (c : In_ok-n) → unescaping c.args.delimiters.bytes c.args.text.now (length c.args.buffer.now) ≡ fitting (length c.args.buffer.now) (text (T c))
said c =
    let a = c.args in
    unescaping_goes a.delimiters.bytes a.text.now _ (sym c.check_text.ensures ∙ c.in_ok-check_text.was) ∙ ap (fitting (length a.buffer.now)) (judged c).0

long : (c : After-from_residual-in_err-fails_if) → unescaping c.args.delimiters.bytes c.args.text.now (length c.args.buffer.now) ≡ Err c.in_err-fails_if.field-0.0
long c =
    let i = (goal.at.After-from_residual-in_err-fails_if c).In_ok-n in
    let n = length c.args.buffer.now in
    said i ∙ fitting_stops n (T i) (ap (ltb n) (sym (judged i).1)) (sym c.fails_if.ensures ∙ c.in_err-fails_if.was)

pub returns-in_err-fails_if-clause-value : goal.returns-in_err-fails_if-clause-value
returns-in_err-fails_if-clause-value c = rw ((refused c.args.buffer.now (long c)).0) (search rules)

pub returns-in_err-fails_if-clause-buffer_after : goal.returns-in_err-fails_if-clause-buffer_after
returns-in_err-fails_if-clause-buffer_after c = sym (refused c.args.buffer.now (long c)).1

whole : (c : In_ok-fails_if) → unescaping c.args.delimiters.bytes c.args.text.now (length c.args.buffer.now) ≡ text (T (goal.at.In_ok-fails_if c).In_ok-n)
whole c =
    let i = (goal.at.In_ok-fails_if c).In_ok-n in
    let n = length c.args.buffer.now in
    said i ∙ fitting_goes n (T i) (ap (ltb n) (sym (judged i).1)) (sym c.fails_if.ensures ∙ c.in_ok-fails_if.was)

pub write_text-requires : goal.write_text-requires
write_text-requires c =
    let j = judged (goal.at.write_text-requires c).In_ok-n in
    let e = j.1 in
    let h = ltb-false _ _ (passes_not _ _ _ (sym c.fails_if.ensures ∙ c.in_ok-fails_if.was)) in
    (j.2, omega arith)

pub returns-clause-value : goal.returns-clause-value
returns-clause-value c =
    let i = (goal.at.returns-clause-value c).In_ok-n in
    ap (λ (n : ℕ). Ok n) (sym (judged i).1) ∙ sym (told c.args.buffer.now (whole (goal.at.returns-clause-value c).In_ok-fails_if)).0

pub returns-clause-buffer_after : goal.returns-clause-buffer_after
returns-clause-buffer_after c =
    c.write_text.ensures ∙ sym (told c.args.buffer.now (whole (goal.at.returns-clause-buffer_after c).In_ok-fails_if)).1
