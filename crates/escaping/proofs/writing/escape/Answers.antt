-- Rests on the laws of the outcome: each exit is a case of `escaping`.
use Prim.Native.Nat.{ℕ}
use mathlib.Core.Path.{◌≡◌, refl, sym, ap, ◌∙◌}
use mathlib.Core.Bool.{not}
use mathlib.Core.List.{List}
use lib.ListN.{length}
use borrow.Author.Rules.{rules}
use borrow.Author.Tests.{ltb-false}
use Rattle.std.specs.Prelude.{Ok, Err}
use Rattle.escaping.specs.Escape.{escape_bytes, two_quotes}
use Rattle.escaping.specs.Outcomes.{text, fitting, escaping}
use Rattle.alphabet.proofs.CheckLaws.{passes_not}
use Rattle.alphabet.proofs.FillingLaws.{put_fits}
use Rattle.escaping.proofs.OutcomeLaws.{refused, told, over_room, escape_null, escape_other, escaping_stops, escaping_goes, fitting_stops, fitting_goes}
use Rattle.escaping.proofs.writing.escape.Goals.{After-from_residual, Then-is_null, After-from_residual-in_err-fails_if, After-put, Else-is_null, After-from_residual-in_err-fails_if-2, After-write_escaped}
use Rattle.escaping.proofs.writing.escape.Goals as goal

-- delimiters that are refused
wrong : (c : After-from_residual) → escaping c.args.delimiters.bytes c.args.text.now (length c.args.buffer.now) ≡ Err c.in_err-check_delimiters.field-0.0
wrong c = escaping_stops _ _ _ (sym c.check_delimiters.ensures ∙ c.in_err-check_delimiters.was)

pub returns-in_err-check_delimiters-clause-value : goal.returns-in_err-check_delimiters-clause-value
returns-in_err-check_delimiters-clause-value c = rw ((refused c.args.buffer.now (wrong c)).0) (search rules)

pub returns-in_err-check_delimiters-clause-buffer_after : goal.returns-in_err-check_delimiters-clause-buffer_after
returns-in_err-check_delimiters-clause-buffer_after c = sym (refused c.args.buffer.now (wrong c)).1

-- two quotes, and whether there is room for them
quotes : (c : Then-is_null) → escaping c.args.delimiters.bytes c.args.text.now (length c.args.buffer.now) ≡ fitting (length c.args.buffer.now) (text (two_quotes c.args.delimiters.bytes))
quotes c =
    let a = c.args in
    escaping_goes a.delimiters.bytes a.text.now _ (sym c.check_delimiters.ensures ∙ c.in_ok-check_delimiters.was)
    ∙ ap (λ (w : List ℕ). fitting (length a.buffer.now) (text w)) (escape_null a.delimiters.bytes a.text.now (sym c.is_null.ensures ∙ c.if-is_null.true))

long : (c : After-from_residual-in_err-fails_if) → escaping c.args.delimiters.bytes c.args.text.now (length c.args.buffer.now) ≡ Err c.in_err-fails_if.field-0.0
long c =
    let a = c.args in
    quotes (goal.at.After-from_residual-in_err-fails_if c).Then-is_null ∙ fitting_stops (length a.buffer.now) (two_quotes a.delimiters.bytes) refl (sym c.fails_if.ensures ∙ c.in_err-fails_if.was)

pub returns-in_err-fails_if-clause-value : goal.returns-in_err-fails_if-clause-value
returns-in_err-fails_if-clause-value c = rw ((refused c.args.buffer.now (long c)).0) (search rules)

pub returns-in_err-fails_if-clause-buffer_after : goal.returns-in_err-fails_if-clause-buffer_after
returns-in_err-fails_if-clause-buffer_after c = sym (refused c.args.buffer.now (long c)).1

short : (c : After-put) → escaping c.args.delimiters.bytes c.args.text.now (length c.args.buffer.now) ≡ text (two_quotes c.args.delimiters.bytes)
short c =
    let a = c.args in
    quotes (goal.at.After-put c).Then-is_null ∙ fitting_goes (length a.buffer.now) (two_quotes a.delimiters.bytes) refl (sym c.fails_if.ensures ∙ c.in_ok-fails_if.was)

pub returns-then-is_null-clause-value : goal.returns-then-is_null-clause-value
returns-then-is_null-clause-value c = sym (told c.args.buffer.now (short (goal.at.returns-then-is_null-clause-value c).After-put)).0

pub returns-then-is_null-clause-buffer_after : goal.returns-then-is_null-clause-buffer_after
returns-then-is_null-clause-buffer_after c =
    let a = c.args in
    let h = passes_not _ _ _ (sym c.fails_if.ensures ∙ c.in_ok-fails_if.was) in
    let n = ltb-false (length a.buffer.now) 7 h in
    c.put.ensures.buffer_after ∙ (put_fits a.buffer.now (two_quotes a.delimiters.bytes) 0 n).1
    ∙ sym (told a.buffer.now (short (goal.at.returns-then-is_null-clause-buffer_after c).After-put)).1

-- and any other text
other : (c : Else-is_null) → escaping c.args.delimiters.bytes c.args.text.now (length c.args.buffer.now) ≡ fitting (length c.args.buffer.now) (text (escape_bytes c.args.delimiters.bytes c.args.text.now))
other c =
    let a = c.args in
    escaping_goes a.delimiters.bytes a.text.now _ (sym c.check_delimiters.ensures ∙ c.in_ok-check_delimiters.was)
    ∙ ap (λ (w : List ℕ). fitting (length a.buffer.now) (text w)) (escape_other a.delimiters.bytes a.text.now (sym c.is_null.ensures ∙ c.if-is_null.false))

too_long : (c : After-from_residual-in_err-fails_if-2) → escaping c.args.delimiters.bytes c.args.text.now (length c.args.buffer.now) ≡ Err c.in_err-fails_if-2.field-0.0
too_long c =
    let a = c.args in
    let w = escape_bytes a.delimiters.bytes a.text.now in
    other (goal.at.After-from_residual-in_err-fails_if-2 c).Else-is_null
    ∙ fitting_stops (length a.buffer.now) w (ap not c.is_enough.ensures ∙ over_room (length w) _) (sym c.fails_if-2.ensures ∙ c.in_err-fails_if-2.was)

pub returns-in_err-fails_if-2-clause-value : goal.returns-in_err-fails_if-2-clause-value
returns-in_err-fails_if-2-clause-value c = rw ((refused c.args.buffer.now (too_long c)).0) (search rules)

pub returns-in_err-fails_if-2-clause-buffer_after : goal.returns-in_err-fails_if-2-clause-buffer_after
returns-in_err-fails_if-2-clause-buffer_after c = sym (refused c.args.buffer.now (too_long c)).1

whole : (c : After-write_escaped) → escaping c.args.delimiters.bytes c.args.text.now (length c.args.buffer.now) ≡ text (escape_bytes c.args.delimiters.bytes c.args.text.now)
whole c =
    let a = c.args in
    let w = escape_bytes a.delimiters.bytes a.text.now in
    other (goal.at.After-write_escaped c).Else-is_null
    ∙ fitting_goes (length a.buffer.now) w (ap not c.is_enough.ensures ∙ over_room (length w) _) (sym c.fails_if-2.ensures ∙ c.in_ok-fails_if-2.was)

pub write_escaped-requires : goal.write_escaped-requires
write_escaped-requires c =
    let a = c.args in
    let h = passes_not _ _ _ (sym c.fails_if-2.ensures ∙ c.in_ok-fails_if-2.was) in
    ltb-false _ _ (sym (ap not c.is_enough.ensures ∙ over_room (length (escape_bytes a.delimiters.bytes a.text.now)) _) ∙ h)

pub returns-clause-value : goal.returns-clause-value
returns-clause-value c =
    ap (λ (n : ℕ). Ok n) c.write_escaped.ensures.value ∙ sym (told c.args.buffer.now (whole (goal.at.returns-clause-value c).After-write_escaped)).0

pub returns-clause-buffer_after : goal.returns-clause-buffer_after
returns-clause-buffer_after c =
    c.write_escaped.ensures.buffer_after ∙ sym (told c.args.buffer.now (whole (goal.at.returns-clause-buffer_after c).After-write_escaped)).1
