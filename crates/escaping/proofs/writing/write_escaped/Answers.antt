-- Rests on the laws of a buffer that is filled from its front: what the rest of the text is written as is left, at each turn; and on a run being written as it is.
use Prim.Native.Nat.{ℕ}
use mathlib.Core.Path.{◌≡◌, sym, ap, ap₂, ◌∙◌}
use mathlib.Core.List.{List, [], ◌++◌}
use lib.ListN.{length, length-append}
use native.Mathlib.Omega.{arith}
use Rattle.alphabet.proofs.ListLaws.{first_le}
use Rattle.alphabet.proofs.FillingLaws.{Filling, fill_more, fill_room, fill_length, fill_end, put_fits}
use Rattle.plain.specs.Plain.{special}
use Rattle.escaping.specs.Escape.{escape_byte, escape_bytes}
use Rattle.escaping.proofs.PieceLaws.{bytes_end}
use Rattle.escaping.proofs.RunLaws.{bytes_run}
use Rattle.escaping.proofs.writing.write_escaped.Goals.{In-Some, In_default, After-put_written-place}
use Rattle.escaping.proofs.writing.write_escaped.Goals as goal

-- the first byte and what stands behind it
split : (c : In-Some)
    → let ds = c.args.delimiters.bytes in escape_bytes ds c.loop-first.rest.now ≡ escape_byte ds c.in-Some.first.now ++ escape_bytes ds c.in-Some.behind.now
unfolding escape_bytes
split c = ap (escape_bytes c.args.delimiters.bytes) c.in-Some.ensures.cases.0

pub put_written-place-requires : goal.put_written-place-requires
put_written-place-requires c =
    let ds = c.args.delimiters.bytes in
    let f = c.loop-first.invariant in
    let n = ap length (split (goal.at.put_written-place-requires c).In-Some) ∙ length-append (escape_byte ds c.in-Some.first.now) (escape_bytes ds c.in-Some.behind.now) in
    omega (arith, fill_room f, fill_length f c.requires)

-- the buffer once the byte is written
one : (c : After-put_written-place)
    → let a = c.args in
    Filling (escape_bytes a.delimiters.bytes a.text.now) a.buffer.now (escape_bytes a.delimiters.bytes c.in-Some.behind.now) c.put_written-place.new.buffer c.put_written-place.result
one c =
    let p = c.put_written-place in
    fill_more _ _ _ _ c.loop-first.invariant (split (goal.at.After-put_written-place c).In-Some) p.ensures.buffer_after p.ensures.value

pub split_at-requires : goal.split_at-requires
split_at-requires c = omega (arith, c.plain_run.ensures, first_le (special c.args.delimiters.bytes) c.in-Some.behind.now)

pub loop-first-preserved : goal.loop-first-preserved
loop-first-preserved c =
    let ds = c.args.delimiters.bytes in
    let f = one (goal.at.loop-first-preserved c).After-put_written-place in
    let run = c.split_at.result.0.now in
    let e = bytes_run ds c.in-Some.behind.now c.plain_run.result (omega (arith, c.plain_run.ensures))
    ∙ ap₂ (λ (u v : List ℕ). u ++ escape_bytes ds v) (sym c.split_at.ensures.front) (sym c.split_at.ensures.back) in
    let n = ap length e ∙ length-append run (escape_bytes ds c.split_at.result.1.now) in
    let p = put_fits c.put_written-place.new.buffer run c.put_written-place.result (omega (arith, fill_room f, fill_length f c.requires, c.requires)) in
    fill_more _ _ _ _ f e (c.put_long-place.ensures.buffer_after ∙ p.1) (c.put_long-place.ensures.value ∙ p.0)

-- nothing is left
none : (c : In_default) → escape_bytes c.args.delimiters.bytes c.loop-first.rest.now ≡ []
none c = bytes_end c.args.delimiters.bytes c.loop-first.rest.now 0 (omega (arith, c.in_default.ensures.cases))

pub returns-clause-value : goal.returns-clause-value
returns-clause-value c =
    let n = ap length (none c) in
    omega (arith, fill_room c.loop-first.invariant)

pub returns-clause-buffer_after : goal.returns-clause-buffer_after
returns-clause-buffer_after c = fill_end c.loop-first.invariant (none c)
