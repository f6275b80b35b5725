-- Rests on the laws of a segment that is asked for, case by case.
use borrow.Author.Rules.{rules}
use Prim.Native.Nat.{ℕ, ◌≤◌, ◌<◌}
use mathlib.Core.Path.{sym, ap, ◌∙◌}
use lib.ListN.{length}
use Rattle.std.specs.Prelude.{Ok}
use Rattle.alphabet.specs.Answers.{Refusable}
use Rattle.reading.proofs.SegmentLaws.{segment_bytes}
use Rattle.segments.specs.declared.Segment.{Segment}
use Rattle.segments.proofs.AskedLaws.{asked_unread, asked_missing, asked_there}
use Rattle.segments.proofs.find_segment.Goals.{In-Some}
use Rattle.segments.proofs.find_segment.Goals as goal

pub returns-in_err-read : goal.returns-in_err-read
returns-in_err-read c =
    let a = c.args in
    let e = asked_unread a.message.now a.index _ (sym c.read.ensures ∙ c.in_err-read.was) in
    rw (← e) (search rules)

pub returns-in_default : goal.returns-in_default
returns-in_default c =
    let a = c.args in
    asked_missing a.message.now a.index (sym c.read.ensures ∙ c.in_ok-read.was) (sym c.segment_at.ensures ∙ c.in_default.is)

-- the segment lies within the message
inside : (c : In-Some) → (c.in-Some.part.start ≤ c.in-Some.part.end) × (c.in-Some.part.end < length c.args.message.now)
inside c =
    let a = c.args in
    let i = segment_bytes a.message.now a.index _ _ (sym c.segment_at.ensures ∙ c.in-Some.is) in
    (i.1, i.2)

pub returns : goal.returns
returns c =
    let a = c.args in
    let made : ℕ → Refusable Segment = λ n. Ok (record { name = n; start = c.in-Some.part.start; end = c.in-Some.part.end }) in
    ap made c.name_of-name.ensures
    ∙ asked_there a.message.now a.index c.in-Some.part.start c.in-Some.part.end (sym c.read.ensures ∙ c.in_ok-read.was) (sym c.segment_at.ensures ∙ c.in-Some.is)

pub slice_bounds-name_of-count : goal.slice_bounds-name_of-count
slice_bounds-name_of-count c = (inside (goal.at.slice_bounds-name_of-count c).In-Some).0

pub slice_bounds-name_of-start : goal.slice_bounds-name_of-start
slice_bounds-name_of-start c = let i = inside (goal.at.slice_bounds-name_of-start c).In-Some in let h = i.0 in search rules

pub slice_bounds-name_of-end : goal.slice_bounds-name_of-end
slice_bounds-name_of-end c = let i = inside (goal.at.slice_bounds-name_of-end c).In-Some in let h = i.1 in search rules
