-- Rests on the law of a segment's own bytes, where it stands.
use mathlib.Core.Path.{◌≡◌, sym, ap, ◌∙◌}
use mathlib.Core.List.{[]}
use Prim.Native.Nat.{ℕ, ◌+◌, ◌-◌, ◌≤◌, ◌<◌}
use lib.ListN.{length, get_or, take, drop}
use native.Mathlib.Omega.{arith}
use borrow.Author.Rules.{rules}
use Rattle.reading.specs.Segments.{segments, name_of}
use Rattle.reading.proofs.SegmentLaws.{segment_bytes, segment_past}
use Rattle.structure.specs.SegmentNames.{segment_names}
use Rattle.error_segment.specs.Errors.{count_of}
use Rattle.alphabet.proofs.PartLaws.{past_none}
use Rattle.error_segment.proofs.LocateLaws.{name_none}
use Rattle.error_segment.proofs.locating.locate_far.Goals.{In-Some}
use Rattle.error_segment.proofs.locating.locate_far.Goals as goal

-- the segment that was found
stands : (c : In-Some)
    → let m = c.args.message.now in
    let p = c.in-Some.part in
    (p.start ≤ p.end) × (p.end < length m) × (take (p.end - p.start) (drop p.start m) ≡ get_or (segments m) c.args.place [])
stands c =
    let a = c.args in
    let b = segment_bytes a.message.now a.place _ _ (sym c.segment_at.ensures ∙ c.in-Some.is) in
    (b.1, b.2, b.3)

pub returns : goal.returns
returns c =
    let a = c.args in
    let b = stands (goal.at.returns c).In-Some in
    let l = b.1 in (
      (b.0, omega arith, b.2),
      c.sequence_of-2.ensures
          ∙ ap (λ (n : ℕ). count_of n (take (a.place + 1) (segment_names a.message.now))) (c.name_of-name.ensures ∙ ap name_of b.2),
    )

pub returns-in_default : goal.returns-in_default
returns-in_default c =
    let a = c.args in
    let m = a.message.now in
    let n : get_or (segments m) a.place [] ≡ [] = past_none (segments m) a.place (segment_past m a.place (sym c.segment_at.ensures ∙ c.in_default.is)) in
    (n, c.sequence_of.ensures ∙ ap (λ (k : ℕ). count_of k (take (a.place + 1) (segment_names m))) (sym name_none ∙ ap name_of (sym n)))

pub slice_bounds-name_of-count : goal.slice_bounds-name_of-count
slice_bounds-name_of-count c = (stands (goal.at.slice_bounds-name_of-count c).In-Some).0

pub slice_bounds-name_of-start : goal.slice_bounds-name_of-start
slice_bounds-name_of-start c = let l = (stands (goal.at.slice_bounds-name_of-start c).In-Some).0 in search rules

pub slice_bounds-name_of-end : goal.slice_bounds-name_of-end
slice_bounds-name_of-end c = let l = (stands (goal.at.slice_bounds-name_of-end c).In-Some).1 in search rules
