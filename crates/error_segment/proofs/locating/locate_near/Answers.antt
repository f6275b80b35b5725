-- Rests on the walk over the segments, which keeps the names that it passes: those that are left, at each turn.
use Prim.Native.Nat.{ℕ, ◌+◌, ◌-◌, ◌≤◌}
use mathlib.Core.Path.{◌≡◌, refl, sym, ap, ◌∙◌, subst}
use mathlib.Core.List.{List, [], ◌++◌}
use lib.ListN.{get_or, take, drop, length-set}
use lib.Seq.{length-take-le}
use native.Mathlib.Omega.{arith}
use borrow.Author.Rules.{rules}
use Rattle.reading.specs.Segments.{segments, name_of}
use Rattle.structure.specs.SegmentNames.{segment_names}
use Rattle.error_segment.specs.Errors.{faulty, count_of}
use Rattle.error_segment.specs.Pieces.{StandsAt}
use Rattle.error_segment.proofs.LocateLaws.{pass_start, pass_next, pass_faulty, pass_none, from_walk, from_over, sequence_there, sequence_none}
use Rattle.error_segment.proofs.locating.locate_near.Goals.{After-segment_end-end}
use Rattle.error_segment.proofs.locating.locate_near.Goals as goal

pub loop-number-init : goal.loop-number-init
loop-number-init c = let a = c.args in (omega arith, refl, pass_start (segments a.message.now) a.names.now)

-- the CR that ends the segment stands at or behind its start
inside : (c : After-segment_end-end) → c.loop-number.start ≤ c.segment_end-end.result
inside c = let e = c.segment_end-end.ensures in omega arith

pub returns-then-message-end : goal.returns-then-message-end
returns-then-message-end c =
    let a = c.args in
    let m = a.message.now in
    let z = from_over m c.loop-number.start (omega (arith, c.segment_end-end.ensures)) in
    let p = c.loop-number.invariant.2 in
    let e = c.located_nowhere.ensures in (
      subst (StandsAt m (faulty m a.place)) (sym e.0) (pass_none p z a.place c.loop-number.invariant.0),
      e.1 ∙ sequence_none m (drop c.loop-number.start m) c.loop-number.names c.loop-number.number p z a.place c.loop-number.invariant.0,
    )

pub loop-number-preserved : goal.loop-number-preserved
loop-number-preserved c =
    let m = c.args.message.now in
    let e = c.segment_end-end in
    let n = length-set c.loop-number.names c.loop-number.number c.name_of.result in
    let w = from_walk m c.loop-number.start e.result e.ensures (omega arith) in (
      omega arith,
      n ∙ c.loop-number.invariant.1,
      pass_next (take (e.result - c.loop-number.start) (drop c.loop-number.start m)) (segments (drop (e.result + 1) m)) c.name_of.result c.loop-number.invariant.2 w c.name_of.ensures (omega arith),
    )

pub returns : goal.returns
returns c =
    let a = c.args in
    let m = a.message.now in
    let p = c.loop-number.invariant.2 in
    let k : c.loop-number.number ≡ a.place = omega arith in
    let e = c.located_at.ensures in (
      subst (λ (b : List ℕ). StandsAt m b c.located_at.result.segment) (sym (pass_faulty p) ∙ ap (λ (i : ℕ). get_or (segments m) i []) k) e.0,
      e.1 ∙ ap (λ (i : ℕ). count_of (name_of (faulty (drop c.loop-number.start m) 0)) (take i c.loop-number.names ++ take 1 (segment_names (drop c.loop-number.start m)))) (sym k)
          ∙ sequence_there m (drop c.loop-number.start m) c.loop-number.names c.loop-number.number p a.place k,
    )

pub slice_bounds-located_nowhere-end-then-message-end : goal.slice_bounds-located_nowhere-end-then-message-end
slice_bounds-located_nowhere-end-then-message-end c = let l = c.loop-number in sym (length-take-le l.number l.names (omega arith))

pub slice_bounds-name_of-count : goal.slice_bounds-name_of-count
slice_bounds-name_of-count c = inside (goal.at.slice_bounds-name_of-count c).After-segment_end-end

pub slice_bounds-name_of-start : goal.slice_bounds-name_of-start
slice_bounds-name_of-start c = let i = inside (goal.at.slice_bounds-name_of-start c).After-segment_end-end in search rules

pub slice_bounds-name_of-end : goal.slice_bounds-name_of-end
slice_bounds-name_of-end c = let i = inside (goal.at.slice_bounds-name_of-end c).After-segment_end-end in search rules

pub slice_bounds-located_at-end-2 : goal.slice_bounds-located_at-end-2
slice_bounds-located_at-end-2 c = let l = c.loop-number in sym (length-take-le c.args.place l.names (omega arith))

pub located_at-requires : goal.located_at-requires
located_at-requires c = let l = c.loop-number in let n = length-take-le c.args.place l.names (omega arith) in omega arith
