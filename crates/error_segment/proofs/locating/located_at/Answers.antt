-- Rests on the law of the first segment from a place on, and on the count that it adds to.
use mathlib.Core.Path.{sym, ap, ◌∙◌, subst}
use mathlib.Core.List.{List, []}
use Prim.Native.Nat.{ℕ, ◌+◌, ◌-◌}
use lib.ListN.{get_or, take, drop}
use native.Mathlib.Omega.{arith}
use Rattle.reading.specs.Segments.{segments}
use Rattle.error_segment.specs.Errors.{faulty}
use Rattle.error_segment.specs.Pieces.{StandsAt}
use Rattle.error_segment.proofs.LocateLaws.{count_most, count_there, count_nowhere, from_walk, from_over}
use Rattle.error_segment.proofs.locating.located_at.Goals as goal

pub returns-then-message-end : goal.returns-then-message-end
returns-then-message-end c =
    let a = c.args in
    let m = a.message.now in
    let z = from_over m a.start (omega (arith, c.segment_end-end.ensures)) in
    let e = c.located_nowhere.ensures in
    (subst (StandsAt m (faulty (drop a.start m) 0)) (sym e.0) (ap (λ (l : List (List ℕ)). get_or l 0 []) z), e.1 ∙ count_nowhere a.names.now (drop a.start m) z)

pub returns : goal.returns
returns c =
    let a = c.args in
    let m = a.message.now in
    let e = c.segment_end-end in
    let n = c.name_of-name in
    let w = from_walk m a.start e.result e.ensures (omega arith) in
    let q = e.ensures in (
      (omega arith, omega arith, sym (ap (λ (l : List (List ℕ)). get_or l 0 []) w)),
      ap (λ (k : ℕ). k + 1) c.count_of.ensures
          ∙ count_there a.names.now (drop a.start m) (take (e.result - a.start) (drop a.start m)) (segments (drop (e.result + 1) m)) n.result w n.ensures,
    )

pub overflow_add-result : goal.overflow_add-result
overflow_add-result c = let a = c.args in
    let h = count_most c.name_of-name.result a.names.now in
    let e = c.count_of.ensures in
    omega arith
