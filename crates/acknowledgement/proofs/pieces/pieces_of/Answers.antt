-- Rests on what each call ensures: the pieces, one by one.
use Prim.Native.Nat.{◌≤◌}
use mathlib.Core.Path.{sym, ap, ◌∙◌}
use mathlib.Core.List.{[], ◌∷◌}
use lib.ListN.{length, take, drop}
use lib.Seq.{length-take-le}
use native.Mathlib.Omega.{arith}
use Rattle.acknowledgement.specs.Pieces.{event_mark, pieces}
use Rattle.acknowledgement.proofs.FieldLaws.{long_header}
use Rattle.acknowledgement.proofs.PieceLaws.{one_byte}
use Rattle.acknowledgement.proofs.pieces.pieces_of.Goals.{Start}
use Rattle.acknowledgement.proofs.pieces.pieces_of.Goals as goal

long : (s : Start) → 9 ≤ length s.args.header.bytes.now
long s = let h = s.args.header in long_header h.bytes.now h.ends h.sound h.noted

pub slice_bounds-mark-end : goal.slice_bounds-mark-end
slice_bounds-mark-end c = let n = long (goal.at.slice_bounds-mark-end c).Start in omega arith

pub slice_bounds-result-end : goal.slice_bounds-result-end
slice_bounds-result-end c = sym (length-take-le 8 c.args.header.bytes.now (omega (arith, long (goal.at.slice_bounds-result-end c).Start)))

pub event_mark-requires : goal.event_mark-requires
event_mark-requires c = omega (arith, long (goal.at.event_mark-requires c).Start)

pub returns : goal.returns
unfolding pieces
returns c =
    let a = c.args in
    let h = a.header.bytes.now in
    let m = one_byte h 3 (omega (arith, long (goal.at.returns c).Start)) in
    let ev = c.event-event.ensures in
    let b = c.event_mark.ensures ∙ ap (event_mark h) ev in
    let k = a.fixed.now in
    λ i.
    take 8 h ∷ m i ∷ c.pair-receiver.ensures i ∷ c.pair-sender.ensures i ∷ a.time.now ∷ take 5 k ∷ b i ∷ ev i ∷ m i ∷ a.id.now ∷ m i ∷ c.field.ensures i ∷ take 12 (drop 5 k)
    ∷ c.field-2.ensures i ∷ take 1 (drop 17 k) ∷ a.behind.now ∷ []
