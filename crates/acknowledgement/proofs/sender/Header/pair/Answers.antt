-- Rests on where two fields lie in a header that is sound.
use Prim.Native.Nat.{◌-◌}
use lib.ListN.{get_or}
use native.Mathlib.Omega.{arith}
use Rattle.acknowledgement.proofs.FieldLaws.{Lies, lies}
use Rattle.acknowledgement.proofs.sender.Header.pair.Goals.{Start}
use Rattle.acknowledgement.proofs.sender.Header.pair.Goals as goal

placed : (s : Start) → let h = s.args.self.now in Lies h.bytes.now (get_or h.ends (s.args.number - 2) 0) (get_or h.ends s.args.number 0) s.args.number
placed s = let h = s.args.self.now in lies h.bytes.now h.ends h.sound h.noted s.args.number s.requires.0 s.requires.1

pub overflow_add-start : goal.overflow_add-start
overflow_add-start c = let p = placed (goal.at.overflow_add-start c).Start in let b = p.begun in let w = p.within in omega arith

pub overflow_add-end : goal.overflow_add-end
overflow_add-end c = let w = (placed (goal.at.overflow_add-end c).Start).within in omega arith

pub slice_bounds-result-count : goal.slice_bounds-result-count
slice_bounds-result-count c = let b = (placed (goal.at.slice_bounds-result-count c).Start).begun in omega arith

pub slice_bounds-result-start : goal.slice_bounds-result-start
slice_bounds-result-start c = let p = placed (goal.at.slice_bounds-result-start c).Start in let b = p.begun in let w = p.within in omega arith

pub slice_bounds-result-end : goal.slice_bounds-result-end
slice_bounds-result-end c = let p = placed (goal.at.slice_bounds-result-end c).Start in let b = p.begun in let w = p.within in omega arith

pub returns : goal.returns
returns c = (placed (goal.at.returns c).Start).bytes
