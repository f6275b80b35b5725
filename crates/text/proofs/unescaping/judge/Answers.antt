-- Rests on the laws of the scan: what was judged and the scan of the rest, at each turn; and on a run saying what it is.
use Prim.Native.Nat.{ℕ, ◌≤◌, ◌+◌}
use mathlib.Core.Path.{◌≡◌, refl, sym, ap, ◌∙◌}
use lib.ListN.{length, get_or, drop, length-drop}
use native.Mathlib.Omega.{arith}
use borrow.Author.Rules.{rules}
use Rattle.text.specs.Unescape.{plain_text, step}
use Rattle.plain.specs.Plain.{special}
use Rattle.escaping.specs.Outcomes.{answer}
use Rattle.text.proofs.StepLaws.{step_bounds, seen_fault, seen_bytes, Scanning, scanning_more, scanning_stop, scanning_end}
use Rattle.plain.proofs.PlainLaws.{run_from}
use Rattle.text.proofs.RunLaws.{scanning_run}
use Rattle.text.proofs.unescaping.judge.Goals.{After-plain_run-run, In_ok-said}
use Rattle.text.proofs.unescaping.judge.Goals as goal

pub returns-in_err-said : goal.returns-in_err-said
unfolding answer
returns-in_err-said c =
    let s = c.args.text.now in
    let i = c.loop-i.i in
    let y = seen_fault i (step plain_text c.args.delimiters.bytes (get_or s i 0) (drop (i + 1) s)) (sym c.step_at.ensures ∙ c.in_err-said.was) in
    rw (ap answer (scanning_stop c.in_err-said.field-0.0.kind c.loop-i.invariant.2 (omega arith) y.0), y.1) (search rules)

-- the scan behind what stands at the place
stepped : (c : In_ok-said)
    → let a = c.args in
    let i = c.loop-i.i + 1 + c.in_ok-said.said.skip in let n = c.loop-i.length + c.in_ok-said.said.length in
    (i ≤ length a.text.now) × (n ≤ i) × Scanning plain_text a.delimiters.bytes a.text.now i n
stepped c =
    let a = c.args in
    let s = a.text.now in
    let said = c.in_ok-said.said in
    let y = seen_bytes c.loop-i.i (step plain_text a.delimiters.bytes (get_or s c.loop-i.i 0) (drop (c.loop-i.i + 1) s)) (sym c.step_at.ensures ∙ c.in_ok-said.was) in
    let w = step_bounds a.delimiters.bytes (get_or s c.loop-i.i 0) (drop (c.loop-i.i + 1) s) y.0 said.skip y.1 in
    let z = y.2 in
    let d = length-drop (c.loop-i.i + 1) s in
    (omega arith, omega arith, scanning_more y.0 said.skip _ _ c.loop-i.invariant.2 (omega arith) y.1 refl (ap (λ (m : ℕ). c.loop-i.length + m) (sym z)))

-- and behind the run that follows
ran : (c : After-plain_run-run)
    → let a = c.args in
    let i = c.loop-i.i + 1 + c.in_ok-said.said.skip + c.plain_run-run.result in let n = c.loop-i.length + c.in_ok-said.said.length + c.plain_run-run.result in
    (i ≤ length a.text.now) × (n ≤ i) × Scanning plain_text a.delimiters.bytes a.text.now i n
ran c =
    let a = c.args in
    let ds = a.delimiters.bytes in
    let s = a.text.now in
    let i = c.loop-i.i + 1 + c.in_ok-said.said.skip in
    let n = c.loop-i.length + c.in_ok-said.said.length in
    let five : length ds ≡ 5 = search rules in
    let h = stepped (goal.at.After-plain_run-run c).In_ok-said in
    let m = h.1 in
    let r = run_from (special ds) s i c.plain_run-run.result h.0 c.plain_run-run.ensures in
    (r.1, omega arith, scanning_run plain_text ds s i c.plain_run-run.result r.0 five n r.1 h.2)

pub overflow_add-length : goal.overflow_add-length
overflow_add-length c = let h = stepped (goal.at.overflow_add-length c).In_ok-said in let e = h.0 in let m = h.1 in omega arith

pub overflow_add-i-in-loop-i : goal.overflow_add-i-in-loop-i
overflow_add-i-in-loop-i c = let h = (stepped (goal.at.overflow_add-i-in-loop-i c).In_ok-said).0 in omega arith

pub slice_bounds-plain_run-count : goal.slice_bounds-plain_run-count
slice_bounds-plain_run-count c = let h = (stepped (goal.at.slice_bounds-plain_run-count c).In_ok-said).0 in omega arith

pub slice_bounds-plain_run-start : goal.slice_bounds-plain_run-start
slice_bounds-plain_run-start c = let h = (stepped (goal.at.slice_bounds-plain_run-start c).In_ok-said).0 in omega arith

pub overflow_add-length-in-loop-i : goal.overflow_add-length-in-loop-i
overflow_add-length-in-loop-i c = let h = ran (goal.at.overflow_add-length-in-loop-i c).After-plain_run-run in let e = h.0 in let m = h.1 in omega arith

pub overflow_add-i-in-loop-i-2 : goal.overflow_add-i-in-loop-i-2
overflow_add-i-in-loop-i-2 c = let h = (ran (goal.at.overflow_add-i-in-loop-i-2 c).After-plain_run-run).0 in omega arith

pub loop-i-preserved : goal.loop-i-preserved
loop-i-preserved c = ran (goal.at.loop-i-preserved c).After-plain_run-run

pub returns : goal.returns
unfolding answer
returns c =
    let g = c.loop-i.invariant.2 in
    rw (ap answer (scanning_end g (omega arith)), g.size) (search rules)
