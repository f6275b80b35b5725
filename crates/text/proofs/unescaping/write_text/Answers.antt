-- Rests on the laws of a rest that has no fault, and of a buffer that is filled from its front: what the rest of the text says is left, at each turn;
-- and on a run saying what it is, up to the next escape delimiter.
use lib.ListN.{length-append, length-drop, length, get_or, take, drop}
use lib.Seq.{length-take-le}
use Prim.Native.Nat.{ℕ, ◌≤◌, ◌<◌, ◌+◌, ◌-◌}
use mathlib.Core.Path.{◌≡◌, sym, ap, subst⁻¹, ◌∙◌}
use mathlib.Core.List.{List, ◌++◌, map-id}
use native.Mathlib.Omega.{arith}
use borrow.Author.Rules.{rules}
use borrow.Author.Tests.{ne_eqb}
use lib.Dec.{eqb}
use mathlib.Core.Bool.{true}
use Rattle.alphabet.proofs.ListLaws.{rest_of, first_past}
use Rattle.alphabet.specs.Lists.{find}
use Rattle.escaping.specs.Escape.{escape_of}
use Rattle.text.specs.Unescape.{known, meaning, plain_text, emit, step, scan}
use Rattle.text.specs.Judging.{is_text, text_of}
use Rattle.alphabet.proofs.FillingLaws.{fill_start, fill_more, fill_room, fill_length, fill_end, put_fits}
use Rattle.text.proofs.StepLaws.{step_known, scan_end, text_past, text_opens}
use Rattle.plain.proofs.PlainLaws.{run_from}
use Rattle.text.proofs.RunLaws.{run_reaches, text_run}
use Rattle.text.proofs.unescaping.write_text.Goals.{After-find-n, After-find_one, After-five-1, At-loop-i}
use Rattle.text.proofs.unescaping.write_text.Goals as goal

abbrev S : At-loop-i → List ℕ
S l = l.args.text.now

abbrev Ds : At-loop-i → List ℕ
Ds l = l.args.delimiters.bytes

-- the rest after the byte at the loop's place, as the code takes it
abbrev R : At-loop-i → List ℕ
R l = take (length (S l) - (l.loop-i.i + 1)) (drop (l.loop-i.i + 1) (S l))

abbrev Opens : At-loop-i → ℕ → List ℕ → Type 0
Opens l n r = (n < length r) × (known (take n r) ≡ true) × (step plain_text (Ds l) (get_or (S l) l.loop-i.i 0) (drop (l.loop-i.i + 1) (S l)) ≡ emit (meaning (Ds l) (take n r)) (n + 1))

kept : (l : At-loop-i) → length l.loop-i.buffer ≡ length l.args.buffer.now
kept l = fill_length l.loop-i.invariant.2 l.requires.1

-- a sequence that opens there
opened : (k : After-find-n) → Opens (goal.at.After-find-n k).At-loop-i k.find-n.result (R (goal.at.After-find-n k).At-loop-i)
opened k =
    let s = S (goal.at.After-find-n k).At-loop-i in
    let i = k.loop-i.i in
    let n = k.find-n.result in
    let e = escape_of (Ds (goal.at.After-find-n k).At-loop-i) in
    let r = drop (i + 1) s in
    let q = rest_of s (i + 1) in
    let x = k.if-b-mark.true in
    let m : n ≡ find e r = k.find-n.ensures ∙ ap (find e) q in
    let o = text_opens plain_text (Ds (goal.at.After-find-n k).At-loop-i) s i k.loop-i-test.true k.loop-i.invariant.1 x in
    let h : n < length r = subst⁻¹ (λ (z : ℕ). z < length r) m o.0 in
    let w : known (take n r) ≡ true = subst⁻¹ (λ (z : ℕ). known (take z r) ≡ true) m o.1 in
    subst⁻¹ (Opens (goal.at.After-find-n k).At-loop-i n) q (h, w, step_known plain_text (Ds (goal.at.After-find-n k).At-loop-i) (get_or s i 0) r n x (sym m) h w)

-- the text behind it
behind : (k : After-find-n) →
    let n = k.find-n.result in
    let i' = k.loop-i.i + 1 + n + 1 in
    (is_text (scan plain_text (Ds (goal.at.After-find-n k).At-loop-i) i' 0 (drop i' (S (goal.at.After-find-n k).At-loop-i))) ≡ true) × (text_of (scan plain_text (Ds (goal.at.After-find-n k).At-loop-i) k.loop-i.i 0 (drop k.loop-i.i (S (goal.at.After-find-n k).At-loop-i))) ≡ meaning (Ds (goal.at.After-find-n k).At-loop-i) (take n (R (goal.at.After-find-n k).At-loop-i)) ++ text_of (scan plain_text (Ds (goal.at.After-find-n k).At-loop-i) i' 0 (drop i' (S (goal.at.After-find-n k).At-loop-i))))
behind k =
    let n = k.find-n.result in
    text_past plain_text (Ds (goal.at.After-find-n k).At-loop-i) (S (goal.at.After-find-n k).At-loop-i) k.loop-i.i k.loop-i-test.true k.loop-i.invariant.1 (k.loop-i.i + 1 + n + 1) (n + 1) (meaning (Ds (goal.at.After-find-n k).At-loop-i) (take n (R (goal.at.After-find-n k).At-loop-i))) (opened k).2 (omega arith)

-- the end of the sequence is within the text
short : (k : After-find-n) → k.loop-i.i + 1 + k.find-n.result + 1 ≤ length (S (goal.at.After-find-n k).At-loop-i)
short k =
    let h = (opened k).0 in
    let q = ap length (rest_of (S (goal.at.After-find-n k).At-loop-i) (k.loop-i.i + 1)) in
    let d = length-drop (k.loop-i.i + 1) (S (goal.at.After-find-n k).At-loop-i) in
    omega arith

-- a run of plain bytes, where it ends, and the text behind it
abbrev Runs : At-loop-i → ℕ → Type 0
Runs l n =
    (0 < n) × (l.loop-i.i + n ≤ length (S l)) × (is_text (scan plain_text (Ds l) (l.loop-i.i + n) 0 (drop (l.loop-i.i + n) (S l))) ≡ true)
    × (text_of (scan plain_text (Ds l) l.loop-i.i 0 (drop l.loop-i.i (S l))) ≡ take n (drop l.loop-i.i (S l)) ++ text_of (scan plain_text (Ds l) (l.loop-i.i + n) 0 (drop (l.loop-i.i + n) (S l))))

plain : (k : After-find_one) → Runs (goal.at.After-find_one k).At-loop-i k.find_one.result
plain k =
    let i = k.loop-i.i in
    let n = k.find_one.result in
    let e = escape_of (Ds (goal.at.After-find_one k).At-loop-i) in
    let h = k.loop-i-test.true in
    let g = k.loop-i.invariant.1 in
    let five : length (Ds (goal.at.After-find_one k).At-loop-i) ≡ 5 = search rules in
    let m : n ≡ find e (drop i (S (goal.at.After-find_one k).At-loop-i)) = k.find_one.ensures ∙ ap (find e) (rest_of (S (goal.at.After-find_one k).At-loop-i) i) in
    let b = first_past (eqb e) (S (goal.at.After-find_one k).At-loop-i) i h (ne_eqb e _ (λ w. k.if-b-mark.false (sym w))) in
    let r = run_from (eqb e) (S (goal.at.After-find_one k).At-loop-i) i n (omega arith) k.find_one.ensures in
    let t = text_run plain_text (Ds (goal.at.After-find_one k).At-loop-i) (S (goal.at.After-find_one k).At-loop-i) i n (omega (arith, m, run_reaches plain_text (Ds (goal.at.After-find_one k).At-loop-i) (S (goal.at.After-find_one k).At-loop-i) i five g)) five g in
    let u = text_of (scan plain_text (Ds (goal.at.After-find_one k).At-loop-i) (i + n) 0 (drop (i + n) (S (goal.at.After-find_one k).At-loop-i))) in
    (omega arith, r.1, t.0, t.1 ∙ ap (λ (w : List ℕ). w ++ u) (map-id (take n (drop i (S (goal.at.After-find_one k).At-loop-i)))))

pub loop-i-init : goal.loop-i-init
loop-i-init c = (omega arith, c.requires.0, fill_start _ _)

pub slice_bounds-put_meaning-end : goal.slice_bounds-put_meaning-end
slice_bounds-put_meaning-end c = sym (length-take-le _ _ (let h = (opened c).0 in omega arith))

pub put_meaning-place-requires : goal.put_meaning-place-requires
put_meaning-place-requires c =
    let o = opened (goal.at.put_meaning-place-requires c).After-find-n in
    let t = ap length (behind (goal.at.put_meaning-place-requires c).After-find-n).1 in
    let n = length-append (meaning (Ds (goal.at.put_meaning-place-requires c).At-loop-i) (take c.find-n.result (R (goal.at.put_meaning-place-requires c).At-loop-i))) (text_of (scan plain_text (Ds (goal.at.put_meaning-place-requires c).At-loop-i) (c.loop-i.i + 1 + c.find-n.result + 1) 0 (drop (c.loop-i.i + 1 + c.find-n.result + 1) (S (goal.at.put_meaning-place-requires c).At-loop-i)))) in
    let r = fill_room c.loop-i.invariant.2 in
    let q = kept (goal.at.put_meaning-place-requires c).At-loop-i in
    (o.1, omega (arith, c.requires.1))

pub overflow_add-i : goal.overflow_add-i
overflow_add-i c = let h = short (goal.at.overflow_add-i c).After-find-n in omega arith

pub overflow_add-i-then-b-mark : goal.overflow_add-i-then-b-mark
overflow_add-i-then-b-mark c = let h = short (goal.at.overflow_add-i-then-b-mark c).After-find-n in omega arith

pub loop-i-smaller-then-b-mark : goal.loop-i-smaller-then-b-mark
loop-i-smaller-then-b-mark c = let h = short (goal.at.loop-i-smaller-then-b-mark c).After-find-n in omega arith

pub loop-i-preserved-then-b-mark : goal.loop-i-preserved-then-b-mark
loop-i-preserved-then-b-mark c =
    let m = behind (goal.at.loop-i-preserved-then-b-mark c).After-find-n in
    (short (goal.at.loop-i-preserved-then-b-mark c).After-find-n, m.0, fill_more _ _ _ _ c.loop-i.invariant.2 m.1 c.put_meaning-place.ensures.buffer_after c.put_meaning-place.ensures.value)

pub overflow_add-end : goal.overflow_add-end
overflow_add-end c = let h = (plain c).1 in omega arith

pub slice_bounds-put_long-end : goal.slice_bounds-put_long-end
slice_bounds-put_long-end c = let h = (plain (goal.at.slice_bounds-put_long-end c).After-find_one).1 in omega arith

pub loop-i-smaller : goal.loop-i-smaller
loop-i-smaller c =
    let p = plain (goal.at.loop-i-smaller c).After-find_one in
    let b = p.0 in
    let h = p.1 in
    omega arith

pub loop-i-preserved : goal.loop-i-preserved
loop-i-preserved c =
    let s = S (goal.at.loop-i-preserved c).At-loop-i in
    let i = c.loop-i.i in
    let n = c.find_one.result in
    let f = c.loop-i.invariant.2 in
    let m = plain (goal.at.loop-i-preserved c).After-find_one in
    let h = m.1 in
    let e : i + n - i ≡ n = omega arith in
    let u = text_of (scan plain_text (Ds (goal.at.loop-i-preserved c).At-loop-i) (i + n) 0 (drop (i + n) s)) in
    let z = ap length m.3 ∙ length-append (take n (drop i s)) u in
    let d = length-drop i s in
    let y = length-take-le n (drop i s) (omega arith) in
    let t = length-take-le (i + n - i) (drop i s) (omega arith) in
    let r = fill_room f in
    let q = kept (goal.at.loop-i-preserved c).At-loop-i in
    let p = put_fits c.loop-i.buffer (take (i + n - i) (drop i s)) c.loop-i.place (omega (arith, c.requires.1)) in
    (h, m.2, fill_more _ _ _ _ f (m.3 ∙ ap (λ (j : ℕ). take j (drop i s) ++ u) (sym e)) (c.put_long-place.ensures.buffer_after ∙ p.1) (c.put_long-place.ensures.value ∙ p.0))

pub returns : goal.returns
unfolding text_of
returns c =
    fill_end c.loop-i.invariant.2 (ap text_of (scan_end plain_text (Ds (goal.at.returns c).At-loop-i) (S (goal.at.returns c).At-loop-i) c.loop-i.i (omega arith)))
