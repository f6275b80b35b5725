-- Rests on the laws of a sequence that is closed and known: how many bytes it says.
use Prim.Native.Nat.{ℕ, ◌+◌, ◌/◌}
use mathlib.Core.Path.{◌≡◌, refl, sym, ap, ◌∙◌}
use mathlib.Core.Bool.{Bool, not, true, false}
use mathlib.Core.List.{List}
use lib.ListN.{length, take, drop}
use lib.Seq.{length-take-le}
use native.Mathlib.Omega.{arith}
use borrow.Author.Tests.{leb-false}
use Rattle.std.specs.Prelude.{Ok}
use Rattle.alphabet.specs.Answers.{Refusable}
use Rattle.alphabet.specs.Lists.{find}
use Rattle.alphabet.proofs.CheckLaws.{passes_not}
use Rattle.alphabet.proofs.ListLaws.{rest_of}
use Rattle.escaping.specs.Escape.{escape_of}
use Rattle.text.specs.Unescape.{known, meaning, plain_text, emit, sequence}
use Rattle.text.specs.Judging.{seen}
use Rattle.text.specs.declared.unescaping.Said.{Said}
use Rattle.text.proofs.SequenceLaws.{meaning_one, meaning_more}
use Rattle.text.proofs.StepLaws.{sequence_known}
use Rattle.text.proofs.unescaping.sequence_in.Goals.{In_ok-fails_if-2}
use Rattle.text.proofs.unescaping.sequence_in.Goals as goal

-- what the escape delimiter opens
abbrev R : In_ok-fails_if-2 → List ℕ
R c = drop (c.args.i + 1) c.args.text.now

abbrev said : ℕ → ℕ → Refusable Said
said length skip = Ok (record { length = length; skip = skip })

not_false : (t : Bool) → not t ≡ false → t ≡ true
not_false true e = refl
not_false false e = sym e

-- it is closed and known
is : (c : In_ok-fails_if-2)
    → let ds = c.args.delimiters.bytes in
    let inside = take c.find-n.result (R c) in
    (known inside ≡ true) × (length inside ≡ c.find-n.result) × (sequence plain_text ds (R c) (find (escape_of ds) (R c)) ≡ emit (meaning ds inside) (c.find-n.result + 1))
is c =
    let ds = c.args.delimiters.bytes in
    let n = c.find-n.result in
    let q = rest_of c.args.text.now (c.args.i + 1) in
    let e : n ≡ find (escape_of ds) (R c) = c.find-n.ensures ∙ ap (find (escape_of ds)) q in
    let h = leb-false _ _ (passes_not _ _ _ (sym c.fails_if.ensures ∙ c.in_ok-fails_if.was)) in
    let l = ap length q in
    let k = ap (λ (r : List ℕ). known (take n r)) (sym q) ∙ sym c.is_known.ensures ∙ not_false _ (passes_not _ _ _ (sym c.fails_if-2.ensures ∙ c.in_ok-fails_if-2.was)) in
    (k, length-take-le n (R c) (omega arith), ap (sequence plain_text ds (R c)) (sym e) ∙ sequence_known plain_text ds (R c) n (omega arith) k)

pub returns-then-n-lt3 : goal.returns-then-n-lt3
unfolding seen
returns-then-n-lt3 c =
    let ds = c.args.delimiters.bytes in
    let h = is (goal.at.returns-then-n-lt3 c).In_ok-fails_if-2 in
    let t = h.1 in
    let m = meaning_one ds _ h.0 (omega arith) in
    ap (λ (k : ℕ). said k (c.find-n.result + 1)) (sym m) ∙ ap (seen c.args.i) (sym h.2)

pub returns : goal.returns
unfolding seen
returns c =
    let ds = c.args.delimiters.bytes in
    let h = is (goal.at.returns c).In_ok-fails_if-2 in
    let t = h.1 in
    let m = meaning_more ds _ h.0 (omega arith) ∙ ap (λ (k : ℕ). k / 2) t in
    ap (λ (k : ℕ). said k (c.find-n.result + 1)) (sym m) ∙ ap (seen c.args.i) (sym h.2)
