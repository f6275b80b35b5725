-- Rests on what each call ensures: the walk has come a word further, then to the end, and there all that is left is noted.
use Prim.Native.Nat.{ℕ, ◌-◌, ◌*◌, ◌/◌, ◌<◌}
use mathlib.Core.Path.{◌≡◌, refl, subst, ap, ◌∙◌}
use mathlib.Core.List.{List}
use lib.ListN.{length, get_or, take, drop}
use native.Mathlib.Omega.{arith}
use borrow.Author.Rules.{rules}
use Rattle.alphabet.specs.Lists.{either}
use Rattle.alphabet.proofs.BlockLaws.{chunk_at, chunk_within, chunk_next}
use Rattle.search.specs.Words.{marks}
use Rattle.ends.specs.Ends.{Reached}
use Rattle.ends.proofs.NoteLaws.{reached_none, front_noted}
use Rattle.ends.proofs.note.Goals.{After-sought-marked, After-note_rest-noted}
use Rattle.ends.proofs.note.Goals as goal

pub loop-i-init : goal.loop-i-init
loop-i-init c = (search rules, reached_none c.args.separator c.args.bytes.now c.args.ends.now)

here : (c : After-sought-marked) → c.loop-i.i < length c.args.bytes.now / 8
here c = subst (λ (k : ℕ). c.loop-i.i < k) c.as_chunks.ensures.front_len c.loop-i-test.true

-- the word's marks are those of the eight bytes at its place
marked : (c : After-sought-marked)
    → let a = c.args in
    c.sought-marked.result ≡ marks (either a.separator a.separator) (take 8 (drop (c.loop-i.i * 8) a.bytes.now))
marked c =
    let a = c.args in
    let l = a.bytes.now in
    let i = c.loop-i.i in
    c.sought-marked.ensures
    ∙ ap (marks (either a.separator a.separator)) (ap (λ (bs : List (List ℕ)). get_or bs i _) c.as_chunks.ensures.front ∙ chunk_at 8 (length l / 8) l i _ (here c))

pub note_word-count-requires-clause-marks : goal.note_word-count-requires-clause-marks
note_word-count-requires-clause-marks c =
    let at = (goal.at.note_word-count-requires-clause-marks c).After-sought-marked in
    (chunk_within 8 c.loop-i.i c.args.bytes.now (here at), marked at)

pub note_word-count-requires-clause-reached : goal.note_word-count-requires-clause-reached
note_word-count-requires-clause-reached c = c.loop-i.invariant.1

pub returns-then-most-count : goal.returns-then-most-count
returns-then-most-count c =
    let q = c.note_word-count in
    let a = c.args in
    let t = c.if-most-count.true in
    front_noted a.separator a.bytes.now q.new.ends q.result a.most q.ensures.1 (λ k i j. omega arith)

pub loop-i-preserved : goal.loop-i-preserved
loop-i-preserved c =
    let a = c.args in
    let q = c.note_word-count in
    let n = c.loop-i.invariant.0 in
    (omega arith, subst (λ (k : ℕ). Reached a.separator a.bytes.now q.result k q.new.ends) (chunk_next 8 c.loop-i.i (c.loop-i.i * 8) refl) q.ensures)

pub note_rest-noted-requires-clause-within : goal.note_rest-noted-requires-clause-within
note_rest-noted-requires-clause-within c = omega arith

pub note_rest-noted-requires-clause-reached : goal.note_rest-noted-requires-clause-reached
note_rest-noted-requires-clause-reached c =
    let a = c.args in
    let t = c.loop-i-test.false in
    let u = c.loop-i.auto.i-end in
    let m = c.as_chunks.ensures.front_len in
    let k = c.as_chunks.ensures.back_len in
    let e : c.loop-i.i * 8 ≡ length a.bytes.now - length c.as_chunks.result.1.now = omega arith in
    subst (λ (x : ℕ). Reached a.separator a.bytes.now c.loop-i.count x c.loop-i.ends) e c.loop-i.invariant.1

pub note_end-requires : goal.note_end-requires
note_end-requires c = c.note_rest-noted.ensures

pub returns : goal.returns
returns c = c.note_end.ensures
