-- Rests on the laws of feeding, and on a run being fed as single bytes are: what is left of the piece decides, at each turn.
use Prim.Native.Nat.{ℕ, ◌<◌, ◌+◌, ◌-◌}
use mathlib.Core.Path.{◌≡◌, sym, ap, subst, ◌∙◌}
use mathlib.Core.Bool.{true, false}
use mathlib.Core.List.{List, ◌∷◌}
use lib.ListN.{length, drop, length-drop}
use native.Mathlib.Omega.{arith}
use Rattle.std.specs.Prelude.{Ok, None, Result, is_some}
use Rattle.alphabet.specs.declared.answers.Refusal.{Refusal}
use Rattle.std.proofs.lemmas.List.{nil_from_length}
use Rattle.alphabet.proofs.ListLaws.{rest_of}
use Rattle.frames.specs.declared.steps.Step.{Step}
use Rattle.frames.specs.declared.feeding.Fed.{Fed}
use Rattle.frames.specs.Feeding.{Feeding, feeding, told, known, taken, foreign, fed, stored}
use Rattle.frames.proofs.FeedLaws.{frame_limit_le, gathers_below, length_stored, stored_set, stored_not, feed_stop, feed_on, fed_known, fed_foreign}
use Rattle.frames.proofs.KnownLaws.{known_after}
use Rattle.frames.proofs.state.FrameState.feed.Goals.{After-is_known, After-limit_of-limit, After-pass-run, In_default, Joined-step, else-step, then-step}
use Rattle.frames.proofs.state.FrameState.feed.Goals as goal

abbrev Whole : Type 0
Whole = Feeding (Result Fed Refusal)

-- a state that cannot be
refused : (c : After-is_known) → c.is_known.result ≡ false → let a = c.args in fed a.self a.piece.now a.buffer.now ≡ foreign a.buffer.now
refused c e = let a = c.args in fed_foreign a.self a.piece.now a.buffer.now (sym c.is_known.ensures ∙ e)

pub returns-then-not-is_known-clause-value : goal.returns-then-not-is_known-clause-value
unfolding foreign
returns-then-not-is_known-clause-value c = ap (λ (f : Whole). f.said) (sym (refused (goal.at.returns-then-not-is_known-clause-value c).After-is_known c.if-not-is_known.true))

pub returns-then-not-is_known-clause-buffer_after : goal.returns-then-not-is_known-clause-buffer_after
unfolding foreign
returns-then-not-is_known-clause-buffer_after c = ap (λ (f : Whole). f.left) (sym (refused (goal.at.returns-then-not-is_known-clause-buffer_after c).After-is_known c.if-not-is_known.true))

-- any other is fed the whole piece
whole : (c : After-limit_of-limit)
    → let a = c.args in
    fed a.self a.piece.now a.buffer.now ≡ taken (feeding c.limit_of-limit.result a.self a.buffer.now 0 a.piece.now)
whole c =
    let a = c.args in
    fed_known a.self a.piece.now a.buffer.now (sym c.is_known.ensures ∙ c.if-not-is_known.false)
    ∙ ap (λ (n : ℕ). taken (feeding n a.self a.buffer.now 0 a.piece.now)) (sym c.limit_of-limit.ensures)

-- behind a run: the buffer, what is left of the piece, and the bytes before it
abbrev X : After-pass-run → List ℕ
X k = k.pass-run.new.buffer

abbrev Left : After-pass-run → List ℕ
Left k = drop k.pass-run.result k.loop-b.rest.now

abbrev At : After-pass-run → ℕ
At k = length k.args.piece.now - length k.loop-b.rest.now + k.pass-run.result

record Behind (k : After-pass-run) : Type 0 where
  place : At k + length (Left k) ≡ length k.args.piece.now
  size : length (X k) ≡ length k.args.buffer.now
  known-still : known (length k.args.buffer.now) k.pass-run.new.self ≡ true
  on : feeding k.limit_of-limit.result k.args.self k.args.buffer.now 0 k.args.piece.now ≡ feeding k.limit_of-limit.result k.pass-run.new.self (X k) (At k) (Left k)

behind : (k : After-pass-run) → Behind k
behind k =
    let p = k.pass-run.ensures in
    let v = k.loop-b.invariant in
    let w = p.within in
    let d = length-drop k.pass-run.result k.loop-b.rest.now in
    let l = v.0 in
    record {
      place = omega arith;
      size = p.size ∙ v.1;
      known-still = subst (λ (m : ℕ). known m k.pass-run.new.self ≡ true) v.1 p.can;
      on = v.3 ∙ p.on (length k.args.piece.now - length k.loop-b.rest.now);
    }

-- at the piece's end
ended : (k : After-pass-run) → length (Left k) ≡ 0 → fed k.args.self k.args.piece.now k.args.buffer.now ≡ record { said = Ok (told None (length k.args.piece.now) k.pass-run.new.self); left = X k }
unfolding feeding
ended k e =
    let b = behind k in
    let q = b.place in
    let p : At k ≡ length k.args.piece.now = omega arith in
    whole (goal.at.After-pass-run k).After-limit_of-limit ∙ ap taken (b.on ∙ ap (feeding k.limit_of-limit.result k.pass-run.new.self (X k) (At k)) (nil_from_length (Left k) e))
    ∙ ap (λ (m : ℕ). taken (record { said = told None m k.pass-run.new.self; left = X k })) p

none_left : (c : In_default) → length (Left (goal.at.In_default c).After-pass-run) ≡ 0
none_left c = ap length (sym (rest_of c.loop-b.rest.now c.pass-run.result)) ∙ c.in_default.ensures.cases

pub returns-in_default-clause-value : goal.returns-in_default-clause-value
returns-in_default-clause-value c = ap (λ (f : Whole). f.said) (sym (ended (goal.at.returns-in_default-clause-value c).After-pass-run (none_left c)))

pub returns-in_default-clause-buffer_after : goal.returns-in_default-clause-buffer_after
returns-in_default-clause-buffer_after c = ap (λ (f : Whole). f.left) (sym (ended (goal.at.returns-in_default-clause-buffer_after c).After-pass-run (none_left c)))

pub bounds-buffer-self : goal.bounds-buffer-self
bounds-buffer-self c =
    let g = gathers_below _ _ _ (ap (λ (r : Step). r.gathers) (sym c.step-step.ensures) ∙ c.if-step.true) in
    let t = frame_limit_le (length c.args.buffer.now) in
    let e = c.limit_of-limit.ensures in
    let n = (behind (goal.at.bounds-buffer-self c).After-pass-run).size in
    let h : c.pass-run.new.self.held < length (X (goal.at.bounds-buffer-self c).After-pass-run) = omega arith in
    h

-- behind a byte: the buffer, what is left of the piece, and the bytes before it
record Stepped (c : Joined-step) : Type 0 where
  stores : c.if-step.buffer ≡ stored (X (goal.at.Joined-step c).After-pass-run) c.pass-run.new.self.held c.in-Some.b.now c.step-step.result.gathers
  size : length c.if-step.buffer ≡ length c.args.buffer.now
  within : length c.in-Some.behind.now < length c.loop-b.rest.now
  place : At (goal.at.Joined-step c).After-pass-run + 1 ≡ length c.args.piece.now - length c.in-Some.behind.now
  on : feeding c.limit_of-limit.result c.args.self c.args.buffer.now 0 c.args.piece.now ≡ feeding c.limit_of-limit.result c.pass-run.new.self (X (goal.at.Joined-step c).After-pass-run) (At (goal.at.Joined-step c).After-pass-run) (c.in-Some.b.now ∷ c.in-Some.behind.now)

stepped_on : (c : Joined-step) → Stepped c
stepped_on c =
    let k = (goal.at.Joined-step c).After-pass-run in
    let b = behind k in
    let q = b.place in
    let v = c.loop-b.invariant.0 in
    let r : Left k ≡ c.in-Some.b.now ∷ c.in-Some.behind.now = sym (rest_of c.loop-b.rest.now c.pass-run.result) ∙ c.in-Some.ensures.cases.0 in
    let n = ap length r in
    let d = length-drop c.pass-run.result c.loop-b.rest.now in
    let s : c.if-step.buffer ≡ stored (X k) c.pass-run.new.self.held c.in-Some.b.now c.step-step.result.gathers = elim c.if-step.branch [ then-step w ↦ w.buffer-is ∙ sym (stored_set _ _ _ w.if-step.true) | else-step w ↦ w.buffer-is ∙ sym (stored_not _ _ _ w.if-step.false) ] in
    record {
      stores = s;
      size = ap length s ∙ length_stored (X k) c.pass-run.new.self.held c.in-Some.b.now c.step-step.result.gathers ∙ b.size;
      within = omega arith;
      place = omega arith;
      on = b.on ∙ ap (feeding c.limit_of-limit.result c.pass-run.new.self (X k) (At k)) r;
    }

-- where the reader stops
stopped : (c : Joined-step) → is_some c.step-step.result.stop ≡ true
    → fed c.args.self c.args.piece.now c.args.buffer.now ≡ record { said = Ok (told c.step-step.result.stop (length c.args.piece.now - length c.in-Some.behind.now) c.step-step.result.after); left = c.if-step.buffer }
stopped c e =
    let s = stepped_on c in
    let k = (goal.at.Joined-step c).After-pass-run in
    whole (goal.at.Joined-step c).After-limit_of-limit
    ∙ ap taken (s.on ∙ feed_stop c.limit_of-limit.result c.pass-run.new.self (X k) (At k) c.in-Some.b.now c.in-Some.behind.now c.step-step.result c.if-step.buffer c.step-step.ensures s.stores e)
    ∙ ap (λ (n : ℕ). taken (record { said = told c.step-step.result.stop n c.step-step.result.after; left = c.if-step.buffer })) s.place

pub returns-then-is_some-clause-value : goal.returns-then-is_some-clause-value
returns-then-is_some-clause-value c = ap (λ (f : Whole). f.said) (sym (stopped (goal.at.returns-then-is_some-clause-value c).Joined-step (sym c.is_some.ensures ∙ c.if-is_some.true)))

pub returns-then-is_some-clause-buffer_after : goal.returns-then-is_some-clause-buffer_after
returns-then-is_some-clause-buffer_after c = ap (λ (f : Whole). f.left) (sym (stopped (goal.at.returns-then-is_some-clause-buffer_after c).Joined-step (sym c.is_some.ensures ∙ c.if-is_some.true)))

-- where it goes on
pub loop-b-preserved : goal.loop-b-preserved
loop-b-preserved c =
    let k = (goal.at.loop-b-preserved c).After-pass-run in
    let s = stepped_on (goal.at.loop-b-preserved c).Joined-step in
    let w = s.within in
    let v = c.loop-b.invariant.0 in
    let o = feed_on c.limit_of-limit.result c.pass-run.new.self (X k) (At k) c.in-Some.b.now c.in-Some.behind.now c.step-step.result c.if-step.buffer c.step-step.ensures s.stores (sym c.is_some.ensures ∙ c.if-is_some.false) in (
      omega arith,
      s.size,
      known_after _ _ c.pass-run.new.self c.in-Some.b.now c.step-step.result (behind k).known-still c.limit_of-limit.ensures c.step-step.ensures,
      s.on ∙ o ∙ ap (λ (n : ℕ). feeding c.limit_of-limit.result c.step-step.result.after c.if-step.buffer n c.in-Some.behind.now) s.place,
    )
