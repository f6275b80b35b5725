-- Rests on the law of an ID that is plain, and on the law that an ID written as text has room.
use mathlib.Core.Path.{◌≡◌, sym, ap, ◌∙◌}
use mathlib.Core.List.{List, ◌++◌}
use Prim.Native.Nat.{ℕ, ◌+◌}
use lib.ListN.{length, drop}
use native.Mathlib.Omega.{arith}
use Rattle.std.specs.Result.{result_unwrap_or}
use Rattle.alphabet.specs.Answers.{Refusable}
use Rattle.alphabet.specs.Filling.{over}
use Rattle.alphabet.proofs.FillingLaws.{put_fits}
use Rattle.alphabet.proofs.LimitLaws.{id_limit_small}
use Rattle.escaping.specs.Outcomes.{Outcome, answer, filled}
use Rattle.acknowledgement.proofs.PieceLaws.{id_fits}
use Rattle.acknowledgement.proofs.pieces.put_id.Goals as goal

pub returns-then-is_plain-clause-value : goal.returns-then-is_plain-clause-value
returns-then-is_plain-clause-value c =
    let id = c.args.id.now in
    let d = c.args.buffer.now in
    let plain = c.is_plain.ensures c.if-is_plain.true in
    let fits = put_fits d id 0 (omega (arith, c.requires.1, c.requires.2, id_limit_small)) in
    let n : 0 + length id ≡ length id = omega arith in c.put.ensures.value ∙ fits.0 ∙ n ∙ sym (ap length plain)

pub returns-then-is_plain-clause-buffer_after : goal.returns-then-is_plain-clause-buffer_after
returns-then-is_plain-clause-buffer_after c =
    let id = c.args.id.now in
    let d = c.args.buffer.now in
    let plain = c.is_plain.ensures c.if-is_plain.true in
    let fits = put_fits d id 0 (omega (arith, c.requires.1, c.requires.2, id_limit_small)) in
    let n : 0 + length id ≡ length id = omega arith in c.put.ensures.buffer_after ∙ fits.1 ∙ ap (λ (k : ℕ). id ++ drop k d) n ∙ sym (ap (λ (x : List ℕ). over x d) plain)

pub returns-clause-value : goal.returns-clause-value
unfolding answer
returns-clause-value c =
    let f = id_fits c.args.delimiters.bytes c.args.id.now _ c.requires.0 c.requires.1 c.requires.2 in
    c.unwrap_or.ensures ∙ ap (λ (r : Refusable ℕ). result_unwrap_or r 0) (c.escape.ensures.value ∙ ap answer f)

pub returns-clause-buffer_after : goal.returns-clause-buffer_after
unfolding filled
returns-clause-buffer_after c =
    let d = c.args.buffer.now in
    let f = id_fits c.args.delimiters.bytes c.args.id.now (length d) c.requires.0 c.requires.1 c.requires.2 in c.escape.ensures.buffer_after ∙ ap (λ (x : Outcome ℕ). filled x d) f
