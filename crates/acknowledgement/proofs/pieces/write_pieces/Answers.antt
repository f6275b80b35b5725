-- Rests on the laws of room: what fits is written, and what does not is refused.
use mathlib.Core.Path.{◌≡◌, sym, ap, ap₂, ◌∙◌}
use mathlib.Core.List.{List}
use Prim.Native.Nat.{ℕ}
use lib.ListN.{length}
use Rattle.std.specs.Prelude.{Ok}
use Rattle.alphabet.specs.Limits.{message_limit}
use Rattle.escaping.specs.Outcomes.{room_for}
use Rattle.escaping.proofs.OutcomeLaws.{refused, told, takes_is, short_is}
use Rattle.together.specs.Together.{together, least, fitted}
use Rattle.together.proofs.PieceLaws.{fitted_takes, fitted_short}
use Rattle.acknowledgement.specs.Pieces.{pieces}
use Rattle.acknowledgement.proofs.PieceLaws.{roomy_takes, roomy_short}
use Rattle.acknowledgement.proofs.pieces.write_pieces.Goals.{After-put}
use Rattle.acknowledgement.proofs.pieces.write_pieces.Goals as goal

-- what was put: all pieces, where the buffer and the limit have room
put : (c : After-put)
    → let a = c.args in
    let room = least (length a.buffer.now) message_limit in
    let w = together (pieces a.header.bytes.now a.time.now a.id.now a.fixed.now a.behind.now) in
    (c.put.result ≡ room_for room (length w)) × (c.put.new.buffer ≡ fitted room w a.buffer.now)
put c =
    let d = c.args.buffer.now in
    let m = c.message_limit.ensures in (
      c.put.ensures.value ∙ ap₂ (λ (n : ℕ) (l : List (List ℕ)). room_for (least (length d) n) (length (together l))) m c.pieces_of-pieces.ensures,
      c.put.ensures.buffer_after ∙ ap₂ (λ (n : ℕ) (l : List (List ℕ)). fitted (least (length d) n) (together l) d) m c.pieces_of-pieces.ensures,
    )

pub returns-in_default-clause-value : goal.returns-in_default-clause-value
returns-in_default-clause-value c =
    let d = c.args.buffer.now in
    let s = short_is (least (length d) message_limit) _ (sym c.in_default.is ∙ (put (goal.at.returns-in_default-clause-value c).After-put).0) in sym (refused d (roomy_short (length d) _ s)).0

pub returns-in_default-clause-buffer_after : goal.returns-in_default-clause-buffer_after
returns-in_default-clause-buffer_after c =
    let d = c.args.buffer.now in
    let p = put (goal.at.returns-in_default-clause-buffer_after c).After-put in
    let s = short_is (least (length d) message_limit) _ (sym c.in_default.is ∙ p.0) in p.1 ∙ fitted_short _ _ d s ∙ sym (refused d (roomy_short (length d) _ s)).1

pub returns-clause-value : goal.returns-clause-value
returns-clause-value c =
    let d = c.args.buffer.now in
    let t = takes_is (least (length d) message_limit) _ _ (sym c.in-Some.is ∙ (put (goal.at.returns-clause-value c).After-put).0) in ap (λ (n : ℕ). Ok n) t.0 ∙ sym (told d (roomy_takes (length d) _ t.1)).0

pub returns-clause-buffer_after : goal.returns-clause-buffer_after
returns-clause-buffer_after c =
    let d = c.args.buffer.now in
    let p = put (goal.at.returns-clause-buffer_after c).After-put in
    let t = takes_is (least (length d) message_limit) _ _ (sym c.in-Some.is ∙ p.0) in p.1 ∙ fitted_takes _ _ d t.1 ∙ sym (told d (roomy_takes (length d) _ t.1)).1
