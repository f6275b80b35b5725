-- Rests on the law of the line's room: it always fits.
use mathlib.Core.Path.{◌≡◌, sym, ap, ◌∙◌}
use Prim.Native.Nat.{◌≤◌}
use Rattle.std.specs.Prelude.{Some}
use Rattle.std.specs.Option.{is_some}
use Rattle.std.proofs.lemmas.Option.{same_Some}
use native.Mathlib.Omega.{arith}
use lib.ListN.{length}
use lib.Seq.{length-take-le}
use Rattle.escaping.proofs.OutcomeLaws.{room_takes}
use Rattle.together.specs.Together.{together, least}
use Rattle.together.proofs.PieceLaws.{least_above, fitted_takes}
use Rattle.error_segment.specs.Pieces.{line_pieces}
use Rattle.error_segment.proofs.ErrorLaws.{line_room}
use Rattle.error_segment.proofs.lines.put_line.Goals.{After-put}
use Rattle.error_segment.proofs.lines.put_line.Goals as goal

-- the line fits into its buffer, and into 80 bytes
room : (c : After-put)
    → let a = c.args in
    length (together (line_pieces a.name.now a.sequence.now a.field.now a.code.now a.marks.now)) ≤ least (length a.line.now) 80
room c =
    let a = c.args in
    let p = c.requires.name_len_bound in
    let q = c.requires.sequence_len_bound in
    let most = p.2 in
    let fits = line_room a.name.now a.sequence.now a.field.now a.code.now a.marks.now p.0 p.1 q.0 q.1 q.2 in
    least_above (length a.line.now) 80 _ (omega arith) (omega arith)

-- so it is written
written : (c : After-put)
    → let a = c.args in
    c.put.result ≡ Some (length (together (line_pieces a.name.now a.sequence.now a.field.now a.code.now a.marks.now)))
written c = c.put.ensures.value ∙ sym (room_takes _ _ (room c))

pub unwrap-requires : goal.unwrap-requires
unwrap-requires c = ap is_some (written (goal.at.unwrap-requires c).After-put)

pub returns-clause-value : goal.returns-clause-value
returns-clause-value c = same_Some _ _ (sym c.unwrap.ensures ∙ written (goal.at.returns-clause-value c).After-put)

pub returns-clause-line_after : goal.returns-clause-line_after
returns-clause-line_after c = c.put.ensures.buffer_after ∙ fitted_takes _ _ _ (room (goal.at.returns-clause-line_after c).After-put)

pub slice_bounds-front-end : goal.slice_bounds-front-end
slice_bounds-front-end c = let m = c.requires.name_len_bound.1 in sym (length-take-le 4 c.args.marks.now (omega arith))
