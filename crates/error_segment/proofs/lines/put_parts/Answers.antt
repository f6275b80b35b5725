-- Rests on the digits that each numeral gives.
use mathlib.Core.Path.{◌≡◌, ap, ◌∙◌}
use mathlib.Core.List.{List}
use Prim.Native.Nat.{ℕ}
use lib.ListN.{length}
use Rattle.alphabet.specs.Filling.{over}
use Rattle.together.specs.Together.{together}
use Rattle.error_segment.specs.Pieces.{said, marks_of, line_pieces}
use Rattle.error_segment.proofs.lines.put_parts.Goals.{After-put_line}
use Rattle.error_segment.proofs.lines.put_parts.Goals as goal

pub put_line-requires-clause-name_len_bound : goal.put_line-requires-clause-name_len_bound
put_line-requires-clause-name_len_bound c = (c.requires.name_len_bound.0, ap length c.marks_of-marks.ensures, c.requires.name_len_bound.1)

pub put_line-requires-clause-sequence_len_bound : goal.put_line-requires-clause-sequence_len_bound
put_line-requires-clause-sequence_len_bound c = (c.as_slice.ensures.1, c.as_slice-2.ensures.1, c.as_slice-3.ensures.1)

-- the pieces that are put
pieces : (c : After-put_line)
    → let a = c.args in
    line_pieces a.name.now c.as_slice.result.now c.as_slice-2.result.now c.as_slice-3.result.now c.marks_of-marks.result
    ≡ line_pieces a.name.now (said a.sequence) (said a.field) (said a.code) (marks_of a.delimiters.bytes)
pieces c = λ i. line_pieces c.args.name.now (c.as_slice.ensures.0 i) (c.as_slice-2.ensures.0 i) (c.as_slice-3.ensures.0 i) (c.marks_of-marks.ensures i)

pub returns-clause-value : goal.returns-clause-value
returns-clause-value c = c.put_line.ensures.value ∙ ap (λ (l : List (List ℕ)). length (together l)) (pieces (goal.at.returns-clause-value c).After-put_line)

pub returns-clause-line_after : goal.returns-clause-line_after
returns-clause-line_after c = c.put_line.ensures.line_after ∙ ap (λ (l : List (List ℕ)). over (together l) c.args.line.now) (pieces (goal.at.returns-clause-line_after c).After-put_line)
