-- Rests on the pieces of the parts being the segment, by the cases of `error_parts`.
use mathlib.Core.Path.{◌≡◌, sym, ap, ap₂, ◌∙◌}
use mathlib.Core.List.{List, [], ◌∷◌}
use Prim.Native.Nat.{ℕ}
use lib.ListN.{length, take}
use native.Mathlib.Omega.{arith}
use borrow.Author.Rules.{rules}
use Rattle.alphabet.specs.Filling.{over}
use Rattle.alphabet.specs.Answers.{number_of}
use Rattle.together.specs.Together.{together}
use Rattle.reading.specs.Message.{ended}
use Rattle.error_segment.specs.Numerals.{numeral}
use Rattle.error_segment.specs.Errors.{error_code, faulty, sequence_of, field_position, error_parts, error_lines}
use Rattle.error_segment.specs.Pieces.{said, marks_of, line_pieces}
use Rattle.error_segment.proofs.ErrorLaws.{take_most, no_error, pieces_ended, parts_nowhere, parts_there}
use Rattle.error_segment.proofs.lines.put_segment.Goals.{After-name_at-name, After-numeral_of-code}
use Rattle.error_segment.proofs.lines.put_segment.Goals as goal

pub returns-in_default-clause-value : goal.returns-in_default-clause-value
returns-in_default-clause-value c = ap length (sym (no_error c.args.message.now c.in_default.is))

pub returns-in_default-clause-line_after : goal.returns-in_default-clause-line_after
returns-in_default-clause-line_after c = ap (λ (w : List ℕ). over w c.args.line.now) (sym (no_error c.args.message.now c.in_default.is))

-- what is written of four parts that are the segment's
written : (c : After-numeral_of-code) (a b d : List ℕ)
    → let m = c.args.message.now in
    let r = c.in-Err.fault in
    error_parts m r ≡ a ∷ b ∷ d ∷ numeral (error_code (number_of r.kind) r.place r.field) ∷ []
    → together (line_pieces a b d (said c.numeral_of-code.result) (marks_of c.delimiters_of-delimiters.result.bytes)) ≡ ended (error_lines m c.args.found)
written c a b d q =
    let ds = c.delimiters_of-delimiters in
    ap (λ (x : List ℕ). together (line_pieces a b d x (marks_of ds.result.bytes))) (c.numeral_of-code.ensures.1 ∙ ap numeral c.error_code.ensures)
    ∙ pieces_ended c.args.message.now c.in-Err.fault c.in-Err.is ds.result.bytes a b d _ ds.ensures q

pub returns-then-points_nowhere-clause-value : goal.returns-then-points_nowhere-clause-value
returns-then-points_nowhere-clause-value c =
    let a = c.args in
    let x = c.no_numeral.ensures.1 in
    let y = c.no_numeral-then-points_nowhere.ensures.1 in
    let e =
    ap₂ (λ (p q : List ℕ). together (line_pieces [] p q (said c.numeral_of-code.result) (marks_of c.delimiters_of-delimiters.result.bytes))) x y
    ∙ written (goal.at.returns-then-points_nowhere-clause-value c).After-numeral_of-code [] [] [] (parts_nowhere a.message.now c.in-Err.fault (sym c.points_nowhere.ensures ∙ c.if-points_nowhere.true)) in c.put_parts.ensures.value ∙ ap length e

pub returns-then-points_nowhere-clause-line_after : goal.returns-then-points_nowhere-clause-line_after
returns-then-points_nowhere-clause-line_after c =
    let a = c.args in
    let x = c.no_numeral.ensures.1 in
    let y = c.no_numeral-then-points_nowhere.ensures.1 in
    let e =
    ap₂ (λ (p q : List ℕ). together (line_pieces [] p q (said c.numeral_of-code.result) (marks_of c.delimiters_of-delimiters.result.bytes))) x y
    ∙ written (goal.at.returns-then-points_nowhere-clause-line_after c).After-numeral_of-code [] [] [] (parts_nowhere a.message.now c.in-Err.fault (sym c.points_nowhere.ensures ∙ c.if-points_nowhere.true)) in c.put_parts.ensures.line_after ∙ ap (λ (w : List ℕ). over w a.line.now) e

-- the segment's name, its sequence and the position of the field
placed : (c : After-name_at-name)
    → let m = c.args.message.now in
    let r = c.in-Err.fault in
    (c.name_at-name.result.now ≡ take 3 (faulty m r.place))
    × (said c.numeral_of-sequence.result ≡ numeral (sequence_of m r.place))
    × (said c.field_position-field.result ≡ field_position (number_of r.kind) r.field)
placed c =
    let g = c.locate-located.ensures in
    (c.name_at-name.ensures (faulty c.args.message.now c.in-Err.fault.place) g.0, c.numeral_of-sequence.ensures.1 ∙ ap numeral g.1, c.field_position-field.ensures.1)

pub name_at-name-requires : goal.name_at-name-requires
name_at-name-requires c = (faulty c.args.message.now c.in-Err.fault.place, c.locate-located.ensures.0)

pub put_parts-requires-2-clause-name_len_bound : goal.put_parts-requires-2-clause-name_len_bound
put_parts-requires-2-clause-name_len_bound c =
    let a = c.args in
    let l : length a.line.now ≡ 80 = search rules in (omega (arith, ap length (placed (goal.at.put_parts-requires-2-clause-name_len_bound c).After-name_at-name).0, take_most 3 (faulty a.message.now c.in-Err.fault.place)), omega arith)

pub put_parts-requires-2-clause-start_bound : goal.put_parts-requires-2-clause-start_bound
put_parts-requires-2-clause-start_bound c =
    let a = c.args in
    let l : length a.line.now ≡ 80 = search rules in (c.numeral_of-sequence.ensures.0, c.field_position-field.ensures.0, c.numeral_of-code.ensures.0)

pub returns-clause-value : goal.returns-clause-value
returns-clause-value c =
    let a = c.args in
    let p = placed (goal.at.returns-clause-value c).After-name_at-name in
    let e : line_pieces c.name_at-name.result.now (said c.numeral_of-sequence.result) (said c.field_position-field.result) (said c.numeral_of-code.result) (marks_of c.delimiters_of-delimiters.result.bytes)
    ≡ line_pieces (take 3 (faulty a.message.now c.in-Err.fault.place)) (numeral (sequence_of a.message.now c.in-Err.fault.place)) (field_position (number_of c.in-Err.fault.kind) c.in-Err.fault.field) (said c.numeral_of-code.result) (marks_of c.delimiters_of-delimiters.result.bytes) =
    λ i. line_pieces (p.0 i) (p.1 i) (p.2 i) (said c.numeral_of-code.result) (marks_of c.delimiters_of-delimiters.result.bytes) in
    let w = ap together e ∙ written (goal.at.returns-clause-value c).After-numeral_of-code _ _ _ (parts_there a.message.now c.in-Err.fault (sym c.points_nowhere.ensures ∙ c.if-points_nowhere.false)) in c.put_parts-2.ensures.value ∙ ap length w

pub returns-clause-line_after : goal.returns-clause-line_after
returns-clause-line_after c =
    let a = c.args in
    let p = placed (goal.at.returns-clause-line_after c).After-name_at-name in
    let e : line_pieces c.name_at-name.result.now (said c.numeral_of-sequence.result) (said c.field_position-field.result) (said c.numeral_of-code.result) (marks_of c.delimiters_of-delimiters.result.bytes)
    ≡ line_pieces (take 3 (faulty a.message.now c.in-Err.fault.place)) (numeral (sequence_of a.message.now c.in-Err.fault.place)) (field_position (number_of c.in-Err.fault.kind) c.in-Err.fault.field) (said c.numeral_of-code.result) (marks_of c.delimiters_of-delimiters.result.bytes) =
    λ i. line_pieces (p.0 i) (p.1 i) (p.2 i) (said c.numeral_of-code.result) (marks_of c.delimiters_of-delimiters.result.bytes) in
    let w = ap together e ∙ written (goal.at.returns-clause-line_after c).After-numeral_of-code _ _ _ (parts_there a.message.now c.in-Err.fault (sym c.points_nowhere.ensures ∙ c.if-points_nowhere.false)) in c.put_parts-2.ensures.line_after ∙ ap (λ (x : List ℕ). over x a.line.now) w
