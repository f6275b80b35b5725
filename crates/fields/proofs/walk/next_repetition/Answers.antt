-- Rests on the law of one repetition on.
use borrow.Author.Rules.{rules}
use mathlib.Core.Path.{◌≡◌, refl, sym, ap, ◌∙◌}
use Prim.Native.Nat.{◌≤◌, ◌+◌}
use native.Mathlib.Omega.{arith}
use Rattle.std.proofs.lemmas.Result.{err_from_is_err_and}
use Rattle.alphabet.specs.Answers.{Check, or_else}
use Rattle.alphabet.proofs.CheckLaws.{fails_or, passes_or}
use Rattle.fields.specs.Walk.{left_of}
use Rattle.fields.specs.declared.walk.Turn.{Turn}
use Rattle.fields.proofs.CursorLaws.{step_in, step_asks}
use Rattle.fields.proofs.walk.next_repetition.Goals.{After-find_by_words, After-check_repetition}
use Rattle.fields.proofs.walk.next_repetition.Goals as goal

within : (c : After-find_by_words) → c.args.turn.start + c.find_by_words.result ≤ c.args.turn.end
within c =
    let a = c.args in
    step_in a.delimiters.bytes a.segment.now a.turn c.requires c.find_by_words.result c.find_by_words.ensures

-- the turn one repetition on
abbrev on : (c : After-find_by_words) → Turn
on c = let t = c.args.turn in record { cursor = t.cursor; start = t.start + c.find_by_words.result + 1; end = t.end; repetition = t.repetition + 1; component = t.component; kind = t.kind }

-- what was left: this repetition, and those behind it
asked : (c : After-check_repetition)
    → let a = c.args in
    left_of a.delimiters.bytes a.segment.now a.turn ≡ or_else c.check_repetition.result (left_of a.delimiters.bytes a.segment.now (on (goal.at.After-check_repetition c).After-find_by_words))
asked c =
    let a = c.args in
    step_asks a.delimiters.bytes a.segment.now a.turn c.requires c.find_by_words.result c.find_by_words.ensures (on (goal.at.After-check_repetition c).After-find_by_words) refl refl refl refl refl
    ∙ ap (λ (x : Check). or_else x (left_of a.delimiters.bytes a.segment.now (on (goal.at.After-check_repetition c).After-find_by_words))) (sym c.check_repetition.ensures)

pub returns-in_err-check_repetition : goal.returns-in_err-check_repetition
returns-in_err-check_repetition c =
    let p = err_from_is_err_and c.from_residual.result c.from_residual.ensures.1 in
    rw (p.1, p.2) (asked (goal.at.returns-in_err-check_repetition c).After-check_repetition ∙ fails_or c.in_err-check_repetition.was _)

pub returns : goal.returns
returns c =
    let g = c.requires in
    let i = within (goal.at.returns c).After-find_by_words in
    let k = g.counted in
    record {
      same_end = refl;
      forward = omega arith;
      most = omega arith;
      counted = omega arith;
      asks = asked (goal.at.returns c).After-check_repetition ∙ passes_or c.in_ok-check_repetition.was _;
    }

pub overflow_add-next : goal.overflow_add-next
overflow_add-next c = let i = within c in let g = c.requires in let e = g.inside in let r = g.room in omega arith

pub slice_bounds-check_repetition-end : goal.slice_bounds-check_repetition-end
slice_bounds-check_repetition-end c = let i = within c in let g = c.requires in let e = g.inside in search rules

pub overflow_add-result : goal.overflow_add-result
overflow_add-result c = let i = within (goal.at.overflow_add-result c).After-find_by_words in let g = c.requires in let e = g.inside in let r = g.room in omega arith

pub overflow_add-result-2 : goal.overflow_add-result-2
overflow_add-result-2 c = let i = within (goal.at.overflow_add-result-2 c).After-find_by_words in let g = c.requires in let e = g.inside in let r = g.room in let k = g.counted in omega arith
