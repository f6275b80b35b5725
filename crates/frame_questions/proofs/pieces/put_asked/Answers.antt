-- `frame_questions::pieces::put_asked` meets its contract: the first piece begins within the line.
use mathlib.Core.Path.{sym, ◌∙◌}
use native.Mathlib.Omega.{arith}
use borrow.Author.Rules.{rules}
use Rattle.alphabet.proofs.PartLaws.{part_bytes_lem}
use Rattle.frame_questions.proofs.pieces.put_asked.Goals as goal

pub slice_bounds-put_pieces-count : goal.slice_bounds-put_pieces-count
slice_bounds-put_pieces-count c =
    let b = part_bytes_lem 32 c.args.line.now 2 _ _ (sym c.nth_part.ensures ∙ c.in_ok-first.was) in
    let h = b.1 in
    let k = b.2 in
    omega arith

pub slice_bounds-put_pieces-start : goal.slice_bounds-put_pieces-start
slice_bounds-put_pieces-start c = let h = slice_bounds-put_pieces-count c in search rules
