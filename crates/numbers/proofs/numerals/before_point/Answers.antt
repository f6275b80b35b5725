-- Rests on what `find_mark` gives.
use mathlib.Core.Path.{sym}
use lib.Seq.{length-take-le}
use native.Mathlib.Omega.{arith}
use Rattle.numbers.proofs.NumberLaws.{point_within}
use Rattle.numbers.proofs.numerals.before_point.Goals as goal

pub slice_bounds-result-end : goal.slice_bounds-result-end
slice_bounds-result-end c =
    let u = point_within c.args.bytes.now in sym (length-take-le _ _ (omega (arith, c.find_mark-point.ensures)))
