-- Rests on where the first CR stands: through it, or all bytes where there is none.
use Prim.Native.Nat.{ℕ, ◌+◌}
use mathlib.Core.Path.{sym, ap}
use lib.Dec.{eqb}
use lib.ListN.{take}
use lib.Seq.{length-take-le}
use native.Mathlib.Omega.{arith}
use Rattle.alphabet.specs.Bytes.{carriage_return}
use Rattle.alphabet.proofs.ListLaws.{first_le}
use Rattle.acknowledgement.proofs.HeaderLaws.{header_whole}
use Rattle.acknowledging.proofs.reasons.header_of.Goals as goal

pub returns-then-end-message : goal.returns-then-end-message
returns-then-end-message c = ap (λ (n : ℕ). take (n + 1) c.args.message.now) c.find-end.ensures

pub returns : goal.returns
returns c =
    let m = c.args.message.now in
    header_whole m (omega (arith, c.find-end.ensures, first_le (eqb carriage_return) m, c.if-end-message.false))

pub slice_bounds-result-end : goal.slice_bounds-result-end
slice_bounds-result-end c = sym (length-take-le _ _ (omega arith))
