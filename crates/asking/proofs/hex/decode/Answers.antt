-- `asking::hex::decode` meets its contract: what the digits say stands at the front, where there is room for it.
use mathlib.Core.Path.{◌≡◌, sym, ap, ◌∙◌}
use mathlib.Core.List.{◌++◌}
use Prim.Native.Nat.{ℕ, ◌/◌}
use lib.ListN.{length, take, drop}
use lib.Seq.{take-append_seam}
use native.Mathlib.Omega.{arith}
use Rattle.std.specs.Prelude.{Some}
use Rattle.alphabet.specs.Hex.{pairs_of}
use Rattle.asking.specs.Hex.{fitting}
use Rattle.alphabet.proofs.HexLaws.{pairs_length}
use Rattle.asking.proofs.Pairs.{fits, too_long}
use Rattle.asking.proofs.hex.decode.Goals as goal

pub returns-in_err-digits-clause-none : goal.returns-in_err-digits-clause-none
unfolding fitting
returns-in_err-digits-clause-none c = rw (c.from_residual.ensures, c.in_err-digits.ensures.said)

pub returns-then-buffer-count-clause-none : goal.returns-then-buffer-count-clause-none
returns-then-buffer-count-clause-none c =
    rw (c.in_ok-digits.ensures.said) (too_long _ _ (omega (arith, pairs_length c.in_ok-digits.digits.now, c.if-buffer-count.true)))

pub returns-clause-some : goal.returns-clause-some
returns-clause-some c =
    let d = c.in_ok-digits.digits.now in
    let n = pairs_length d in
    let rest = drop (length d / 2) c.args.buffer.now in
    let front : take (length d / 2) (pairs_of d ++ rest) ≡ pairs_of d = ap (λ (k : ℕ). take k (pairs_of d ++ rest)) (sym n) ∙ take-append_seam (pairs_of d) rest in
    rw (c.in_ok-digits.ensures.said, c.put_pairs.ensures) (fits _ _ (omega (arith, n, c.if-buffer-count.false)) ∙ ap Some (sym front))
