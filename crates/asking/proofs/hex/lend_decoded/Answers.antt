-- `asking::hex::lend_decoded` meets its contract: what the digits say, where there is room for it.
use native.Mathlib.Omega.{arith}
use Rattle.asking.specs.Hex.{fitting}
use Rattle.alphabet.proofs.HexLaws.{pairs_length}
use Rattle.asking.proofs.Pairs.{fits, too_long}
use Rattle.asking.proofs.hex.lend_decoded.Goals as goal

pub returns-in_err-digits-clause-none : goal.returns-in_err-digits-clause-none
unfolding fitting
returns-in_err-digits-clause-none c = rw (c.from_residual.ensures, c.in_err-digits.ensures.said)

pub returns-in_err-bytes-clause-none : goal.returns-in_err-bytes-clause-none
returns-in_err-bytes-clause-none c =
    let h = c.in_err-bytes.ensures.cases in
    rw (c.from_residual-in_err-bytes.ensures, c.in_ok-digits.ensures.said) (too_long _ _ (omega (arith, pairs_length c.in_ok-digits.digits.now)))

pub returns-clause-some : goal.returns-clause-some
returns-clause-some c =
    let h = c.in_ok-bytes.ensures.cases in
    let d = c.in_ok-digits.digits.now in
    rw (c.in_ok-digits.ensures.said, c.put_pairs.ensures) (fits _ _ (omega (arith, pairs_length d)))
