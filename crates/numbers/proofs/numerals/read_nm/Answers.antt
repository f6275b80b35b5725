-- Rests on the laws of what is read, case by case.
use mathlib.Core.Path.{sym, ap, subst, ◌∙◌}
use mathlib.Core.List.{List}
use Prim.Native.Nat.{ℕ}
use lib.IntN.{ℤ}
use lib.ListN.{length}
use mir.Syntax.{w64}
use mir.Val.{SFits}
use mir.Facts.{to_z-of_z}
use Rattle.std.specs.Prelude.{Ok}
use Rattle.numbers.specs.Numbers.{fraction, nm_value}
use Rattle.numbers.proofs.NumberLaws.{nm_fits, nm_read_lem, nm_refused}
use Rattle.numbers.proofs.numerals.read_nm.Goals as goal

pub returns-in-Ok : goal.returns-in-Ok
returns-in-Ok c =
    let l = c.args.bytes.now in
    let t = sym c.check_nm.ensures ∙ c.in-Ok.is in
    let e = c.nm_value-value.ensures in
    let f = c.fraction_of-decimals.ensures ∙ ap fraction c.without_sign.ensures in
    ap (λ (z : ℤ). Ok (record { value = z; decimals = length c.fraction_of-decimals.result.now })) (to_z-of_z (subst (SFits w64) (sym e) (nm_fits l t)) ∙ e)
    ∙ ap (λ (x : List ℕ). Ok (record { value = nm_value l; decimals = length x })) f
    ∙ sym (nm_read_lem l t)

pub returns-in-Err : goal.returns-in-Err
returns-in-Err c = sym (nm_refused c.args.bytes.now _ (sym c.check_nm.ensures ∙ c.in-Err.is))

pub nm_value-value-requires : goal.nm_value-value-requires
nm_value-value-requires c = sym c.check_nm.ensures ∙ c.in-Ok.is
