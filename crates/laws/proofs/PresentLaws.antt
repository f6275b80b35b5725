-- That `is_present` holds of the one state that it names. Assumes nothing.
use mathlib.Core.Path.{◌≡◌, refl}
use mathlib.Core.Bool.{true, false}
use Rattle.alphabet.proofs.BoolLaws.{false_true}
use Rattle.element.specs.States.{is_present}
use Rattle.element.specs.declared.states.State.{State}
use Rattle.element.specs.declared.states.State.TheVariants.{Absent, Empty, Null, Present}

pub is_present_lem : (s : State) → is_present s ≡ true → s ≡ Present
is_present_lem Absent e = absurd (false_true e)
is_present_lem Empty e = absurd (false_true e)
is_present_lem Null e = absurd (false_true e)
is_present_lem Present e = refl

pub not_present : (s : State) → (s ≡ Present → ⊥) → is_present s ≡ false
not_present Absent n = refl
not_present Empty n = refl
not_present Null n = refl
not_present Present n = absurd (n refl)
