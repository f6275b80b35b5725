-- The four states, case by case: an element is in exactly one of them. Assumes nothing.
use mathlib.Core.Path.{◌≡◌}
use mathlib.Core.List.{List}
use mathlib.Core.Bool.{true, false}
use Prim.Native.Nat.{ℕ}
use Rattle.alphabet.specs.Bytes.{is_null}
use Rattle.element.specs.States.{is_empty, state_of}
use Rattle.element.specs.declared.states.State.TheVariants.{Empty, Null, Present}

module _ (ds bytes : List ℕ) where
  pub state_null : is_null bytes ≡ true → state_of ds bytes ≡ Null
  unfolding state_of
  state_null e = rw e

  pub state_empty : is_null bytes ≡ false → is_empty ds bytes ≡ true → state_of ds bytes ≡ Empty
  unfolding state_of
  state_empty e f = rw (e, f)

  pub state_present : is_null bytes ≡ false → is_empty ds bytes ≡ false → state_of ds bytes ≡ Present
  unfolding state_of
  state_present e f = rw (e, f)
