-- A mode comes back from its number, and a number that is one of the five from its mode. Assumes nothing.
use mathlib.Core.Path.{◌≡◌, refl}
use Rattle.frames.specs.declared.modes.Mode.{Mode}
use Rattle.frames.specs.declared.modes.Mode.TheVariants.{Outside, Inside, Ending, Skipping, SkippingEnd, Unknown}
use Rattle.frames.specs.Modes.{number_of, mode_of}

pub mode_comes_back : (m : Mode) → mode_of (number_of m) ≡ m
mode_comes_back Outside = refl
mode_comes_back Inside = refl
mode_comes_back Ending = refl
mode_comes_back Skipping = refl
mode_comes_back SkippingEnd = refl
mode_comes_back Unknown = refl
