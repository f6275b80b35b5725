-- The numbers of the modes: what a caller in C keeps of a mode between two pieces.
use Rattle.std.specs.Prelude.{ℕ, cond, eqb}
use Rattle.frames.specs.declared.modes.Mode.{Mode}
use Rattle.frames.specs.declared.modes.Mode.TheVariants.{Outside, Inside, Ending, Skipping, SkippingEnd, Unknown}

abbrev pub number_of : Mode → ℕ
number_of Outside = 0
number_of Inside = 1
number_of Ending = 2
number_of Skipping = 3
number_of SkippingEnd = 4
number_of Unknown = 5

-- any other number is no mode
abbrev pub mode_of : ℕ → Mode
mode_of n =
    cond (eqb n 0) Outside
    (cond (eqb n 1) Inside
    (cond (eqb n 2) Ending
    (cond (eqb n 3) Skipping
    (cond (eqb n 4) SkippingEnd Unknown))))
