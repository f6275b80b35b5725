-- What escaping answers is never longer than the buffer that it was lent. Assumes nothing.
use mathlib.Core.Path.{◌≡◌, refl}
use mathlib.Core.List.{List}
use mathlib.Core.Bool.{Bool, true, false, cond}
use Prim.Native.Nat.{ℕ, ◌≤◌}
use native.Mathlib.Omega.{arith}
use lib.Dec.{leb, ltb}
use lib.ListN.{length, drop, length-append, length-drop}
use borrow.Author.Tests.{leb-true}
use Rattle.alphabet.specs.Answers.{length_given}
use Rattle.alphabet.specs.Delimiters.{first_wrong_delimiter}
use Rattle.alphabet.specs.Filling.{over}
use Rattle.alphabet.specs.declared.answers.Refusal.TheVariants.{Delimiter, NoRoom}
use Rattle.escaping.specs.Escape.{escape}
use Rattle.escaping.specs.Outcomes.{text, fault}
use Rattle.escaping.specs.Outcomes.{fitting, escaping, answer, filled}

over_length : (t d : List ℕ) → length t ≤ length d → length (over t d) ≡ length d
over_length t d h = let a = length-append t (drop (length t) d) in let n = length-drop (length t) d in omega arith

pub escape_within : (ds t d : List ℕ) → length_given (answer (escaping ds t (length d))) ≤ length (filled (escaping ds t (length d)) d)
unfolding escaping fitting answer filled
escape_within ds t d = at (ltb (first_wrong_delimiter ds) 5) (leb (length (escape ds t)) (length d)) refl
  where
    nothing : (n : ℕ) → 0 ≤ n
    nothing n = omega arith

    at : (b c : Bool) → leb (length (escape ds t)) (length d) ≡ c
        → length_given (answer (cond b (fault Delimiter (first_wrong_delimiter ds)) (cond c (text (escape ds t)) (fault NoRoom 0))))
        ≤ length (filled (cond b (fault Delimiter (first_wrong_delimiter ds)) (cond c (text (escape ds t)) (fault NoRoom 0))) d)
    at true c e = nothing (length d)
    at false false e = nothing (length d)
    at false true e =
        let h = leb-true (length (escape ds t)) (length d) e in
        let o = over_length (escape ds t) d h in
        omega arith
