-- What a byte that stands plainly is, and how far such bytes go from a place on. Assumes nothing.
use mathlib.Core.Path.{◌≡◌, ap}
use mathlib.Core.List.{List}
use mathlib.Core.Bool.{Bool, true, false, not}
use Prim.Native.Nat.{ℕ, ◌+◌, ◌-◌, ◌≤◌}
use native.Mathlib.Omega.{arith}
use lib.ListN.{length, take, drop, length-drop}
use borrow.Author.Tests.{ltb-false, not-false}
use Rattle.alphabet.proofs.BoolLaws.{or_neither}
use Rattle.alphabet.proofs.ListLaws.{first_le, rest_of}
use Rattle.alphabet.specs.Lists.{first, find, among}
use Rattle.alphabet.specs.Bytes.{printable}
use Rattle.plain.specs.Plain.{special}

pub plain_is : (ds : List ℕ) (b : ℕ) → special ds b ≡ false → (printable b ≡ true) × (5 ≤ find b ds)
unfolding special
plain_is ds b e =
    let p = or_neither (not (printable b)) (among ds b) e in
    (not-false (printable b) p.0, ltb-false (find b ds) 5 p.1)

-- a run that was found from i on, in the part of a text that the code lends
pub run_from : (test : ℕ → Bool) (s : List ℕ) (i n : ℕ) → i ≤ length s → n ≡ first test (take (length s - i) (drop i s)) → (n ≤ first test (drop i s)) × (i + n ≤ length s)
run_from test s i n h e =
    let q = ap (first test) (rest_of s i) in
    let m = first_le test (drop i s) in
    let d = length-drop i s in
    (omega arith, omega arith)
