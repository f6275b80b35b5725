-- For private functions alone: how near a byte comes to a mask, and what is told of bytes where none passes a test.
use Rattle.std.specs.Prelude.{ℕ, ◌≤◌, ◌≡◌, List, Bool, true, leb, length}
use Rattle.std.specs.Int.Bits.{bit_xor}
use Rattle.alphabet.specs.Lists.{first}

-- whether a byte differs from the mask by no more than the bound, bit by bit
abbrev pub near : ℕ → ℕ → ℕ → Bool
near mask bound b = leb (bit_xor b mask) bound

-- where r says so, none of the bytes passes; what stands before place i is known to
abbrev pub Without : Bool → ℕ → (ℕ → Bool) → List ℕ → Type 0
Without r i test l = r ≡ true → i ≤ first test l → length l ≤ first test l
