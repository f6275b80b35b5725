-- The tests of a byte are the document's tables, byte by byte: a computed test over all 256. Assumes nothing.
use mathlib.Core.Path.{◌≡◌, refl}
use mathlib.Core.List.{◌++◌}
use mathlib.Core.Bool.{Bool, true, false}
use Prim.Native.Nat.{ℕ, ◌<◌}
use lib.Dec.{eqb}
use lib.ListN.{get_or}
use borrow.Author.Tests.{eqb-true}
use Rattle.alphabet.proofs.BoolLaws.{false_true}
use Rattle.alphabet.specs.Bytes.{allowed, capital, digit, hex_of, hex_digit}
use Rattle.alphabet.specs.Delimiters.{permitted}
use Rattle.alphabet.specs.Lists.{first}
use Rattle.reading.specs.Segments.{capital_or_digit}
use Rattle.grammars.specs.Tables.{member_of, marked, allowed_bytes, permitted_delimiters, capitals, digits, hex_digits, hex_number}
use Rattle.laws.proofs.EscapeTable.{every, every_at}

-- two tests that say the same
agree : Bool → Bool → Bool
agree true t = t
agree false true = false
agree false false = true

agreed : (s t : Bool) → agree s t ≡ true → s ≡ t
unfolding agree
agreed true true e = refl
agreed true false e = absurd (false_true e)
agreed false true e = absurd (false_true e)
agreed false false e = refl

pub allowed_table : (b : ℕ) → b < 256 → allowed b ≡ marked allowed_bytes b
unfolding every agree
allowed_table b h = agreed (allowed b) (marked allowed_bytes b) (every_at 256 (λ (x : ℕ). agree (allowed x) (marked allowed_bytes x)) refl b h)

pub permitted_table : (b : ℕ) → b < 256 → permitted b ≡ member_of b permitted_delimiters
unfolding every agree member_of
permitted_table b h = agreed (permitted b) (member_of b permitted_delimiters) (every_at 256 (λ (x : ℕ). agree (permitted x) (member_of x permitted_delimiters)) refl b h)

pub capital_table : (b : ℕ) → b < 256 → capital b ≡ member_of b capitals
unfolding every agree member_of
capital_table b h = agreed (capital b) (member_of b capitals) (every_at 256 (λ (x : ℕ). agree (capital x) (member_of x capitals)) refl b h)

pub digit_table : (b : ℕ) → b < 256 → digit b ≡ member_of b digits
unfolding every agree member_of
digit_table b h = agreed (digit b) (member_of b digits) (every_at 256 (λ (x : ℕ). agree (digit x) (member_of x digits)) refl b h)

pub name_table : (b : ℕ) → b < 256 → capital_or_digit b ≡ member_of b (capitals ++ digits)
unfolding every agree member_of
name_table b h = agreed (capital_or_digit b) (member_of b (capitals ++ digits)) (every_at 256 (λ (x : ℕ). agree (capital_or_digit x) (member_of x (capitals ++ digits))) refl b h)

pub hex_table : (b : ℕ) → b < 256 → hex_of b ≡ hex_number b
unfolding every first
hex_table b h = eqb-true (hex_of b) (hex_number b) (every_at 256 (λ (x : ℕ). eqb (hex_of x) (hex_number x)) refl b h)

pub hex_written : (n : ℕ) → n < 16 → hex_digit n ≡ get_or hex_digits n 0
unfolding every
hex_written n h = eqb-true (hex_digit n) (get_or hex_digits n 0) (every_at 16 (λ (x : ℕ). eqb (hex_digit x) (get_or hex_digits x 0)) refl n h)
