-- NM and SI, by document 01, 'Numbers and times'.
use Rattle.std.specs.Prelude.{ℕ, ◌+◌, Result, Ok, Err, List, [], ◌∷◌, ◌++◌, Bool, cond, not, ◌&&◌, ◌||◌, leb, ltb, eqb, ℤ, pos, neg_ℤ, length, get_or, take, drop}
use Rattle.alphabet.specs.Answers.{Check, fails_if, in_order}
use Rattle.alphabet.specs.Bytes.{byte_of}
use Rattle.alphabet.specs.Digits.{all_digits, decimal}
use Rattle.alphabet.specs.Lists.{find}
use Rattle.alphabet.specs.declared.answers.Refusal.{Refusal}
use Rattle.alphabet.specs.declared.answers.Refusal.TheVariants.{BreaksForm, ValueTooLong}
use Rattle.numbers.specs.declared.numerals.Number.{Number}

-- one or more digits
abbrev pub some_digits : List ℕ → Bool
some_digits l = leb 1 (length l) && all_digits l

-- "optional sign"
abbrev pub is_sign : ℕ → Bool
is_sign b = eqb b (byte_of "+") || eqb b (byte_of "-")

abbrev pub is_negative : List ℕ → Bool
is_negative l = eqb (get_or l 0 0) (byte_of "-")

unfoldable pub unsigned : List ℕ → List ℕ
unsigned l = cond (is_sign (get_or l 0 0)) (drop 1 l) l

-- "digits, optionally a point and digits": what stands before the point, whether there is one, and what is behind it
abbrev pub before_point : List ℕ → List ℕ
before_point l = take (find (byte_of ".") l) l

abbrev pub has_point : List ℕ → Bool
has_point l = ltb (find (byte_of ".") l) (length l)

abbrev pub fraction : List ℕ → List ℕ
fraction l = drop (find (byte_of ".") l + 1) l

-- "a digit on each side of a point"
unfoldable pub nm_form : List ℕ → Bool
nm_form l = some_digits (before_point (unsigned l)) && (not (has_point (unsigned l)) || some_digits (fraction (unsigned l)))

-- all its digits
abbrev pub nm_digits : List ℕ → List ℕ
nm_digits l = before_point (unsigned l) ++ fraction (unsigned l)

-- "1 to 18 digits in all"
abbrev pub most_digits : ℕ
most_digits = 18

-- 32: "breaks its type's form"; 37: "well formed, but over 18 digits"
unfoldable pub nm_check : List ℕ → Check
nm_check l =
    in_order
    (fails_if (not (nm_form l)) BreaksForm 0
    ∷ fails_if (ltb most_digits (length (nm_digits l))) ValueTooLong 0
    ∷ [])

-- "The result is a signed whole number and a count of decimals. -0 is 0."
abbrev pub signed : Bool → ℕ → ℤ
signed negative n = cond negative (neg_ℤ (pos n)) (pos n)

unfoldable pub nm_value : List ℕ → ℤ
nm_value l = signed (is_negative l) (decimal (nm_digits l))

-- the number where the check passes, and else its refusal
abbrev pub number_if : Check → ℤ → ℕ → Result Number Refusal
number_if (Ok _) value decimals = Ok (record { value = value; decimals = decimals })
number_if (Err fault) value decimals = Err fault.kind

unfoldable pub nm_read : List ℕ → Result Number Refusal
nm_read l = number_if (nm_check l) (nm_value l) (length (fraction (unsigned l)))

-- "SI: one to four digits."
unfoldable pub is_si : List ℕ → Bool
is_si l = some_digits l && leb (length l) 4

-- the number that they say, and 0 where the bytes are none
unfoldable pub si_value : List ℕ → ℕ
si_value l = cond (is_si l) (decimal l) 0

unfoldable pub si_read : List ℕ → Result Number Refusal
si_read l = number_if (fails_if (not (is_si l)) BreaksForm 0) (pos (decimal l)) 0
