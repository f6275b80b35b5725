-- The definitions at samples, each computed: what is a word, and what a word says. Assumes nothing.
use Rattle.std.specs.Prelude.{◌≡◌, refl, [], ◌∷◌, Some, None}
use Rattle.alphabet.specs.Bytes.{ascii}
use Rattle.alphabet.specs.Parts.{split}
use Rattle.alphabet.specs.Hex.{all_hex, pairs_of}
use Rattle.alphabet.specs.Digits.{all_digits, counted}
use Rattle.asking.specs.Words.{words}
use Rattle.asking.specs.Hex.{said}
use Rattle.asking.specs.Decimals.{held, number}

cut : (words (ascii "") ≡ [] ∷ []) × (words (ascii "read 4d") ≡ ascii "read" ∷ ascii "4d" ∷ []) × (words (ascii "a  b ") ≡ ascii "a" ∷ [] ∷ ascii "b" ∷ [] ∷ [])
unfolding split
cut = (refl, refl, refl)

bytes_said : (said (ascii "-") ≡ Some []) × (said (ascii "4D5a") ≡ Some (77 ∷ 90 ∷ [])) × (said (ascii "4D5") ≡ None) × (said (ascii "4g") ≡ None) × (said (ascii "--") ≡ None) × (said [] ≡ None)
unfolding said all_hex pairs_of
bytes_said = (refl, refl, refl, refl, refl, refl)

numbers_said : (number (ascii "007") ≡ Some 7) × (number (ascii "18446744073709551615") ≡ Some 18446744073709551615) × (number (ascii "18446744073709551616") ≡ None) × (number (ascii "+1") ≡ None) × (number [] ≡ None)
unfolding number held all_digits counted
numbers_said = (refl, refl, refl, refl, refl)
