-- The definitions at samples, each computed: the bytes of the answer's own words. Assumes nothing.
use Rattle.std.specs.Prelude.{◌≡◌, refl, [], ◌∷◌}
use Rattle.alphabet.specs.Bytes.{ascii}
use Rattle.answering.specs.Hex.{hexed}
use Rattle.answering.specs.Answers.{no_question}

own_word : no_question ≡ ascii "?\n"
own_word = refl

bytes_written : (hexed [] ≡ []) × (hexed (0 ∷ 159 ∷ 165 ∷ 255 ∷ []) ≡ ascii "009fa5ff")
unfolding hexed
bytes_written = (refl, refl)
