-- The verbs in letters, and what `read` asks at samples, computed. Assumes nothing.
use Rattle.std.specs.Prelude.{◌≡◌, refl, [], Some, None}
use Rattle.alphabet.specs.Bytes.{ascii}
use Rattle.alphabet.specs.Parts.{split}
use Rattle.asking.specs.Words.{words}
use Rattle.asking.specs.Hex.{said}
use Rattle.judge_questions.specs.Readings.{read_verb, read_asked}
use Rattle.judge_questions.specs.Verbs.{Verb, structure, verdict}

verbs : (read_verb ≡ ascii "read") × Verb (ascii "structure") × Verb (ascii "verdict")
verbs = (refl, structure, verdict)

asked : (read_asked (words (ascii "read -")) ≡ Some []) × (read_asked (words (ascii "read")) ≡ None) × (read_asked (words (ascii "read - ")) ≡ None)
unfolding read_asked split said
asked = (refl, refl, refl)
