-- The samples of docs/FORMATTED.md, as one table: what comes of a text with commands in it. `Holds` says it by the
-- definition that the public contract cites.
use Rattle.std.specs.Prelude.{ℕ, ◌≡◌, List, [], ◌∷◌, ◌++◌, replicate}
use Rattle.alphabet.specs.Bytes.{ascii}
use Rattle.alphabet.specs.Answers.{number_given, place_given}
use Rattle.escaping.specs.Outcomes.{text, answer}
use Rattle.formatting.specs.Formatting.{formatting}
use Rattle.samples.specs.Table.{usual}

-- a row of the table
pub data Row : Type 0 where
  -- a text, and its lines
  lays : List ℕ → List ℕ → Row
  -- a text that is refused, the number and the place
  refused : List ℕ → ℕ → ℕ → Row

-- what a row says, by the definitions; the room is more than any sample needs
unfoldable pub Holds : Row → Type 0
Holds (lays s t) = formatting usual s 500 ≡ text t
Holds (refused s n place) =
    (number_given (answer (formatting usual s 500)) ≡ n) × (place_given (answer (formatting usual s 500)) ≡ place)

-- every row of a table
unfoldable pub All : List Row → Type 0
All [] = Unit {0}
All (r ∷ rows) = Holds r × All rows

-- ends of lines, as commands and as bytes
unfoldable pub of_breaks : List Row
of_breaks =
    lays (ascii "test\\.br\\") (ascii "test\n")
    ∷ lays (ascii "Comment:\\.br\\\\.br\\") (ascii "Comment:\n\n")
    ∷ lays (ascii "a\\.sp\\b") (ascii "a\n b")
    ∷ lays (ascii "abc\\.sp2\\d") (ascii "abc\n\n   d")
    ∷ lays (ascii "a\\X0D0A\\b\\X0A\\c\\X0D\\d\\X0A0D\\e") (ascii "a\nb\nc\nd\n\ne")
    ∷ lays (ascii "a\\X0D\\\\H\\\\X0A\\b") (ascii "a\nb")
    ∷ []

-- blanks, margins and the centre
unfoldable pub of_blanks : List Row
of_blanks =
    lays (ascii "\\.in+4\\a\\.br\\b\\.in-4\\\\.br\\c") (ascii "    a\n    b\nc")
    ∷ lays (ascii "\\.in+4\\\\.ti-4\\ 1. x\\.br\\y") (ascii " 1. x\n    y")
    ∷ lays (ascii "a\\.sk 3\\b\\.sk 0\\c") (ascii "a   bc")
    ∷ lays (ascii "a\\.sk-0\\b\\.sk 008\\c") (ascii "ab        c")
    ∷ lays (ascii "Na  139  ") (ascii "Na  139")
    ∷ lays (ascii "\\H\\HI\\N\\GH") (ascii "HIGH")
    ∷ lays (ascii "\\X5C2E62725C\\") (ascii "\\.br\\")
    ∷ lays (ascii "\\.ce\\ab\\.br\\c") (10 ∷ replicate 99 32 ++ (ascii "ab\nc"))
    ∷ []

-- numbers out of range, and words that fit nowhere: 42; a word of 200 bytes is a line
unfoldable pub of_range : List Row
of_range =
    refused (ascii "\\.ti-1\\x") 42 0
    ∷ refused (ascii "\\.in-1\\") 42 0
    ∷ refused (ascii "\\.sk201\\") 42 0
    ∷ refused (ascii "\\.in-201\\") 42 0
    ∷ refused (ascii "\\.sk-1\\") 42 0
    ∷ lays (replicate 200 120) (replicate 200 120)
    ∷ refused (replicate 201 120) 42 0
    ∷ refused (ascii "\\.nf\\" ++ replicate 201 120) 42 0
    ∷ refused (ascii "\\.in1\\" ++ replicate 200 120) 42 0
    ∷ refused (ascii "\\.nf\\" ++ replicate 150 120 ++ 32 ∷ replicate 50 121) 42 0
    ∷ []

-- what a filled line does in its place: the next line begins at the margin, `.ti` or not
unfoldable pub of_wraps : List Row
of_wraps =
    lays (replicate 150 120 ++ 32 ∷ replicate 50 121) (replicate 150 120 ++ 10 ∷ replicate 50 121)
    ∷ lays (ascii "\\.in+4\\\\.ti-4\\ 3. " ++ replicate 194 120 ++ ascii " with") (ascii " 3. " ++ replicate 194 120 ++ ascii "\n    with")
    ∷ []

-- "the leftmost of 4, 11, 12, 13, then 42 (place 0)"; the forms that are no command
unfoldable pub of_faults : List Row
of_faults =
    refused (ascii "\\.sk201\\a|") 11 9
    ∷ refused (ascii "a\\.in\\") 12 1
    ∷ refused (ascii "\\.sk\\") 12 0
    ∷ refused (ascii "\\.in+\\") 12 0
    ∷ refused (ascii "\\.sp \\") 12 0
    ∷ refused (ascii "\\.br1\\") 12 0
    ∷ refused (ascii "\\.BR\\") 12 0
    ∷ refused (ascii "\\.xx\\") 12 0
    ∷ refused (ascii "\\Z1\\") 12 0
    ∷ refused (ascii "\"\"") 15 0
    ∷ []

-- the standard's own example, a radiology report; the blank behind each `\.ti-4\` stays
unfoldable pub of_standard : List Row
of_standard =
    lays (ascii "\\.in+4\\\\.ti-4\\ 1. The cardio-mediastinal silhouette is now within normal limits.\\.br\\\\.ti-4\\ 2. Lung fields "
    ++ ascii "show minimal ground glass appearance.\\.br\\\\.ti-4\\ 3. A loop of colon visible in the left upper quadrant is "
    ++ ascii "distinctly abnormal with the appearance of mucosal effacement suggesting colitis.\\.in-4\\")
    (ascii " 1. The cardio-mediastinal silhouette is now within normal limits.\n 2. Lung fields show minimal ground glass "
    ++ ascii "appearance.\n 3. A loop of colon visible in the left upper quadrant is distinctly abnormal with the "
    ++ ascii "appearance of mucosal effacement suggesting colitis.")
    ∷ []

-- the table
unfoldable pub formatted_samples : List Row
formatted_samples = of_breaks ++ (of_blanks ++ (of_range ++ (of_wraps ++ (of_faults ++ of_standard))))
