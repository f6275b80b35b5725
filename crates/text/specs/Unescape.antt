-- How text is read, by document 01, 'Text': a scan that serves any set of sequences, and unescaping, which reads by
-- those of plain text. `Reads` says the same as a grammar, and `Grammar` of the crate `laws` that the two agree.
use Rattle.std.specs.Prelude.{ℕ, zero, suc, ◌+◌, List, [], ◌∷◌, ◌++◌, Bool, false, cond, ◌&&◌, length, get_or, take, ltb, eqb, Ok, Err}
use Rattle.alphabet.specs.Lists.{find}
use Rattle.alphabet.specs.Bytes.{byte_of, printable, is_null}
use Rattle.alphabet.specs.Delimiters.{first_wrong_delimiter}
use Rattle.alphabet.specs.Hex.{all_hex, pairs_of}
use Rattle.alphabet.specs.declared.answers.Refusal.{Refusal}
use Rattle.alphabet.specs.declared.answers.Refusal.TheVariants.{Delimiter, NotAllowed, Separator, UnknownEscape, UnclosedEscape, NullText}
use Rattle.escaping.specs.Escape.{letters, escape_of}
use Rattle.escaping.specs.Outcomes.{Outcome, text, fault, fitting}

-- what stands between two escape delimiters, in plain text: a letter of the table, or "`\Xhh..\` one or more pairs of
-- hex digits"
unfoldable pub known : List ℕ → Bool
known [] = false
known (l ∷ []) = ltb (find l letters) 5
known (l ∷ a ∷ r) = eqb l (byte_of "X") && all_hex (a ∷ r)

-- the bytes that it says
unfoldable pub meaning : List ℕ → List ℕ → List ℕ
meaning ds [] = []
meaning ds (l ∷ []) = get_or ds (find l letters) 0 ∷ []
meaning ds (l ∷ a ∷ r) = pairs_of (a ∷ r)

-- which sequences a text may have, and what each says by the delimiters; and what a plain byte says
pub record Sequences (A : Type 0) : Type 0 where
  pub plain : ℕ → A
  pub known : List ℕ → Bool
  pub meaning : List ℕ → List ℕ → List A

-- those of plain text: it says bytes
abbrev pub plain_text : Sequences ℕ
plain_text = record { plain = λ (b : ℕ). b; known = known; meaning = meaning }

-- what stands at a place: a fault, or what it says, with how many bytes after the first belong to it
pub data Step (A : Type 0) : Type 0 where
  stop : Refusal → Step A
  emit : List A → ℕ → Step A

-- "a sequence is judged whole at its opening byte", "unknown escape; escape never closed": r is what follows the byte,
-- n the place of the next escape delimiter in r
unfoldable pub sequence : {A : Type 0} → Sequences A → List ℕ → List ℕ → ℕ → Step A
sequence q ds r n =
    cond (ltb n (length r)) (cond (q.known (take n r)) (emit (q.meaning ds (take n r)) (n + 1)) (stop UnknownEscape)) (stop UnclosedEscape)

-- "first byte not allowed; in text, CR too", "raw separator other than the escape in text"
unfoldable pub step : {A : Type 0} → Sequences A → List ℕ → ℕ → List ℕ → Step A
step q ds b r =
    cond (eqb b (escape_of ds)) (sequence q ds r (find (escape_of ds) r))
    (cond (printable b) (cond (ltb (find b ds) 5) (stop Separator) (emit (q.plain b ∷ []) 0)) (stop NotAllowed))

abbrev pub before : {A : Type 0} → List A → Outcome A → Outcome A
before xs (Ok t) = text (xs ++ t)
before xs (Err f) = Err f

abbrev pub after : {A : Type 0} → Step A → ℕ → (ℕ → Outcome A) → Outcome A
after (stop k) at rest = fault k at
after (emit xs k) at rest = before xs (rest k)

-- "it works from the left": what a list of bytes says, the first of which stands at place `at`, once `skip` of them are
-- passed over
unfoldable pub scan : {A : Type 0} → Sequences A → List ℕ → ℕ → ℕ → List ℕ → Outcome A
scan q ds at skip [] = text []
scan q ds at (suc skip) (b ∷ r) = scan q ds (at + 1) skip r
scan q ds at zero (b ∷ r) = after (step q ds b r) at (λ (k : ℕ). scan q ds (at + 1) k r)

-- "Unescaping: 3, then 15, then the leftmost of 4, 11, 12, 13, then 14."
unfoldable pub unescaping : List ℕ → List ℕ → ℕ → Outcome ℕ
unescaping ds s room =
    cond (ltb (first_wrong_delimiter ds) 5) (fault Delimiter (first_wrong_delimiter ds))
    (cond (is_null s) (fault NullText 0) (fitting room (scan plain_text ds 0 0 s)))
