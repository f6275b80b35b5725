-- What a text says, and why and where it is refused, as a grammar, for any set of sequences: nothing of how it is
-- found. `Grammar` of the crate `laws` shows that the scan of `Unescape` gives a text exactly where `Reads` does, and
-- the same text; and a fault exactly where `Refuses` does, the same and at the same place.
use Rattle.std.specs.Prelude.{ℕ, ◌≤◌, ◌<◌, ◌≡◌, List, [], ◌∷◌, ◌++◌, true, false, length}
use Rattle.alphabet.specs.Lists.{find}
use Rattle.alphabet.specs.Bytes.{ascii, printable}
use Rattle.alphabet.specs.Delimiters.{first_wrong_delimiter}
use Rattle.alphabet.specs.declared.answers.Refusal.{Refusal}
use Rattle.alphabet.specs.declared.answers.Refusal.TheVariants.{Delimiter, NotAllowed, Separator, UnknownEscape, UnclosedEscape, NoRoom, NullText}
use Rattle.escaping.specs.Escape.{escape_of}
use Rattle.text.specs.Unescape.{Sequences, plain_text}
use Rattle.escaping.specs.Outcomes.{Outcome, text, fault}

-- s says t: nothing; a plain byte and a text; or a known sequence, between two escape delimiters and with none inside,
-- and a text. Which sequences are known, and what they say, is q's
pub data Reads {A : Type 0} (q : Sequences A) (ds : List ℕ) : List ℕ → List A → Type 0 where
  done : Reads q ds [] []
  plain : {r : List ℕ} {t : List A} (b : ℕ) → printable b ≡ true → 5 ≤ find b ds → Reads q ds r t → Reads q ds (b ∷ r) (q.plain b ∷ t)
  escaped : {r : List ℕ} {t : List A} (c : List ℕ) → find (escape_of ds) c ≡ length c → q.known c ≡ true → Reads q ds r t
      → Reads q ds (escape_of ds ∷ (c ++ escape_of ds ∷ r)) (q.meaning ds c ++ t)

-- what is wrong at the first byte: "first byte not allowed; in text, CR too", "raw separator other than the escape in
-- text", "unknown escape; escape never closed"
pub data Stops {A : Type 0} (q : Sequences A) (ds : List ℕ) : List ℕ → Refusal → Type 0 where
  unprintable : (b : ℕ) (r : List ℕ) → (b ≡ escape_of ds → ⊥) → printable b ≡ false → Stops q ds (b ∷ r) NotAllowed
  separator : (b : ℕ) (r : List ℕ) → (b ≡ escape_of ds → ⊥) → printable b ≡ true → find b ds < 5 → Stops q ds (b ∷ r) Separator
  unknown : (c r : List ℕ) → find (escape_of ds) c ≡ length c → q.known c ≡ false → Stops q ds (escape_of ds ∷ (c ++ escape_of ds ∷ r)) UnknownEscape
  unclosed : (r : List ℕ) → find (escape_of ds) r ≡ length r → Stops q ds (escape_of ds ∷ r) UnclosedEscape

-- "the leftmost of 4, 11, 12, 13": what stands before the place says something, and there something is wrong
pub record Refuses {A : Type 0} (q : Sequences A) (ds s : List ℕ) (k : Refusal) (place : ℕ) : Type 0 where
  pub front : List ℕ
  pub rest : List ℕ
  pub said : List A
  pub made_of : s ≡ front ++ rest
  pub reads : Reads q ds front said
  pub stops : Stops q ds rest k
  pub there : length front ≡ place

-- "Unescaping: 3, then 15, then the leftmost of 4, 11, 12, 13, then 14.": each outcome, and when it is
pub data Unescapes (ds s : List ℕ) (room : ℕ) : Outcome ℕ → Type 0 where
  delimiter : first_wrong_delimiter ds < 5 → Unescapes ds s room (fault Delimiter (first_wrong_delimiter ds))
  null : 5 ≤ first_wrong_delimiter ds → s ≡ ascii "\"\"" → Unescapes ds s room (fault NullText 0)
  refused : 5 ≤ first_wrong_delimiter ds → (s ≡ ascii "\"\"" → ⊥) → (k : Refusal) (p : ℕ) → Refuses plain_text ds s k p → Unescapes ds s room (fault k p)
  long : 5 ≤ first_wrong_delimiter ds → (s ≡ ascii "\"\"" → ⊥) → (t : List ℕ) → Reads plain_text ds s t → room < length t → Unescapes ds s room (fault NoRoom 0)
  written : 5 ≤ first_wrong_delimiter ds → (s ≡ ascii "\"\"" → ⊥) → (t : List ℕ) → Reads plain_text ds s t → length t ≤ room → Unescapes ds s room (text t)
