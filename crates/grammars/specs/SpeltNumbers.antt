-- NM and SI as grammars, by document 01, 'Numbers and times', so that the readers are not their own meaning: what
-- spells a number, rule by rule, with the number that it spells. `Says k l n`: the k digits l say n.
use Rattle.alphabet.specs.declared.answers.Refusal.{Refusal}
use Rattle.std.specs.Prelude.{ℕ, suc, ◌+◌, ◌≤◌, ◌<◌, List, ◌∷◌, ◌++◌, ℤ, pos, neg_ℤ, Result, Ok, Err}
use Rattle.alphabet.specs.Bytes.{byte_of}
use Rattle.alphabet.specs.declared.answers.Refusal.TheVariants.{BreaksForm, ValueTooLong}
use Rattle.numbers.specs.declared.numerals.Number.{Number}
use Rattle.grammars.specs.Spelt.{Says}

-- "digits, optionally a point and digits; a digit on each side of a point": `Unsigned l n decimals digits`. Both sides
-- together say the number, and those behind the point are the decimals.
pub data Unsigned : List ℕ → ℕ → ℕ → ℕ → Type 0 where
  unpointed : {k n : ℕ} {l : List ℕ} → Says (suc k) l n → Unsigned l n 0 (suc k)
  pointed : {j k a b n : ℕ} {w f : List ℕ} → Says (suc j) w a → Says (suc k) f b → Says (suc j + suc k) (w ++ f) n → Unsigned (w ++ (byte_of "." ∷ f)) n (suc k) (suc j + suc k)

-- "NM: optional sign". "The result is a signed whole number and a count of decimals."
pub data Nm : List ℕ → ℤ → ℕ → ℕ → Type 0 where
  bare : {n decimals digits : ℕ} {l : List ℕ} → Unsigned l n decimals digits → Nm l (pos n) decimals digits
  plus : {n decimals digits : ℕ} {l : List ℕ} → Unsigned l n decimals digits → Nm (byte_of "+" ∷ l) (pos n) decimals digits
  minus : {n decimals digits : ℕ} {l : List ℕ} → Unsigned l n decimals digits → Nm (byte_of "-" ∷ l) (neg_ℤ (pos n)) decimals digits

-- "1 to 18 digits in all"; 37: "well formed, but over 18 digits"; 32: "breaks its type's form"
pub data NmSays (l : List ℕ) : Result Number Refusal → Type 0 where
  says : {v : ℤ} {decimals digits : ℕ} → Nm l v decimals digits → digits ≤ 18 → NmSays l (Ok (record { value = v; decimals = decimals }))
  long : {v : ℤ} {decimals digits : ℕ} → Nm l v decimals digits → 18 < digits → NmSays l (Err ValueTooLong)
  breaks : ((v : ℤ) (decimals digits : ℕ) → Nm l v decimals digits → ⊥) → NmSays l (Err BreaksForm)

-- "SI: one to four digits."
pub data Si : List ℕ → ℕ → Type 0 where
  few : {k n : ℕ} {l : List ℕ} → Says (suc k) l n → suc k ≤ 4 → Si l n

pub data SiSays (l : List ℕ) : Result Number Refusal → Type 0 where
  says : {n : ℕ} → Si l n → SiSays l (Ok (record { value = pos n; decimals = 0 }))
  breaks : ((n : ℕ) → Si l n → ⊥) → SiSays l (Err BreaksForm)
