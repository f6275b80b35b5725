-- What the contracts of private functions say of a number that is seen at once to be one. Nobody has to believe this: it
-- is shown that such bytes pass the check.
use Rattle.std.specs.Prelude.{ℕ, ◌+◌, ◌≤◌, ◌<◌, ◌≡◌, List, true, ◌⊎◌, length, get_or, drop}
use Rattle.alphabet.specs.Bytes.{byte_of, digit}
use Rattle.numbers.specs.Numbers.{some_digits, most_digits}

-- so many bytes are digits, from the first on
pub record Leads (l : List ℕ) (n : ℕ) : Type 0 where
  pub inside : n ≤ length l
  pub digits : (i : ℕ) → i < n → digit (get_or l i 0) ≡ true

-- one or more digits, and nothing behind them or a point and digits
pub record PlainNumber (l : List ℕ) : Type 0 where
  pub short : length l ≤ most_digits
  pub before : ℕ
  pub some : 1 ≤ before
  pub leads : Leads l before
  pub behind : (before ≡ length l) ⊎ ((before < length l) × (get_or l before 0 ≡ byte_of ".") × (some_digits (drop (before + 1) l) ≡ true))
