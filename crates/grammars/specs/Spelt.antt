-- What digits say, as a grammar, so that the readers of numbers and times are not their own meaning: nothing here looks
-- for a place in the bytes.
use Rattle.std.specs.Prelude.{ℕ, suc, ◌+◌, ◌*◌, ◌≤◌, List, [], ◌∷◌, ◌++◌}
use Rattle.alphabet.specs.Bytes.{byte_of}

-- k digits say n: none say 0, and one more digit behind them says ten times as much and itself. The digit d is
-- the byte d behind that of 0
pub data Says : ℕ → List ℕ → ℕ → Type 0 where
  none : Says 0 [] 0
  more : {k n : ℕ} {l : List ℕ} (d : ℕ) → d ≤ 9 → Says k l n → Says (suc k) (l ++ ((byte_of "0" + d) ∷ [])) (n * 10 + d)
