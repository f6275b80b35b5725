-- What demand 2 says of text: "Text of any bytes, escaped and then unescaped under the same permitted delimiters, comes
-- back the same where both buffers have room."
use Rattle.alphabet.specs.Answers.{Refusable, length_given}
use Rattle.std.specs.Prelude.{ℕ, ◌≤◌, ◌≡◌, List, length, take, Ok}
use Rattle.alphabet.specs.Delimiters.{first_wrong_delimiter}
use Rattle.alphabet.specs.Filling.{over}
use Rattle.escaping.specs.Escape.{escape}
use Rattle.escaping.specs.Outcomes.{escaping, answer, filled}

-- what `escape` left of the text t at the front of the buffer d, as long as its answer says
abbrev pub left : List ℕ → List ℕ → List ℕ → List ℕ
left ds t d = take (length_given (answer (escaping ds t (length d)))) (filled (escaping ds t (length d)) d)

-- where the delimiters are permitted, and the first buffer has room for the escaped text and the second, e, for the
-- text: the answer r is the text's length, and the second buffer, afterwards x, has the text at its front and is
-- otherwise as it was
abbrev pub ComesBack : List ℕ → List ℕ → ℕ → List ℕ → Refusable ℕ → List ℕ → Type 0
ComesBack ds t room e r x =
    first_wrong_delimiter ds ≡ 5 → length (escape ds t) ≤ room → length t ≤ length e → (r ≡ Ok (length t)) × (x ≡ over t e)
