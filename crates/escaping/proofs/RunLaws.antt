-- Bytes that stand plainly, one behind another, are written as they are. Assumes nothing.
use mathlib.Core.Path.{◌≡◌, refl, ap, ◌∙◌}
use mathlib.Core.List.{List, [], ◌∷◌, ◌++◌}
use mathlib.Core.Bool.{Bool, true, false, cond}
use Prim.Native.Nat.{ℕ, zero, suc, ◌≤◌}
use native.Mathlib.Omega.{arith}
use lib.ListN.{take, drop}
use Rattle.alphabet.specs.Lists.{first}
use Rattle.plain.specs.Plain.{special}
use Rattle.plain.proofs.PlainLaws.{plain_is}
use Rattle.escaping.specs.Escape.{escape_byte, escape_bytes}
use Rattle.escaping.proofs.PieceLaws.{written_plain}

pub bytes_run : (ds l : List ℕ) (n : ℕ) → n ≤ first (special ds) l → escape_bytes ds l ≡ take n l ++ escape_bytes ds (drop n l)
unfolding first escape_bytes
bytes_run ds l zero h = refl
bytes_run ds [] (suc n) h = refl
bytes_run ds (b ∷ r) (suc n) h = at (special ds b) refl h (bytes_run ds r n)
  where
    at : (t : Bool) → special ds b ≡ t → suc n ≤ cond t 0 (suc (first (special ds) r)) → (n ≤ first (special ds) r → escape_bytes ds r ≡ take n r ++ escape_bytes ds (drop n r))
        → escape_byte ds b ++ escape_bytes ds r ≡ b ∷ (take n r ++ escape_bytes ds (drop n r))
    at true e h ih = absurd (omega arith)
    at false e h ih =
        let p = plain_is ds b e in
        ap (λ (w : List ℕ). w ++ escape_bytes ds r) (written_plain ds b p.1 p.0) ∙ ap (λ (w : List ℕ). b ∷ w) (ih (omega arith))
