-- Laws of a list of names with zeros behind it, up to 64: one name more, and the names alone. Assumes nothing.
use mathlib.Core.Path.{◌≡◌, sym, ap, ◌∙◌}
use mathlib.Core.List.{List, [], ◌∷◌, ◌++◌}
use Prim.Native.Nat.{ℕ, suc, ◌+◌, ◌-◌, ◌≤◌, ◌<◌}
use native.Mathlib.Omega.{arith}
use lib.ListN.{length, take, set, replicate, length-append, length-replicate}
use lib.Seq.{take-append_seam, append_snoc, set-append_seam}

-- names, and zeros up to 64
abbrev pub filled : List ℕ → List ℕ
filled l = l ++ replicate (64 - length l) 0

-- one name more at the front
pub filled_more : (l : List ℕ) (x : ℕ) → length l < 64 → set (filled l) (length l) x ≡ filled (l ++ (x ∷ []))
filled_more l x h =
    let n : 64 - length l ≡ suc (64 - (length l + 1)) = omega arith in
    let m : length (l ++ (x ∷ [])) ≡ length l + 1 = length-append l (x ∷ []) in
    ap (λ (i : ℕ). set (l ++ replicate i 0) (length l) x) n ∙ set-append_seam l 0 (replicate (64 - (length l + 1)) 0) x
    ∙ sym (append_snoc l x (replicate (64 - (length l + 1)) 0)) ∙ ap (λ (i : ℕ). (l ++ (x ∷ [])) ++ replicate (64 - i) 0) (sym m)

pub filled_front : (l : List ℕ) → take (length l) (filled l) ≡ l
filled_front l = take-append_seam l (replicate (64 - length l) 0)

pub filled_length : (l : List ℕ) → length l ≤ 64 → length (filled l) ≡ 64
filled_length l h = let n = length-append l (replicate (64 - length l) 0) in let m = length-replicate {A = ℕ} (64 - length l) 0 in omega arith
