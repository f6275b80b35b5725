-- A buffer's front by its last element. Assumes nothing.
use mathlib.Core.Path.{◌≡◌, ◌∙◌}
use mathlib.Core.List.{List, [], ◌∷◌, ◌++◌, append_assoc}
use Prim.Native.Nat.{ℕ, ◌+◌, ◌<◌}
use native.Mathlib.Numerals.{add-one}
use native.Mathlib.Omega.{arith}
use lib.ListN.{length, take, set, length-set}
use lib.Seq.{take-suc-set}

-- a front that is one element longer, and what is to follow it
pub front_more : (d rest : List ℕ) (n x : ℕ) → n < length d → take (n + 1) (set d n x) ++ rest ≡ take n d ++ (x ∷ rest)
front_more d rest n x h = rw (add-one n, take-suc-set d n x) (append_assoc (take n d) (x ∷ []) rest)

pub front_two : (d rest : List ℕ) (n x y : ℕ) → n + 1 < length d → take (n + 2) (set (set d n x) (n + 1) y) ++ rest ≡ take n d ++ (x ∷ y ∷ rest)
front_two d rest n x y h =
    let e : n + 2 ≡ n + 1 + 1 = omega arith in
    rw e (front_more (set d n x) rest (n + 1) y (simp length-set h) ∙ front_more d (y ∷ rest) n x (omega arith))
