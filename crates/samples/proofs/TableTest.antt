-- A test that antt computes, which shows that tables are a structure's. Assumes nothing.
use mathlib.Core.Path.{◌≡◌, refl, ap₂}
use mathlib.Core.Bool.{Bool, true, false, ◌&&◌, beq}
use mathlib.Core.List.{List}
use Prim.Native.Nat.{ℕ}
use lib.Dec.{T, eqb, eqb→eq}
use Rattle.structure.specs.Shapes.{Shape, names, numbered}
use Rattle.structure.specs.Shapes.Shape.{end, seg, opt, rep}
use Rattle.structure.specs.Engine.{Entry, entry, stop, enter, again, Fits, entry_at, Tables}

both_left : (a b : Bool) → T (a && b) → T a
both_left true b t = tt
both_left false b t = t

both_right : (a b : Bool) → T (a && b) → T b
both_right true b t = t
both_right false b t = absurd t

beq_eq : (a b : Bool) → T (beq a b) → a ≡ b
beq_eq true true t = refl
beq_eq true false t = absurd t
beq_eq false true t = absurd t
beq_eq false false t = refl

abbrev pub same : Entry → Entry → Bool
same a b = eqb a.next b.next && beq a.ends b.ends

same_eq : (a b : Entry) → T (same a b) → a ≡ b
same_eq a b t =
    ap₂ entry (eqb→eq a.next b.next (both_left (eqb a.next b.next) (beq a.ends b.ends) t))
    (beq_eq a.ends b.ends (both_right (eqb a.next b.next) (beq a.ends b.ends) t))

abbrev pub fitsb : (ℕ → Entry) → Shape → Entry → Bool
fitsb tab end c = true
fitsb tab (seg n s) c = same (tab n) (enter s c) && fitsb tab s c
fitsb tab (opt b s) c = fitsb tab b (enter s c) && fitsb tab s c
fitsb tab (rep b s) c = fitsb tab b (again b (enter s c)) && fitsb tab s c

pub fits_of : (tab : ℕ → Entry) (s : Shape) (c : Entry) → T (fitsb tab s c) → Fits tab s c
fits_of tab end c t = tt
fits_of tab (seg n s) c t =
    (same_eq (tab n) (enter s c) (both_left (same (tab n) (enter s c)) (fitsb tab s c) t), fits_of tab s c (both_right (same (tab n) (enter s c)) (fitsb tab s c) t))
fits_of tab (opt b s) c t =
    (fits_of tab b (enter s c) (both_left (fitsb tab b (enter s c)) (fitsb tab s c) t), fits_of tab s c (both_right (fitsb tab b (enter s c)) (fitsb tab s c) t))
fits_of tab (rep b s) c t = (
  fits_of tab b (again b (enter s c)) (both_left (fitsb tab b (again b (enter s c))) (fitsb tab s c) t),
  fits_of tab s c (both_right (fitsb tab b (again b (enter s c))) (fitsb tab s c) t),
)

pub tables_of : (s : Shape) (ns follow : List ℕ) (last : ℕ) (begin : Entry) → ns ≡ names s → T (fitsb (entry_at follow last) (numbered 0 s) stop)
    → T (same begin (enter (numbered 0 s) stop)) → Tables s ns follow last begin
tables_of s ns follow last begin a b c = record { named = a; fits = fits_of (entry_at follow last) (numbered 0 s) stop b; begins = same_eq begin (enter (numbered 0 s) stop) c }
