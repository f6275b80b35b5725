-- Laws of lists of values: what one step along them tells, a value of one letter, and one of two as a number. Assumes nothing.
use mathlib.Core.Path.{◌≡◌, refl, sym, ap, ◌∙◌}
use mathlib.Core.List.{List, [], ◌∷◌}
use mathlib.Core.Bool.{Bool, true, false, cond, not, ◌&&◌, ◌||◌}
use Prim.Native.Nat.{ℕ, suc, ◌+◌, ◌*◌, ◌<◌}
use native.Mathlib.Decide.{dec_lt}
use native.Mathlib.Omega.{arith}
use lib.Dec.{ltb, eqb}
use lib.ListN.{length, get_or}
use borrow.Author.Tests.{not-true, eqb-true, eqb-false, eq-eqb, ne_eqb, leb-true, ltb-true, lt-ltb, le-ltb}
use Rattle.alphabet.specs.Lists.{first, find, same}
use Rattle.alphabet.proofs.BoolLaws.{and_both}
use Rattle.alphabet.proofs.ListLaws.{same_unlike}
use Rattle.alphabet.specs.Parts.{split}
use Rattle.field_table.specs.Table.{values_of, member, rows}
use Rattle.field_table.specs.declared.Values.TheVariants.{Processing, Sex, Statuses}
use Rattle.field_table.specs.Codes.{singles, CodeOf}

module _ (bytes value : List ℕ) (others : List (List ℕ)) where
  pub member_here : same bytes value ≡ true → member bytes (value ∷ others) ≡ true
  unfolding member
  member_here e = rw e

  pub member_past : same bytes value ≡ false → member bytes (value ∷ others) ≡ member bytes others
  unfolding member
  member_past e = rw e

pub member_none : (bytes : List ℕ) → member bytes [] ≡ false
unfolding member
member_none bytes = refl

-- the last of a list of tests
pub or_end : (t : Bool) → t ≡ (t || false)
or_end true = refl
or_end false = refl

-- ---- one letter

-- letters with a space between them fall into the letters, where none is a space
abbrev spaced : List ℕ → List ℕ
spaced [] = []
spaced (x ∷ []) = x ∷ []
spaced (x ∷ y ∷ r) = x ∷ 32 ∷ spaced (y ∷ r)

abbrev spaceless : List ℕ → Bool
spaceless [] = true
spaceless (x ∷ r) = not (eqb 32 x) && spaceless r

apart : (x : ℕ) (r : List ℕ) → spaceless (x ∷ r) ≡ true → singles (x ∷ r) ≡ split 32 (spaced (x ∷ r))
unfolding split
apart x [] e = rw (not-true (eqb 32 x) (and_both (not (eqb 32 x)) true e).0)
apart x (y ∷ r) e =
    let b = and_both (not (eqb 32 x)) (spaceless (y ∷ r)) e in
    rw (not-true (eqb 32 x) b.0) (ap (λ (l : List (List ℕ)). (x ∷ []) ∷ l) (apart y r b.1))

-- the lists of single letters
pub processing_are : singles (68 ∷ 80 ∷ 84 ∷ []) ≡ values_of Processing
unfolding values_of
processing_are = apart 68 (80 ∷ 84 ∷ []) refl

pub sex_are : singles (77 ∷ 70 ∷ 79 ∷ 85 ∷ []) ≡ values_of Sex
unfolding values_of
sex_are = apart 77 (70 ∷ 79 ∷ 85 ∷ []) refl

pub statuses_are : singles (67 ∷ 68 ∷ 70 ∷ 73 ∷ 78 ∷ 79 ∷ 80 ∷ 82 ∷ 83 ∷ 85 ∷ 87 ∷ 88 ∷ []) ≡ values_of Statuses
unfolding values_of
statuses_are = apart 67 (68 ∷ 70 ∷ 73 ∷ 78 ∷ 79 ∷ 80 ∷ 82 ∷ 83 ∷ 85 ∷ 87 ∷ 88 ∷ []) refl

letter_in : (b : ℕ) (letters : List ℕ) → ltb (find b letters) (length letters) ≡ member (b ∷ []) (singles letters)
unfolding member same first
letter_in b [] = refl
letter_in b (x ∷ r) = at (eqb b x) (find b r) (letter_in b r)
  where
    at : (t : Bool) (n : ℕ) → ltb n (length r) ≡ member (b ∷ []) (singles r) → ltb (cond t 0 (suc n)) (suc (length r)) ≡ ((t && true) || member (b ∷ []) (singles r))
    at true n e = lt-ltb 0 (suc (length r)) (omega arith)
    at false n e = past (dec_lt n (length r)) ∙ e
      where
        past : Dec (n < length r) → ltb (suc n) (suc (length r)) ≡ ltb n (length r)
        past (yes h) = lt-ltb (suc n) (suc (length r)) (omega arith) ∙ sym (lt-ltb n (length r) h)
        past (no h) = le-ltb (suc n) (suc (length r)) (omega arith) ∙ sym (le-ltb n (length r) (omega arith))

one : (l : List ℕ) → length l ≡ 1 → get_or l 0 0 ∷ [] ≡ l
one [] h = absurd (omega arith)
one (a ∷ []) h = refl
one (a ∷ b ∷ r) h = absurd (omega arith)

pub letter_told : (l letters : List ℕ) (n : ℕ) → length l ≡ 1 → n ≡ find (get_or l 0 0) letters → ltb n (length letters) ≡ member l (singles letters)
letter_told l letters n h e =
    ap (λ (k : ℕ). ltb k (length letters)) e ∙ letter_in (get_or l 0 0) letters ∙ ap (λ (k : List ℕ). member k (singles letters)) (one l h)

pub letter_not : (l letters : List ℕ) → (length l ≡ 1 → ⊥) → member l (singles letters) ≡ false
unfolding member
letter_not l [] h = refl
letter_not l (x ∷ r) h = rw (same_unlike l (x ∷ []) h, letter_not l r h)

-- ---- two letters

two : (l : List ℕ) → length l ≡ 2 → get_or l 0 0 ∷ get_or l 1 0 ∷ [] ≡ l
two [] h = absurd (omega arith)
two (a ∷ []) h = absurd (omega arith)
two (a ∷ b ∷ []) h = refl
two (a ∷ b ∷ c ∷ r) h = absurd (omega arith)

pair_told : (a b x y : ℕ) → b < 256 → y < 256 → eqb (a * 256 + b) (x * 256 + y) ≡ same (a ∷ b ∷ []) (x ∷ y ∷ [])
unfolding same
pair_told a b x y h k = at (eqb a x) refl (eqb b y) refl
  where
    at : (t : Bool) → eqb a x ≡ t → (u : Bool) → eqb b y ≡ u → eqb (a * 256 + b) (x * 256 + y) ≡ (t && (u && true))
    at true p true q =
        let e = eqb-true a x p in
        let f = eqb-true b y q in
        eq-eqb (a * 256 + b) (x * 256 + y) (omega arith)
    at true p false q = let n = eqb-false b y q in ne_eqb (a * 256 + b) (x * 256 + y) (λ e. n (omega arith))
    at false p u q = let n = eqb-false a x p in ne_eqb (a * 256 + b) (x * 256 + y) (λ e. n (omega arith))

pub code_told : (l : List ℕ) (a b : ℕ) → length l ≡ 2 → a ≡ get_or l 0 0 → b ≡ get_or l 1 0 → b < 256 → CodeOf (a * 256 + b) l
code_told l a b h e f k x y p q =
    pair_told a b x y k (ltb-true y 256 q) ∙ ap (λ (m : List ℕ). same m (x ∷ y ∷ [])) ((λ i. e i ∷ f i ∷ []) ∙ two l h)

pub code_not : (l : List ℕ) → (length l ≡ 2 → ⊥) → CodeOf 0 l
code_not l h x y p q =
    let m = leb-true 1 x p in
    ne_eqb 0 (x * 256 + y) (λ e. absurd (omega arith)) ∙ sym (same_unlike l (x ∷ y ∷ []) h)

-- ---- the rows

pub rows_count : length rows ≡ 16
unfolding rows
rows_count = refl
