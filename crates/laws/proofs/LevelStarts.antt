-- Where a part of a part begins: behind the parts of lower number, each with its separator. Assumes nothing.
use mathlib.Core.Path.{◌≡◌, refl, sym, ap, subst}
use mathlib.Core.List.{List, [], ◌∷◌}
use Prim.Native.Nat.{ℕ, zero, suc, ◌+◌, ◌-◌}
use native.Mathlib.Nat.{add-zero, zero-add}
use native.Mathlib.Omega.{arith}
use lib.ListN.{length, take, length-append}
use borrow.Author.Tests.{ne_eqb}
use Rattle.std.specs.Prelude.{None, Some, Option}
use Rattle.alphabet.specs.Bytes.{carriage_return}
use Rattle.alphabet.specs.Parts.{split, standing, part_at, from_to}
use Rattle.alphabet.specs.declared.parts.Part.{Part}
use Rattle.reading.specs.Message.{ended}
use Rattle.reading.specs.Segments.{segments, segment_at}
use Rattle.element.specs.Finding.{part_bytes}
use Rattle.element.specs.Levels.{between, moved, part_in, below}
use Rattle.laws.specs.Elements.{spanned, before, before_level}

-- a part that is there begins at n
abbrev pub Begins : Option Part → ℕ → Type 0
Begins None n = Unit {0}
Begins (Some part) n = part.start ≡ n

standing_begins : (at : ℕ) (ps : List (List ℕ)) (k : ℕ) → Begins (standing at ps k) (at + spanned (take k ps))
unfolding standing spanned
standing_begins at [] k = tt
standing_begins at (p ∷ ps) zero = omega arith
standing_begins at (p ∷ ps) (suc k) =
    let n : at + length p + 1 + spanned (take k ps) ≡ at + (length p + 1 + spanned (take k ps)) = omega arith in
    subst (Begins (standing (at + length p + 1) ps k)) n (standing_begins (at + length p + 1) ps k)

first_begins : (ps : List (List ℕ)) (k : ℕ) → Begins (standing 0 ps k) (spanned (take k ps))
first_begins ps k = subst (Begins (standing 0 ps k)) (zero-add (spanned (take k ps))) (standing_begins 0 ps k)

-- a CR is one byte too
ended_length : (ps : List (List ℕ)) → length (ended ps) ≡ spanned ps
unfolding ended spanned
ended_length [] = refl
ended_length (p ∷ ps) =
    let i = ended_length ps in
    let n = length-append p (carriage_return ∷ ended ps) in
    omega arith

pub begins_segment : (m : List ℕ) (k : ℕ) → Begins (segment_at m k) (length (ended (take k (segments m))))
unfolding segment_at
begins_segment m k = subst (Begins (standing 0 (segments m) k)) (sym (ended_length (take k (segments m)))) (first_begins (segments m) k)

-- ---- one level

module _ (sep : ℕ) (m : List ℕ) where
  moved_begins : (s n : ℕ) (p : Option Part) → Begins p n → Begins (moved s p) (s + n)
  moved_begins s n None h = tt
  moved_begins s n (Some part) h = ap (λ (i : ℕ). s + i) h

  part_begins : (l : List ℕ) (k : ℕ) → Begins (part_at sep l k) (before sep k l)
  unfolding part_at
  part_begins l k = first_begins (split sep l) k

  pub begins_in : (p : Option Part) (k n : ℕ) → Begins p n → Begins (part_in sep m p k) (n + before sep k (part_bytes m p))
  unfolding part_in
  begins_in None k n h = tt
  begins_in (Some part) k n h =
      subst (λ (i : ℕ). Begins (part_in sep m (from_to part.start part.end) k) (i + before sep k (between m part.start part.end))) h
      (moved_begins part.start (before sep k (between m part.start part.end)) (part_at sep (between m part.start part.end) k) (part_begins (between m part.start part.end) k))

  pub begins_below : (p : Option Part) (k n : ℕ) → Begins p n → Begins (below sep m p k) (n + before_level sep k (part_bytes m p))
  unfolding below
  begins_below p zero n h = subst (Begins p) (sym (add-zero n)) h
  begins_below p (suc k) n h =
      let e : suc k - 1 ≡ k = omega arith in
      rw (ne_eqb (suc k) 0 (λ z. omega arith), e) (begins_in p k n h)
