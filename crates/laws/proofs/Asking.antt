-- What a question for an element is refused for: an address is well formed exactly where it asks for something, by `Asks`, and 19 is the answer exactly
-- where the message was read and it asks for nothing, or for no segment. Assumes nothing.
use mathlib.Core.Path.{◌≡◌, refl, sym, ap, subst, ◌∙◌}
use mathlib.Core.Bool.{Bool, true, false, not, ◌||◌}
use mathlib.Core.List.{List}
use mathlib.Core.Logic.{◌⊎◌, inl, inr, ⊎_elim, ◌↔◌}
use Prim.Native.Nat.{ℕ, zero, suc, ◌≤◌, ◌<◌}
use native.Mathlib.Omega.{arith}
use lib.Dec.{eqb, leb}
use lib.ListN.{length}
use borrow.Author.Tests.{eqb-true, leb-true, le-leb}
use Rattle.std.specs.Prelude.{None, Err, Ok, Some, Option}
use Rattle.alphabet.specs.Answers.{fails_if, or_else, Check, passes, checked, number_given}
use Rattle.alphabet.specs.declared.answers.Refusal.TheVariants.{Address as BadAddress}
use Rattle.alphabet.specs.declared.parts.Part.{Part}
use Rattle.alphabet.proofs.BoolLaws.{false_true, and_both}
use Rattle.alphabet.proofs.CheckLaws.{Numbered, never_both, checked_given, number_checked}
use Rattle.alphabet.proofs.PartLaws.{standing_absent}
use Rattle.reading.specs.Reading.{reading}
use Rattle.reading.specs.Segments.{segments, segment_at}
use Rattle.reading.proofs.Honest.{reading_numbered}
use Rattle.reading.proofs.SegmentLaws.{segment_bytes, segment_past}
use Rattle.element.specs.Addresses.{well_formed}
use Rattle.element.specs.Finding.{is_absent, lookup_check, found}
use Rattle.element.specs.declared.address.Address.{Address}
use Rattle.laws.specs.Elements.{address, Asks, whole_field, whole_repetition, whole_component, subcomponent}

-- ---- addresses

-- after a 0 a 0
after_zero : (k n : ℕ) → (leb 1 k || eqb n 0) ≡ true → k ≡ 0 → n ≡ 0
after_zero k n e z = eqb-true n 0 (subst (λ (x : ℕ). (leb 1 x || eqb n 0) ≡ true) z e)

well_formed_asks : (a : Address) → well_formed a ≡ true → Asks a
well_formed_asks a e =
    let x = and_both (leb 1 a.field) _ e in
    let y = and_both (leb 1 a.repetition || eqb a.component 0) (leb 1 a.component || eqb a.subcomponent 0) x.1 in
    at a.repetition a.component a.subcomponent (leb-true 1 a.field x.0)
    (after_zero a.repetition a.component y.0) (after_zero a.component a.subcomponent y.1)
  where
    at : (r c u : ℕ) → 1 ≤ a.field → (r ≡ 0 → c ≡ 0) → (c ≡ 0 → u ≡ 0) → Asks (address a.segment a.field r c u)
    at zero zero zero h p q = whole_field a.segment a.field h
    at zero zero (suc u) h p q = absurd (let z = q refl in omega arith)
    at zero (suc c) u h p q = absurd (let z = p refl in omega arith)
    at (suc r) zero zero h p q = whole_repetition a.segment a.field (suc r) h (omega arith)
    at (suc r) zero (suc u) h p q = absurd (let z = q refl in omega arith)
    at (suc r) (suc c) zero h p q = whole_component a.segment a.field (suc r) (suc c) h (omega arith) (omega arith)
    at (suc r) (suc c) (suc u) h p q = subcomponent a.segment a.field (suc r) (suc c) (suc u) h (omega arith) (omega arith) (omega arith)

asks_well_formed : {a : Address} → Asks a → well_formed a ≡ true
asks_well_formed (whole_field s f h) = rw (le-leb 1 f h)
asks_well_formed (whole_repetition s f r h k) = rw (le-leb 1 f h, le-leb 1 r k)
asks_well_formed (whole_component s f r c h k l) = rw (le-leb 1 f h, le-leb 1 r k, le-leb 1 c l)
asks_well_formed (subcomponent s f r c u h k l n) = rw (le-leb 1 f h, le-leb 1 r k, le-leb 1 c l)

pub asks_exactly : (a : Address) → (well_formed a ≡ true) ↔ Asks a
asks_exactly a = (well_formed_asks a, asks_well_formed)

-- ---- lookups

-- the checks of a lookup, by what each gave
abbrev checks : Check → Bool → Option Part → Check
checks read formed part = or_else read (or_else (fails_if (not formed) BadAddress 0) (or_else (fails_if (is_absent part) BadAddress 0) passes))

lookup_checks : (m : List ℕ) (a : Address) → lookup_check m a ≡ checks (reading m) (well_formed a) (segment_at m a.segment)
unfolding lookup_check
lookup_checks m a = refl

module _ (m : List ℕ) (a : Address) where
  told : {c : Check} {w : Bool} {p : Option Part} → reading m ≡ c → well_formed a ≡ w → segment_at m a.segment ≡ p → checked (found m a) ≡ checks c w p
  unfolding found
  told e f g = checked_given (lookup_check m a) _ ∙ lookup_checks m a ∙ rw (e, f, g)

  -- so the number is what the checks give
  numbered : {c : Check} {w : Bool} {p : Option Part} → reading m ≡ c → well_formed a ≡ w → segment_at m a.segment ≡ p → number_given (found m a) ≡ number_given (checks c w p)
  numbered e f g = number_checked (found m a) ∙ ap (λ (x : Check). number_given x) (told e f g)

  no_segment : length (segments m) ≤ a.segment → segment_at m a.segment ≡ None
  unfolding segment_at
  no_segment h = standing_absent 0 (segments m) a.segment h

  abbrev Nothing : Type 0
  Nothing = (Asks a → ⊥) ⊎ (length (segments m) ≤ a.segment)

  -- 19, "bad address, or no such segment"
  pub refused_exactly : (number_given (found m a) ≡ 19) ↔ ((reading m ≡ passes) × ((Asks a → ⊥) ⊎ (length (segments m) ≤ a.segment)))
  refused_exactly = (at (reading m) refl (well_formed a) refl (segment_at m a.segment) refl, λ h. back h.0 h.1 (well_formed a) refl)
    where
      at : (c : Check) → reading m ≡ c → (w : Bool) → well_formed a ≡ w → (p : Option Part) → segment_at m a.segment ≡ p → number_given (found m a) ≡ 19 → (reading m ≡ passes) × Nothing
      at (Err fault) e w f p g q =
          let n = subst (Numbered 1 8) e (reading_numbered m) in
          let l = n.1 in
          let z = sym (numbered e f g) ∙ q in
          absurd (omega arith)
      at (Ok _) e false f p g q = (e, inl (λ asks. false_true (sym f ∙ asks_well_formed asks)))
      at (Ok _) e true f None g q = (e, inr (segment_past m a.segment g))
      at (Ok _) e true f (Some part) g q = absurd (let z = sym (numbered e f g) ∙ q in omega arith)

      back : reading m ≡ passes → Nothing → (w : Bool) → well_formed a ≡ w → number_given (found m a) ≡ 19
      back e h false f = numbered e f refl
      back e h true f = ⊎_elim (λ n. absurd (n (well_formed_asks a f))) (λ l. numbered e f (no_segment l)) h

  -- nothing is refused where the message was read, the address asks for something and the segment is there
  pub answered_exactly : (checked (found m a) ≡ passes) ↔ ((reading m ≡ passes) × Asks a × (a.segment < length (segments m)))
  answered_exactly = (at (reading m) refl (well_formed a) refl (segment_at m a.segment) refl, λ h. back h (segment_at m a.segment) refl)
    where
      at : (c : Check) → reading m ≡ c → (w : Bool) → well_formed a ≡ w → (p : Option Part) → segment_at m a.segment ≡ p → checked (found m a) ≡ passes
          → (reading m ≡ passes) × Asks a × (a.segment < length (segments m))
      at (Err fault) e w f p g q =
          absurd (never_both (sym (sym (told e f g) ∙ q)))
      at (Ok _) e false f p g q = absurd (never_both (sym (sym (told e f g) ∙ q)))
      at (Ok _) e true f None g q = absurd (never_both (sym (sym (told e f g) ∙ q)))
      at (Ok _) e true f (Some part) g q = (e, well_formed_asks a f, (segment_bytes m a.segment part.start part.end g).0)

      back : (reading m ≡ passes) × Asks a × (a.segment < length (segments m)) → (p : Option Part) → segment_at m a.segment ≡ p → checked (found m a) ≡ passes
      back h None g = absurd (let l = segment_past m a.segment g in let k = h.2 in omega arith)
      back h (Some part) g = told h.0 (asks_well_formed h.1) g

  -- such a lookup passes all its checks
  pub lookup_passes : checked (found m a) ≡ passes → lookup_check m a ≡ passes
  lookup_passes done = at (answered_exactly.0 done) (segment_at m a.segment) refl
    where
      at : (reading m ≡ passes) × Asks a × (a.segment < length (segments m)) → (p : Option Part) → segment_at m a.segment ≡ p → lookup_check m a ≡ passes
      at h None g = absurd (let l = segment_past m a.segment g in let k = h.2 in omega arith)
      at h (Some part) g = lookup_checks m a ∙ rw (h.0, asks_well_formed h.1, g)
