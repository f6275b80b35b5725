-- An element that was found, where nothing is refused: it is what stands at its address, and is shown with its bytes. Assumes nothing.
use mathlib.Core.Path.{◌≡◌, refl, sym, ap, subst, subst₂, ◌∙◌}
use mathlib.Core.List.{List}
use mathlib.Core.Logic.{◌↔◌}
use Prim.Native.Nat.{ℕ, ◌+◌, ◌≤◌}
use native.Mathlib.Omega.{arith}
use lib.ListN.{length}
use Rattle.std.specs.Prelude.{None, Some, Option}
use Rattle.alphabet.specs.Parts.{from_to}
use Rattle.alphabet.specs.Answers.{Refusable, passes, checked}
use Rattle.alphabet.specs.declared.parts.Part.{Part}
use Rattle.reading.specs.Message.{Message}
use Rattle.reading.specs.Segments.{delimiters_of, segment_at}
use Rattle.reading.proofs.SegmentLaws.{segment_past}
use Rattle.element.specs.Finding.{element_in, element_of, found, element_bytes, part_bytes, element_found}
use Rattle.element.specs.Levels.{between, element_at}
use Rattle.element.specs.States.{state_of}
use Rattle.element.specs.declared.Element.{Element}
use Rattle.element.specs.declared.address.Address.{Address}
use Rattle.element.specs.declared.states.State.{State}
use Rattle.element.specs.declared.states.State.TheVariants.{Absent as no_part}
use Rattle.element.proofs.FindingLaws.{lookup_read, found_passes, shown}
use Rattle.element.proofs.LevelLaws.{Within, between_length, within_element}
use Rattle.laws.specs.Elements.{levels, start_of, Past, SplitFurther}
use Rattle.laws.specs.Means.{Means, null, empty, present}
use Rattle.laws.proofs.Asking.{answered_exactly, lookup_passes}
use Rattle.laws.proofs.ElementLaws.{state_means}
use Rattle.laws.proofs.LevelBytes.{level_bytes, element_begins, past_exactly}
use Rattle.laws.proofs.LevelStarts.{Begins}

-- bytes that are there are not absent
pub means_there : (ds bytes : List ℕ) (s : State) → Means ds bytes s → s ≡ no_part → ⊥
means_there ds bytes s (null p) e = let z : ◌≡◌ {A = ℕ} 0 1 = cc in omega arith
means_there ds bytes s (empty p q) e = let z : ◌≡◌ {A = ℕ} 0 1 = cc in omega arith
means_there ds bytes s (present p q) e = let z : ◌≡◌ {A = ℕ} 0 1 = cc in omega arith

module _ (m : List ℕ) (a : Address) (done : checked (found m a) ≡ passes) where
  pub was_read : Message m
  was_read = lookup_read m a (lookup_passes m a done)

  pub segment_stands : segment_at m a.segment ≡ None → ⊥
  segment_stands q =
      let l = ((answered_exactly m a).0 done).2 in
      let n = segment_past m a.segment q in
      omega arith

  pub four_long : 4 ≤ length m
  four_long = let n = was_read.opened.nine_bytes in omega arith

  pub element_is : (element_found (found m a)) ≡ element_in m (element_at m a)
  unfolding element_of
  element_is = sym (ap (λ (f : Refusable Element). element_found f) (found_passes m a passes (sym (lookup_passes m a done)) refl))

  pub stands_within : (s e : ℕ) → element_at m a ≡ from_to s e → (s ≤ e) × (e ≤ length m)
  stands_within s e q = subst (Within m) q (within_element m a four_long)

  pub shown_is : element_bytes m a ≡ part_bytes m (element_at m a)
  shown_is = shown m a ∙ ap (λ (x : Element). between m x.start x.end) element_is ∙ at (element_at m a)
    where
      at : (p : Option Part) → between m (element_in m p).start (element_in m p).end ≡ part_bytes m p
      at None = refl
      at (Some part) = refl

  pub state_at : (s e : ℕ) → element_at m a ≡ from_to s e → (element_found (found m a)).state ≡ state_of (delimiters_of m) (between m s e)
  state_at s e q = ap (λ (x : Element). x.state) (element_is ∙ ap (element_in m) q)

  pub place_at : (s e : ℕ) → element_at m a ≡ from_to s e → ((element_found (found m a)).start ≡ s) × ((element_found (found m a)).end ≡ e)
  place_at s e q =
      let i = element_is ∙ ap (element_in m) q in
      (ap (λ (x : Element). x.start) i, ap (λ (x : Element). x.end) i)

  -- its state says that it is absent exactly where it stands nowhere
  pub absent_nowhere : ((element_found (found m a)).state ≡ no_part) ↔ (element_at m a ≡ None)
  absent_nowhere = (at (element_at m a) refl, λ q. ap (λ (x : Element). x.state) (element_is ∙ ap (element_in m) q))
    where
      at : (p : Option Part) → element_at m a ≡ p → (element_found (found m a)).state ≡ no_part → element_at m a ≡ None
      at None q f = q
      at (Some part) q f = absurd (means_there (delimiters_of m) (between m part.start part.end) (state_of (delimiters_of m) (between m part.start part.end)) (state_means (delimiters_of m) (between m part.start part.end)) (sym (state_at part.start part.end q) ∙ f))

  -- level by level, where the field is split further
  pub bytes_by_levels : SplitFurther a → element_bytes m a ≡ levels m a
  bytes_by_levels further = shown_is ∙ level_bytes m a four_long further

  pub absent_by_levels : SplitFurther a → ((element_found (found m a)).state ≡ no_part) ↔ Past m a
  absent_by_levels further =
      let past = past_exactly m a four_long further segment_stands in
      ((λ e. past.0 (absent_nowhere.0 e)), (λ p. absent_nowhere.1 (past.1 p)))

  pub state_by_levels : SplitFurther a → (Past m a → ⊥) → Means (delimiters_of m) (levels m a) (element_found (found m a)).state
  state_by_levels further there = at (element_at m a) refl
    where
      at : (p : Option Part) → element_at m a ≡ p → Means (delimiters_of m) (levels m a) (element_found (found m a)).state
      at None q = absurd (there ((absent_by_levels further).0 (absent_nowhere.1 q)))
      at (Some part) q =
          let bytes : between m part.start part.end ≡ levels m a = ap (part_bytes m) (sym q) ∙ level_bytes m a four_long further in
          subst₂ (Means (delimiters_of m)) bytes (sym (state_at part.start part.end q)) (state_means (delimiters_of m) (between m part.start part.end))

  pub place_by_levels : SplitFurther a → (Past m a → ⊥) → ((element_found (found m a)).start ≡ start_of m a) × ((element_found (found m a)).end ≡ start_of m a + length (levels m a))
  place_by_levels further there = at (element_at m a) refl
    where
      at : (p : Option Part) → element_at m a ≡ p → ((element_found (found m a)).start ≡ start_of m a) × ((element_found (found m a)).end ≡ start_of m a + length (levels m a))
      at None q = absurd (there ((absent_by_levels further).0 (absent_nowhere.1 q)))
      at (Some part) q =
          let start : part.start ≡ start_of m a = subst (λ (p : Option Part). Begins p (start_of m a)) q (element_begins m a four_long further) in
          let w = stands_within part.start part.end q in
          let w0 = w.0 in
          let n = between_length m part.start part.end w0 w.1 in
          let bytes : length (between m part.start part.end) ≡ length (levels m a) = ap (λ (p : Option Part). length (part_bytes m p)) (sym q) ∙ ap length (level_bytes m a four_long further) in
          let end : part.end ≡ start_of m a + length (levels m a) = omega arith in
          let place = place_at part.start part.end q in
          (place.0 ∙ start, place.1 ∙ end)
