-- Demand 2, of elements: "each element absent, empty, null or present, with exactly its own bytes". Assumes nothing.
use mathlib.Core.Path.{◌≡◌, refl, sym, ap, subst, ◌∙◌}
use mathlib.Core.List.{List, [], ◌∷◌}
use mathlib.Core.Logic.{◌⊎◌, ◌↔◌}
use Prim.Native.Nat.{ℕ, ◌+◌, ◌≤◌, ◌<◌}
use lib.ListN.{length, get_or}
use Rattle.std.specs.Prelude.{None, Some, Option}
use Rattle.alphabet.specs.Answers.{passes, checked, number_given}
use Rattle.alphabet.specs.declared.parts.Part.{Part}
use Rattle.reading.specs.Reading.{reading}
use Rattle.reading.specs.Segments.{delimiters_of, segments}
use Rattle.element.specs.Finding.{element_in, found, element_bytes, part_bytes, element_found}
use Rattle.element.specs.Levels.{between, element_at}
use Rattle.element.specs.States.{state_of}
use Rattle.element.specs.declared.address.Address.{Address}
use Rattle.element.specs.declared.states.State.TheVariants.{Absent as IsAbsent, Present as IsPresent}
use Rattle.leaves.specs.Leaves.{Leaf, leaves_of}
use Rattle.laws.specs.Elements.{Asks, levels, start_of, Past, SplitFurther, NoneBeyondOne}
use Rattle.laws.specs.Held.{JudgedByElements}
use Rattle.laws.specs.Listing.{In, FoundAt, Rising}
use Rattle.laws.specs.Means.{Means}
use Rattle.laws.proofs.Agreement.{judged_by_elements}
use Rattle.laws.proofs.Asking.{answered_exactly, refused_exactly}
use Rattle.laws.proofs.ElementLaws.{state_means}
use Rattle.laws.proofs.EveryLeaf.{leaf_exactly}
use Rattle.laws.proofs.LeafOrder.{leaves_rising, leaves_only}
use Rattle.laws.proofs.FoundLaws.{element_is, stands_within, shown_is, bytes_by_levels, absent_by_levels, state_by_levels, place_by_levels}
use Rattle.laws.proofs.HeaderElements.{separator_found, encoding_found, separator_place, encoding_place, more_absent}
use Rattle.promises.specs.Elements.{StateIs, absent, stands}

-- ---- "An element is asked for by segment (from 0), field (from 1), repetition, component, subcomponent"

-- an element is found exactly where the message was read, the address asks for something and its segment is there
pub found_exactly : (m : List ℕ) (a : Address) → (checked (found m a) ≡ passes) ↔ ((reading m ≡ passes) × Asks a × (a.segment < length (segments m)))
found_exactly = answered_exactly

-- 19, exactly where the message was read: "bad address, or no such segment"
pub address_refused : (m : List ℕ) (a : Address) → (number_given (found m a) ≡ 19) ↔ ((reading m ≡ passes) × ((Asks a → ⊥) ⊎ (length (segments m) ≤ a.segment)))
address_refused = refused_exactly

module _ (m : List ℕ) (a : Address) (done : checked (found m a) ≡ passes) where
  -- ---- the four states

  pub four_states : StateIs m a (element_found (found m a))
  four_states = subst (StateIs m a) (sym (element_is m a done)) (at (element_at m a) refl)
    where
      at : (p : Option Part) → element_at m a ≡ p → StateIs m a (element_in m p)
      at None q = absent q
      at (Some part) q =
          let w = stands_within m a done part.start part.end q in
          stands part.start part.end (state_of (delimiters_of m) (between m part.start part.end)) q w.0 w.1 (state_means (delimiters_of m) (between m part.start part.end)) (shown_is m a done ∙ ap (part_bytes m) q)

  -- ---- all fields but MSH-1 and MSH-2

  -- "exactly its own bytes": those of its part of the split, level by level
  pub exact_bytes : SplitFurther a → element_bytes m a ≡ levels m a
  exact_bytes = bytes_by_levels m a done

  -- "absent, past the last part": exactly where some level has fewer parts than the number asked for
  pub absent_exactly : SplitFurther a → ((element_found (found m a)).state ≡ IsAbsent) ↔ Past m a
  absent_exactly = absent_by_levels m a done

  -- elsewhere it is in the state that those bytes mean
  pub state_exactly : SplitFurther a → (Past m a → ⊥) → Means (delimiters_of m) (levels m a) (element_found (found m a)).state
  state_exactly = state_by_levels m a done

  -- and it stands where that part does: the same bytes can stand in another part too, so that they alone do not say where
  pub place_exactly : SplitFurther a → (Past m a → ⊥) → ((element_found (found m a)).start ≡ start_of m a) × ((element_found (found m a)).end ≡ start_of m a + length (levels m a))
  place_exactly = place_by_levels m a done

  -- ---- "Field 1 of MSH is the separator byte, field 2 the four encoding bytes, neither split further"

  -- "(repetition, component and subcomponent 0 or 1 give the whole"
  pub separator_field : a.segment ≡ 0 → a.field ≡ 1 → NoneBeyondOne a → (element_bytes m a ≡ get_or m 3 0 ∷ []) × ((element_found (found m a)).state ≡ IsPresent)
  separator_field = separator_found m a done

  pub encoding_field : a.segment ≡ 0 → a.field ≡ 2 → NoneBeyondOne a
      → (element_bytes m a ≡ get_or m 4 0 ∷ get_or m 5 0 ∷ get_or m 6 0 ∷ get_or m 7 0 ∷ []) × ((element_found (found m a)).state ≡ IsPresent)
  encoding_field = encoding_found m a done

  -- they stand behind the name: byte 3, and bytes 4 to 7
  pub separator_stands : a.segment ≡ 0 → a.field ≡ 1 → NoneBeyondOne a → ((element_found (found m a)).start ≡ 3) × ((element_found (found m a)).end ≡ 4)
  separator_stands = separator_place m a done

  pub encoding_stands : a.segment ≡ 0 → a.field ≡ 2 → NoneBeyondOne a → ((element_found (found m a)).start ≡ 4) × ((element_found (found m a)).end ≡ 8)
  encoding_stands = encoding_place m a done

  -- "more is absent)"
  pub no_more_parts : a.segment ≡ 0 → a.field ≤ 2 → (NoneBeyondOne a → ⊥) → (element_found (found m a)).state ≡ IsAbsent
  no_more_parts = more_absent m a done

-- ---- the list of all leaves has no answers of its own: its rows are exactly what a lookup finds at full addresses, where nothing is refused or absent

pub leaves_exactly : (m : List ℕ) → reading m ≡ passes → (l : Leaf) → In l (leaves_of m) ↔ FoundAt m l
leaves_exactly = leaf_exactly

-- in the order in which they begin, each once
pub leaves_in_order : (m : List ℕ) → reading m ≡ passes → Rising 0 (leaves_of m)
leaves_in_order = leaves_rising

-- and no other list is so
pub leaves_one_list : (m : List ℕ) → reading m ≡ passes → (ls : List Leaf) → Rising 0 ls → ((l : Leaf) → In l ls ↔ FoundAt m l) → ls ≡ leaves_of m
leaves_one_list = leaves_only

-- ---- the field judge reads the same: what it looks at in each segment are the elements that a lookup finds there

pub judged_elements : (m : List ℕ) → reading m ≡ passes → JudgedByElements m
judged_elements = judged_by_elements
