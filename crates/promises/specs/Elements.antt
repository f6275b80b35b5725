-- What demand 2 says of an element: its state, where it stands, and its own bytes. What an address asks for, which
-- bytes are those of its levels, where they begin and when it is past them is said in crates/laws/specs/Elements.antt,
-- and what each state says of bytes in Means.antt beside it.
use Rattle.alphabet.specs.Parts.{from_to}
use Rattle.std.specs.Prelude.{ℕ, ◌≤◌, ◌≡◌, List, length, None}
use Rattle.reading.specs.Segments.{delimiters_of}
use Rattle.element.specs.Finding.{nowhere, element_bytes}
use Rattle.element.specs.Levels.{between, element_at}
use Rattle.element.specs.declared.Element.{Element}
use Rattle.element.specs.declared.address.Address.{Address}
use Rattle.element.specs.declared.states.State.{State}
use Rattle.laws.specs.Means.{Means}

-- "each element absent, empty, null or present, with exactly its own bytes": it stands nowhere, and is absent; or it
-- stands from s up to e, is in the state that the bytes there mean, and is shown with those bytes
pub data StateIs (m : List ℕ) (a : Address) : Element → Type 0 where
  absent : element_at m a ≡ None → StateIs m a nowhere
  stands : (s e : ℕ) (state : State) → element_at m a ≡ from_to s e → s ≤ e → e ≤ length m → Means (delimiters_of m) (between m s e) state → element_bytes m a ≡ between m s e
      → StateIs m a (record { state = state; start = s; end = e })
