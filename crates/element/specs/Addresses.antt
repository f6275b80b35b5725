-- The address of an element, by document 01, 'Elements'.
use Rattle.std.specs.Prelude.{ℕ, Bool, not, ◌&&◌, ◌||◌, leb, eqb}
use Rattle.alphabet.specs.Answers.{fails_if, Check}
use Rattle.alphabet.specs.declared.answers.Refusal.{Refusal}
use Rattle.element.specs.declared.address.Address.{Address}

-- "field (from 1)"; "(from 1; 0 means the whole, and after a 0 only 0 may stand)"
abbrev pub well_formed : Address → Bool
well_formed a =
    leb 1 a.field
    && ((leb 1 a.repetition || eqb a.component 0) && (leb 1 a.component || eqb a.subcomponent 0))

-- 19: "bad address"
abbrev pub address_check : Address → Check
address_check a = fails_if (not (well_formed a)) Refusal.Address 0

-- "components 1 and 2 of MSH-9, repetition 1": where component k of a message's type stands
abbrev pub type_address : ℕ → Address
type_address k = record { segment = 0; field = 9; repetition = 1; component = k; subcomponent = 0 }
