-- Demand 1: "Every entry point takes any input, ends, and answers or refuses by the number in the table." Of the reader: a message is accepted exactly where it is
-- one, and refused exactly by its own first fault, at that fault's own place. Assumes nothing.
use mathlib.Core.Path.{◌≡◌, sym}
use mathlib.Core.Logic.{◌↔◌}
use mathlib.Core.List.{List, ◌++◌}
use Prim.Native.Nat.{ℕ, ◌<◌}
use lib.ListN.{length}
use borrow.Author.Tests.{le-leb}
use Rattle.std.specs.Prelude.{Err}
use Rattle.alphabet.specs.Answers.{passes, fails, checked}
use Rattle.alphabet.specs.Bytes.{allowed, capital, hex_of}
use Rattle.alphabet.specs.Delimiters.{permitted}
use Rattle.alphabet.specs.declared.answers.Refusal.{Refusal}
use Rattle.reading.specs.Reading.{reading}
use Rattle.reading.specs.Segments.{capital_or_digit}
use Rattle.reading.specs.Message.{Message}
use Rattle.reading.proofs.Accepted.{accepted, accepting}
use Rattle.element.specs.Finding.{found, raw_bytes, element_bytes}
use Rattle.element.specs.declared.address.Address.{Address}
use Rattle.fault.specs.Faults.{plain, Judgement}
use Rattle.structure.specs.Structures.{built_in}
use Rattle.structure.specs.Judged.{Answers}
use Rattle.laws.proofs.Chosen as Chosen
use Rattle.laws.proofs.FoundLaws.{shown_is, four_long}
use Rattle.grammars.specs.Faulty.{Faulty}
use Rattle.grammars.specs.Tables.{member_of, marked, allowed_bytes, permitted_delimiters, capitals, digits, hex_number}
use Rattle.grammars.proofs.FaultyLaws.{refused_so, faulty_so}
use Rattle.grammars.proofs.TableLaws.{allowed_table, permitted_table, capital_table, name_table, hex_table}

pub read_accepts_exactly : (m : List ℕ) → (reading m ≡ passes) ↔ Message m
read_accepts_exactly m = (accepted m, accepting m)

pub read_refuses_exactly : (m : List ℕ) (kind : Refusal) (place : ℕ) → (reading m ≡ fails kind place) ↔ Faulty m kind place
read_refuses_exactly m kind place = (refused_so m kind place, faulty_so m)

-- ---- "Lookup: a reading fault" and "Judges answer a reading fault first": the same fault at the same place, and nothing else

pub find_unread : (m : List ℕ) (a : Address) (kind : Refusal) (place : ℕ) → reading m ≡ fails kind place
    → found m a ≡ fails kind place
find_unread = Chosen.find_unread

pub judge_unread : (m : List ℕ) (kind : Refusal) (place : ℕ) {j : Judgement} → reading m ≡ fails kind place → Answers m j → j ≡ Err (plain kind place)
judge_unread m kind place e a = Chosen.judge_unread built_in m kind place e a

-- what the raw bytes of an address are: those of the element, where it is found
pub raw_is_element : (m : List ℕ) (a : Address) → checked (found m a) ≡ passes → raw_bytes m a ≡ element_bytes m a
unfolding raw_bytes
raw_is_element m a done = rw (le-leb 4 (length m) (four_long m a done)) (sym (shown_is m a done))

-- ---- which bytes: the tests are the document's tables, for each of the 256

pub allowed_bytes_lem : (b : ℕ) → b < 256 → allowed b ≡ marked allowed_bytes b
allowed_bytes_lem = allowed_table

pub permitted_bytes : (b : ℕ) → b < 256 → permitted b ≡ member_of b permitted_delimiters
permitted_bytes = permitted_table

pub name_bytes : (b : ℕ) → b < 256 → (capital b ≡ member_of b capitals) × (capital_or_digit b ≡ member_of b (capitals ++ digits))
name_bytes b h = (capital_table b h, name_table b h)

pub hex_bytes : (b : ℕ) → b < 256 → hex_of b ≡ hex_number b
hex_bytes = hex_table
