-- Demand 1: "Any bytes may arrive. Every entry point takes any input, ends, and answers or refuses by the number in the table. After a refusal every
-- buffer lent holds the bytes it held before." Of the frame reader alone, whose frames are gathered over several calls, document 02, W1 says in place of the last
-- sentence: "each place of the lent buffer holds the byte last gathered there, or what it held at first"; its 14 leaves the buffer as every other refusal does.
-- That every function takes any input, ends and stays in bounds is what the checker says of each, since none has a `requires`; these are the numbers and the
-- buffers, of what the contracts cite, for all inputs. Reading.antt says when the reader gives which number, and where. Assumes nothing.
use mathlib.Core.Path.{◌≡◌, refl}
use mathlib.Core.List.{List}
use Prim.Native.Nat.{ℕ}
use lib.ListN.{length, get_or, take}
use Rattle.std.specs.Prelude.{Ok, Err, IsOk}
use Rattle.alphabet.specs.Answers.{Refusable, number_given, place_given, length_given}
use Rattle.alphabet.specs.declared.answers.Refusal.TheVariants.{NoRoom}
use Rattle.reading.specs.Reading.{reading}
use Rattle.element.specs.Finding.{found}
use Rattle.element.specs.declared.address.Address.{Address}
use Rattle.value.specs.Asked.{number_told, nm_found, si_found, dt_found, tm_found, ts_found}
use Rattle.frames.specs.declared.state.FrameState.{FrameState}
use Rattle.frames.specs.Wire.{frame_limit}
use Rattle.frames.specs.Feeding.{fed}
use Rattle.frames.specs.Gathered.{gathered, last_at}
use Rattle.escaping.specs.Outcomes.{Outcome}
use Rattle.escaping.specs.Outcomes.{escaping, answer, filled}
use Rattle.text.specs.Unescape.{unescaping}
use Rattle.formatting.specs.Formatting.{formatting}
use Rattle.structure.specs.Listed.{In}
use Rattle.structure.specs.Judged.{Answers}
use Rattle.fault.specs.Faults.{Judgement, number_judged}
use Rattle.verdict.specs.Verdicts.{Verdicts}
use Rattle.acknowledgement.specs.Acknowledgement.{Acknowledges}
use Rattle.acknowledgement.proofs.AnswerLaws.{refusal_leaves}
use Rattle.laws.specs.Entries.{of_reading, of_finding, of_nm, of_form, of_escaping, of_unescaping, of_formatting, of_structure, of_verdict, of_acknowledging, of_framing}
use Rattle.laws.specs.Framed.{number_in, used_in, state_in}
use Rattle.laws.proofs.EntryNumbers as Entries
use Rattle.laws.proofs.FrameNumbers as Frames
use Rattle.laws.proofs.FramePlaces.{call_holds, call_size}
use Rattle.laws.proofs.FrameStates.{refused_leaves}

-- ---- "answers or refuses by the number in the table"

module _ (m : List ℕ) where
  pub read_numbers : In (number_given (reading m)) of_reading
  read_numbers = Entries.read_numbers m

  pub find_numbers : (a : Address) → In (number_given (found m a)) of_finding
  find_numbers = Entries.find_numbers m

  pub nm_numbers : (a : Address) → In (number_told (nm_found m a)) of_nm
  nm_numbers = Entries.nm_numbers m

  pub si_numbers : (a : Address) → In (number_told (si_found m a)) of_form
  si_numbers = Entries.si_numbers m

  pub dt_numbers : (a : Address) → In (number_told (dt_found m a)) of_form
  dt_numbers = Entries.dt_numbers m

  pub tm_numbers : (a : Address) → In (number_told (tm_found m a)) of_form
  tm_numbers = Entries.tm_numbers m

  pub ts_numbers : (a : Address) → In (number_told (ts_found m a)) of_form
  ts_numbers = Entries.ts_numbers m

  pub structure_numbers : {j : Judgement} → Answers m j → In (number_judged j) of_structure
  structure_numbers = Entries.structure_numbers m

  pub verdict_numbers : {r : Judgement} → Verdicts m r → In (number_judged r) of_verdict
  verdict_numbers = Entries.verdict_numbers m

  pub acknowledge_numbers : (time id lent : List ℕ) {r : Refusable ℕ} {x : List ℕ} → Acknowledges m time id lent r x → In (number_given r) of_acknowledging
  acknowledge_numbers time id lent a = Entries.acknowledge_numbers m time id lent a

pub escape_numbers : (ds t : List ℕ) (room : ℕ) → In (number_given (answer (escaping ds t room))) of_escaping
escape_numbers = Entries.escape_numbers

pub unescape_numbers : (ds s : List ℕ) (room : ℕ) → In (number_given (answer (unescaping ds s room))) of_unescaping
unescape_numbers = Entries.unescape_numbers

pub format_numbers : (ds s : List ℕ) (room : ℕ) → In (number_given (answer (formatting ds s room))) of_formatting
format_numbers = Entries.format_numbers

pub feed_numbers : (s : FrameState) (piece lent : List ℕ) → In (number_in (fed s piece lent).said) of_framing
feed_numbers = Frames.feed_numbers

-- ---- "After a refusal every buffer lent holds the bytes it held before."

pub escape_leaves : (ds t lent : List ℕ) → (IsOk (answer (escaping ds t (length lent))) → ⊥) → filled (escaping ds t (length lent)) lent ≡ lent
escape_leaves = Entries.escape_leaves

pub unescape_leaves : (ds s lent : List ℕ) → (IsOk (answer (unescaping ds s (length lent))) → ⊥) → filled (unescaping ds s (length lent)) lent ≡ lent
unescape_leaves = Entries.unescape_leaves

pub format_leaves : (ds s lent : List ℕ) → (IsOk (answer (formatting ds s (length lent))) → ⊥) → filled (formatting ds s (length lent)) lent ≡ lent
format_leaves = Entries.format_leaves

-- "A refusal gives number and place, length 0"; the place is 0 here
pub acknowledge_leaves : (m time id lent : List ℕ) {r : Refusable ℕ} {x : List ℕ} → Acknowledges m time id lent r x → (IsOk r → ⊥) → (x ≡ lent) × (place_given r ≡ 0) × (length_given r ≡ 0)
acknowledge_leaves m time id lent {r = Ok n} a some = absurd (some refl)
acknowledge_leaves m time id lent {r = Err f} a some = let l = refusal_leaves m time id lent a f refl in (l.0, l.1, refl)

pub refused_length : (o : Outcome ℕ) → (IsOk (answer o) → ⊥) → length_given (answer o) ≡ 0
unfolding answer
refused_length (Ok t) some = absurd (some refl)
refused_length (Err f) some = refl

-- ---- of the frame reader: "each place of the lent buffer holds the byte last gathered there, or what it held at first"

-- behind each call, from any state, of the bytes that it used; there are as many places as before
pub feed_holds : (s : FrameState) (piece lent : List ℕ) (i : ℕ)
    → get_or (fed s piece lent).left i 0 ≡ last_at i (gathered (frame_limit (length lent)) s (take (used_in (fed s piece lent).said) piece)) (get_or lent i 0)
feed_holds = call_holds

pub feed_size : (s : FrameState) (piece lent : List ℕ) → length (fed s piece lent).left ≡ length lent
feed_size = call_size

-- 14 leaves the state and the buffer, and uses nothing
pub feed_leaves : (s : FrameState) (piece lent : List ℕ) → (fed s piece lent).said ≡ Err NoRoom
    → (state_in s (fed s piece lent).said ≡ s) × ((fed s piece lent).left ≡ lent) × (used_in (fed s piece lent).said ≡ 0)
feed_leaves = refused_leaves
