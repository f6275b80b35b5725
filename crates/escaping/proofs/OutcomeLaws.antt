-- The outcome of escaping, case by case, and what the measure says of it. Assumes nothing.
use mathlib.Core.Path.{◌≡◌, refl, sym, ap, ◌∙◌}
use mathlib.Core.List.{List, [], ◌∷◌}
use mathlib.Core.Bool.{Bool, true, false, cond, not}
use Prim.Native.Nat.{ℕ, ◌+◌, ◌-◌, ◌*◌, ◌/◌, ◌%◌, ◌≤◌, ◌<◌}
use native.Mathlib.Omega.{arith}
use lib.Dec.{leb, ltb}
use lib.ListN.{length, get_or, length-append}
use borrow.Author.Tests.{leb-true, leb-false, ltb-true, ltb-false, lt-ltb, le-ltb, le-leb, lt-leb}
use Rattle.std.specs.Prelude.{Some, None, Ok, Err}
use Rattle.alphabet.specs.Lists.{find}
use Rattle.alphabet.specs.Bytes.{printable, hex_digit, is_null}
use Rattle.alphabet.specs.Filling.{over}
use Rattle.alphabet.specs.Delimiters.{first_wrong_delimiter}
use Rattle.alphabet.specs.Answers.{Refusable, passes, fails_if}
use Rattle.alphabet.specs.declared.answers.Fault.{Fault}
use Rattle.alphabet.specs.declared.answers.Refusal.TheVariants.{Delimiter, NoRoom}
use Rattle.alphabet.proofs.CheckLaws.{passes_not}
use Rattle.alphabet.proofs.NullLaws.{two_quotes_lem}
use Rattle.escaping.specs.Escape.{letters, escape_of, escape_byte, escape_bytes, two_quotes, escape}
use Rattle.escaping.specs.Outcomes.{Outcome, text, fault, delimiters_check, fitting, escaping, answer, filled, room_for}

-- from the outcome to the answer and the buffer
pub ended : (o o' : Outcome ℕ) (d : List ℕ) → o ≡ o' → (answer o' ≡ answer o) × (filled o' d ≡ filled o d)
ended o o' d e = (ap answer (sym e), ap (λ (x : Outcome ℕ). filled x d) (sym e))

-- a refusal is told, and leaves the buffer as it was
pub refused : {o : Outcome ℕ} {e : Fault} (d : List ℕ) → o ≡ Err e → (answer o ≡ Err e) × (filled o d ≡ d)
unfolding answer filled
refused d q = (ap answer q, ap (λ (x : Outcome ℕ). filled x d) q)

-- a text has its length told, and fills the front of the buffer
pub told : {o : Outcome ℕ} {w : List ℕ} (d : List ℕ) → o ≡ text w → (answer o ≡ Ok (length w)) × (filled o d ≡ over w d)
unfolding answer filled
told d q = (ap answer q, ap (λ (x : Outcome ℕ). filled x d) q)

-- a fault that a check found is one of any other answer
fault_or : {T : Type 0} → Fault → Refusable T → Fault
fault_or other (Ok _) = other
fault_or other (Err f) = f

pub fault_same : {T U : Type 0} {e f : Fault} → ◌≡◌ {A = Refusable T} (Err e) (Err f) → ◌≡◌ {A = Refusable U} (Err e) (Err f)
unfolding fault_or
fault_same {T = T} {e = e} q = ap (λ (c : Refusable T). Err (fault_or e c)) q

pub never_stops : {f : Fault} → passes ≡ Err f → ⊥
never_stops q = absurd (let z : ◌≡◌ {A = ℕ} 0 1 = cc in omega arith)

-- ---- whether something goes into a room

pub room_takes : (room n : ℕ) → n ≤ room → Some n ≡ room_for room n
unfolding room_for
room_takes room n h = rw (le-leb _ _ h)

pub room_short : (room n : ℕ) → room < n → None ≡ room_for room n
unfolding room_for
room_short room n h = rw (lt-leb _ _ h)

-- that it does not is that the room is less
pub over_room : (n room : ℕ) → not (leb n room) ≡ ltb room n
over_room n room = at (leb n room) refl
  where
    at : (t : Bool) → leb n room ≡ t → not t ≡ ltb room n
    at true e = sym (le-ltb _ _ (leb-true _ _ e))
    at false e = sym (lt-ltb _ _ (leb-false _ _ e))

-- and whether more does, once n of it is taken
pub room_left : (room n m : ℕ) → n ≤ room → leb m (room - n) ≡ leb (n + m) room
room_left room n m h = at (leb m (room - n)) refl
  where
    at : (t : Bool) → leb m (room - n) ≡ t → leb m (room - n) ≡ leb (n + m) room
    at true e = e ∙ sym (le-leb (n + m) room (omega (arith, leb-true m (room - n) e)))
    at false e = e ∙ sym (lt-leb (n + m) room (omega (arith, leb-false m (room - n) e)))

-- what room_for says
pub takes_is : (room n m : ℕ) → Some m ≡ room_for room n → (m ≡ n) × (n ≤ room)
unfolding room_for
takes_is room n m e = at (leb n room) refl e
  where
    at : (t : Bool) → leb n room ≡ t → Some m ≡ cond t (Some n) None → (m ≡ n) × (n ≤ room)
    at true h q = (cc, leb-true n room h)
    at false h q = absurd (let z : ◌≡◌ {A = ℕ} 0 1 = cc in omega arith)

pub short_is : (room n : ℕ) → None ≡ room_for room n → room < n
unfolding room_for
short_is room n e = at (leb n room) refl e
  where
    at : (t : Bool) → leb n room ≡ t → None ≡ cond t (Some n) None → room < n
    at true h q = absurd (let z : ◌≡◌ {A = ℕ} 0 1 = cc in omega arith)
    at false h q = leb-false n room h

-- ---- the outcome of escaping

pub escape_null : (ds t : List ℕ) → is_null t ≡ true → escape ds t ≡ two_quotes ds
unfolding escape
escape_null ds t e = rw e

pub escape_other : (ds t : List ℕ) → is_null t ≡ false → escape ds t ≡ escape_bytes ds t
unfolding escape
escape_other ds t e = rw e

-- a byte is written as five at most
pub byte_most : (ds : List ℕ) (b : ℕ) → length (escape_byte ds b) ≤ 5
unfolding escape_byte
byte_most ds b = at (ltb (find b ds) 5) (printable b)
  where
    at : (s t : Bool) → length (cond s (escape_of ds ∷ get_or letters (find b ds) 0 ∷ escape_of ds ∷ []) (cond t (b ∷ []) (escape_of ds ∷ 88 ∷ hex_digit (b / 16) ∷ hex_digit (b % 16) ∷ escape_of ds ∷ []))) ≤ 5
    at true t = omega arith
    at false true = omega arith
    at false false = omega arith

pub bytes_most : (ds t : List ℕ) → length (escape_bytes ds t) ≤ 5 * length t
unfolding escape_bytes
bytes_most ds [] = omega arith
bytes_most ds (b ∷ r) = omega (arith, byte_most ds b, bytes_most ds r, length-append (escape_byte ds b) (escape_bytes ds r))

pub escape_most : (ds t : List ℕ) → length (escape ds t) ≤ 5 * length t
unfolding escape
escape_most ds t = at (is_null t) refl
  where
    at : (n : Bool) → is_null t ≡ n → length (cond n (two_quotes ds) (escape_bytes ds t)) ≤ 5 * length t
    at true e = omega (arith, ap length (two_quotes_lem t e))
    at false e = bytes_most ds t

-- the delimiters decide first
pub escaping_stops : (ds t : List ℕ) (room : ℕ) {e : Fault} → delimiters_check ds ≡ Err e → escaping ds t room ≡ Err e
unfolding escaping
escaping_stops ds t room {e} q = at (ltb (first_wrong_delimiter ds) 5) q
  where
    at : (b : Bool) → fails_if b Delimiter (first_wrong_delimiter ds) ≡ Err e → cond b (fault Delimiter (first_wrong_delimiter ds)) (fitting room (text (escape ds t))) ≡ Err e
    at true q = fault_same q
    at false q = absurd (never_stops q)

pub escaping_goes : (ds t : List ℕ) (room : ℕ) → delimiters_check ds ≡ passes → escaping ds t room ≡ fitting room (text (escape ds t))
unfolding escaping
escaping_goes ds t room q = rw (passes_not _ _ _ q)

-- and then the room
pub fitting_stops : (room : ℕ) (t : List ℕ) {b : Bool} {e : Fault} → b ≡ ltb room (length t) → fails_if b NoRoom 0 ≡ Err e → fitting room (text t) ≡ Err e
unfolding fitting
fitting_stops room t {b = true} h q = rw (lt-leb _ _ (ltb-true room _ (sym h))) (fault_same q)
fitting_stops room t {b = false} h q = absurd (never_stops q)

pub fitting_goes : (room : ℕ) (t : List ℕ) {b : Bool} → b ≡ ltb room (length t) → fails_if b NoRoom 0 ≡ passes → fitting room (text t) ≡ text t
unfolding fitting
fitting_goes room t {b} h q = rw (le-leb _ _ (ltb-false room _ (sym h ∙ passes_not b NoRoom 0 q)))

-- ---- what becomes of a text, as a proof about its bytes has it

pub escaping_fits : (ds t w : List ℕ) (room : ℕ) → 5 ≤ first_wrong_delimiter ds → escape ds t ≡ w → length w ≤ room → escaping ds t room ≡ text w
unfolding escaping fitting
escaping_fits ds t w room h e l = rw (le-ltb _ _ h) (rw e (rw (le-leb _ _ l)))
