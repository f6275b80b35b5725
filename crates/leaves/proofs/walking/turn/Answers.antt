-- Rests on the laws of a turn: the row of the leaf is written, and what is still to come begins behind it.
use Prim.Native.Nat.{ℕ, ◌≤◌, ◌<◌, ◌+◌}
use mathlib.Core.Path.{◌≡◌, refl, sym, ap, ap₂, subst, ◌∙◌}
use mathlib.Core.List.{List, [], ◌∷◌, ◌++◌}
use lib.ListN.{length, get_or, length-append}
use native.Mathlib.Omega.{arith}
use Rattle.alphabet.specs.Filling.{pasted}
use Rattle.reading.specs.Segments.{delimiters_of}
use Rattle.element.specs.Levels.{between}
use Rattle.element.specs.declared.address.Address.{Address}
use Rattle.element.proofs.LevelLaws.{between_length}
use Rattle.leaves.specs.Leaves.{rows}
use Rattle.leaves.specs.Walks.{ends_of, passed, Reached, AtMost, rest_rows, here_in, state_at, plain_state, shown, begins, Stands, Writes}
use Rattle.leaves.proofs.RowLaws.{written_more, pasted_length, pasted_nothing, here_name, here_leaf, begins_shown, state_leaf, told_name, told_leaf, own_start}
use Rattle.leaves.proofs.TurnLaws.{plain_clear, turn_rows, turn_reached, message_most}
use Rattle.leaves.proofs.walking.turn.Goals.{Else-state-eq0, Start}
use Rattle.leaves.proofs.walking.turn.Goals as goal

abbrev m : (s : Start) → List ℕ
m s = s.args.message.now

abbrev a : (s : Start) → Address
a s = s.args.walk.address

abbrev start : (s : Start) → ℕ
start s = s.args.walk.start

-- where the leaf or the name begins
abbrev from : (s : Start) → ℕ
from s = begins (a s) (start s)

abbrev end : (s : Start) → ℕ
end s = s.args.end

abbrev on : (s : Start) → Address
on s = passed (ends_of (m s)) (get_or (m s) (end s) 0) (a s)

abbrev here : (s : Start) → List ℕ
here s = rows (here_in (m s) (a s) (from s) (end s))

next : (s : Start) → rest_rows (m s) (a s) (from s) ≡ (here s) ++ rest_rows (m s) (on s) ((end s) + 1)
next s =
    let r = s.requires.1.0 in
    turn_rows (m s) s.requires.3 (a s) (from s) (end s) r.begun s.requires.0.0 r.free s.requires.0.1 r.few r.split_on

reached : (s : Start) → Reached (m s) (on s) ((end s) + 1) ((end s) + 1)
reached s =
    let r = s.requires.1.0 in
    turn_reached (m s) s.requires.3 (a s) (from s) (end s) r.begun s.requires.0.0 r.free s.requires.0.1 r.few r.split_on

room : (s : Start) → s.args.walk.at + length (here s) ≤ length s.args.buffer.now
room s =
    let n = ap length (next s) in
    let k = length-append (here s) (rest_rows (m s) (on s) ((end s) + 1)) in
    let r = s.requires.1.1 in
    omega arith

small : (s : Start) → AtMost 1048576 (a s)
small s =
    let w = s.requires.1.0.few in
    let k = s.requires.0.0 in
    let b = s.requires.1.0.begun in
    let t = message_most (m s) s.requires.3 in
    let w0 = w.0 in
    let w1 = w.1 in
    let w2 = w.2 in
    let w3 = w.3 in
    let w4 = w.4 in
    (omega arith, omega arith, omega arith, omega arith, omega arith)

low : (s : Start) → (end s) < 1048576
low s =
    let k = s.requires.0.0 in
    let t = message_most (m s) s.requires.3 in
    omega arith

-- the row of what is no name
leaf : (s : Start) → ((a s).field ≡ 0 → ⊥) → (here s) ≡ (a s).segment ∷ (a s).field ∷ (a s).repetition ∷ (a s).component ∷ (a s).subcomponent ∷ state_at (m s) (start s) (end s) ∷ (start s) ∷ (end s) ∷ []
leaf s n =
    let r = s.requires.1.0 in
    let b = r.begun in
    let k = s.requires.0.0 in
    let o = own_start (a s) (start s) n in
    let p = between (m s) (from s) (end s) in
    let l = between_length (m s) (from s) (end s) b (omega arith) in
    let e : (from s) + length p ≡ (end s) = omega arith in
    let t = state_leaf (m s) (start s) (end s) (plain_state (between (m s) (start s) (end s))) (omega arith) refl in
    here_leaf (delimiters_of (m s)) (a s) (from s) p n (plain_clear (m s) (from s) (end s) b (omega arith) r.free)
    ∙ ap (λ (x : ℕ). (a s).segment ∷ (a s).field ∷ (a s).repetition ∷ (a s).component ∷ (a s).subcomponent ∷ plain_state p ∷ (from s) ∷ x ∷ []) e
    ∙ ap (λ (x : ℕ). (a s).segment ∷ (a s).field ∷ (a s).repetition ∷ (a s).component ∷ (a s).subcomponent ∷ plain_state (between (m s) x (end s)) ∷ x ∷ (end s) ∷ []) o
    ∙ ap (λ (x : ℕ). (a s).segment ∷ (a s).field ∷ (a s).repetition ∷ (a s).component ∷ (a s).subcomponent ∷ x ∷ (start s) ∷ (end s) ∷ []) t

-- the walk behind the byte, whose start is shown, and the buffer with the row
behind : (s : Start) → (b : Address) (to at : ℕ) (d : List ℕ) → b ≡ (on s) → to ≡ shown b ((end s) + 1) → d ≡ pasted s.args.buffer.now s.args.walk.at (here s) → at ≡ s.args.walk.at + length (here s)
    → Stands (m s) d b to at ((end s) + 1) × Writes (m s) s.args.buffer.now (a s) (start s) s.args.walk.at d b to at
behind s b to at d e t q z =
    let o = begins_shown b to ((end s) + 1) t in
    let go : rest_rows (m s) (a s) (from s) ≡ (here s) ++ rest_rows (m s) b (begins b to) = (next s) ∙ ap₂ (λ (x : Address) (i : ℕ). (here s) ++ rest_rows (m s) x i) (sym e) (sym o) in
    let n = ap length go in
    let k = length-append (here s) (rest_rows (m s) b (begins b to)) in
    let r = s.requires.1.1 in
    let y = ap length q ∙ pasted_length s.args.buffer.now (here s) s.args.walk.at (room s) in (
      (subst (λ (i : ℕ). Reached (m s) b i ((end s) + 1)) (sym o) (subst (λ (x : Address). Reached (m s) x ((end s) + 1) ((end s) + 1)) (sym e) (reached s)), omega arith, t ∙ ap (shown b) (sym o)),
      (λ W d₀ w. written_more (here s) (rest_rows (m s) b (begins b to)) d at w go q z),
    )

pub pass_name-requires : goal.pass_name-requires
pass_name-requires c = (small (goal.at.pass_name-requires c).Start, low (goal.at.pass_name-requires c).Start)

pub returns-then-state-eq0 : goal.returns-then-state-eq0
returns-then-state-eq0 c =
    let p = c.pass_name.ensures in
    let f = told_name (m (goal.at.returns-then-state-eq0 c).Start) (a (goal.at.returns-then-state-eq0 c).Start) (start (goal.at.returns-then-state-eq0 c).Start) (end (goal.at.returns-then-state-eq0 c).Start) c.requires.1.2 c.requires.1.0.begun (sym c.state_number-state.ensures ∙ c.if-state-eq0.true) in
    let e = here_name (delimiters_of (m (goal.at.returns-then-state-eq0 c).Start)) (a (goal.at.returns-then-state-eq0 c).Start) (from (goal.at.returns-then-state-eq0 c).Start) (between (m (goal.at.returns-then-state-eq0 c).Start) (from (goal.at.returns-then-state-eq0 c).Start) (end (goal.at.returns-then-state-eq0 c).Start)) f in
    let n = ap length e in
    let r = room (goal.at.returns-then-state-eq0 c).Start in
    let p1 = p.1 in let whole = behind (goal.at.returns-then-state-eq0 c).Start _ _ _ _ (p.0 ∙ ap (λ (x : List ℕ). passed x (get_or (m (goal.at.returns-then-state-eq0 c).Start) (end (goal.at.returns-then-state-eq0 c).Start) 0) (a (goal.at.returns-then-state-eq0 c).Start)) c.requires.2) p.2
    (sym (ap (pasted c.args.buffer.now c.args.walk.at) e ∙ pasted_nothing c.args.buffer.now c.args.walk.at (omega arith))) (omega arith) in record { stands = whole.0; writes = whole.1 }

-- what has a state is no name
no_name : (c : Else-state-eq0) → c.args.walk.address.field ≡ 0 → ⊥
no_name c =
    told_leaf (m (goal.at.Else-state-eq0 c).Start) (a (goal.at.Else-state-eq0 c).Start) (start (goal.at.Else-state-eq0 c).Start) (end (goal.at.Else-state-eq0 c).Start) c.requires.1.2 c.requires.1.0.begun (low (goal.at.Else-state-eq0 c).Start) (λ z. c.if-state-eq0.false (c.state_number-state.ensures ∙ z))

pub put_row-requires : goal.put_row-requires
put_row-requires c =
    let n = ap length (leaf (goal.at.put_row-requires c).Start (no_name (goal.at.put_row-requires c).Else-state-eq0)) in
    let r = room (goal.at.put_row-requires c).Start in
    omega arith

pub pass-requires : goal.pass-requires
pass-requires c = (small (goal.at.pass-requires c).Start, low (goal.at.pass-requires c).Start)

pub returns : goal.returns
returns c =
    let n = no_name (goal.at.returns c).Else-state-eq0 in
    let p = c.pass.ensures in
    let e = leaf (goal.at.returns c).Start n in
    let l = ap length e in
    let p1 = p.address_value.1 in let whole = behind (goal.at.returns c).Start _ _ _ _ (p.address_value.0 ∙ ap (λ (x : List ℕ). passed x (get_or (m (goal.at.returns c).Start) (end (goal.at.returns c).Start) 0) (a (goal.at.returns c).Start)) c.requires.2) (p.start_value n)
    (c.put_row.ensures
    ∙ ap (λ (x : ℕ). pasted c.args.buffer.now c.args.walk.at ((a (goal.at.returns c).Start).segment ∷ (a (goal.at.returns c).Start).field ∷ (a (goal.at.returns c).Start).repetition ∷ (a (goal.at.returns c).Start).component ∷ (a (goal.at.returns c).Start).subcomponent ∷ x ∷ start (goal.at.returns c).Start ∷ end (goal.at.returns c).Start ∷ [])) c.state_number-state.ensures
    ∙ ap (pasted c.args.buffer.now c.args.walk.at) (sym e))
    (omega arith) in record { stands = whole.0; writes = whole.1 }
