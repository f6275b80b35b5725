-- Rests on how the leaves begin: two rows of MSH, and the rest behind byte 8.
use Prim.Native.Nat.{ℕ, ◌≤◌}
use mathlib.Core.Path.{◌≡◌, sym, ap, ap₂, subst, ◌∙◌}
use mathlib.Core.List.{List, [], ◌∷◌}
use lib.ListN.{length, get_or}
use native.Mathlib.Omega.{arith}
use Rattle.alphabet.specs.Filling.{pasted}
use Rattle.element.specs.declared.address.Address.{Address}
use Rattle.leaves.specs.Leaves.{addressed, rows, leaves_of}
use Rattle.leaves.specs.Walks.{ends_of, passed, AtMost, shown, begins, Reached, Written, rest_rows}
use Rattle.leaves.proofs.RowLaws.{pasted_length, written_end, begins_shown}
use Rattle.leaves.proofs.HeaderLaws.{start_reached, start_length, start_written, long_enough}
use Rattle.leaves.proofs.walking.list_all.Goals.{After-pass-walk, After-put_row, After-put_row-2, Start}
use Rattle.leaves.proofs.walking.list_all.Goals as goal

-- what is read off a message that was read
room : (c : Start) → 16 ≤ length c.args.buffer.now
room c =
    let m = c.args.message.now in
    let n = start_length m c.requires.1 in
    let p = c.requires.0 in
    omega arith

-- the first row
one : (c : After-put_row) → let a = c.args in c.put_row.new.buffer ≡ pasted a.buffer.now 0 (0 ∷ 1 ∷ 1 ∷ 1 ∷ 1 ∷ 3 ∷ 3 ∷ 4 ∷ [])
one c =
    let a = c.args in
    c.put_row.ensures
    ∙ ap (λ (x : Address). pasted a.buffer.now 0 (x.segment ∷ x.field ∷ x.repetition ∷ x.component ∷ x.subcomponent ∷ 3 ∷ 3 ∷ 4 ∷ [])) c.address_of.ensures

one-length : (c : After-put_row) → length c.put_row.new.buffer ≡ length c.args.buffer.now
one-length c =
    let r = room (goal.at.After-put_row c).Start in
    ap length (one c) ∙ pasted_length c.args.buffer.now (0 ∷ 1 ∷ 1 ∷ 1 ∷ 1 ∷ 3 ∷ 3 ∷ 4 ∷ []) 0 (omega arith)

-- the second
two : (c : After-put_row-2) → c.put_row-2.new.buffer ≡ pasted c.put_row.new.buffer 8 (0 ∷ 2 ∷ 1 ∷ 1 ∷ 1 ∷ 3 ∷ 4 ∷ 8 ∷ [])
two c =
    c.put_row-2.ensures
    ∙ ap (λ (x : Address). pasted c.put_row.new.buffer 8 (x.segment ∷ x.field ∷ x.repetition ∷ x.component ∷ x.subcomponent ∷ 3 ∷ 4 ∷ 8 ∷ [])) c.address_of-encoding.ensures

two-length : (c : After-put_row-2) → length c.put_row-2.new.buffer ≡ length c.args.buffer.now
two-length c =
    let r = room (goal.at.After-put_row-2 c).Start in
    let n = one-length (goal.at.After-put_row-2 c).After-put_row in
    ap length (two c) ∙ pasted_length c.put_row.new.buffer (0 ∷ 2 ∷ 1 ∷ 1 ∷ 1 ∷ 3 ∷ 4 ∷ 8 ∷ []) 8 (omega arith) ∙ n

-- the address at which the walk begins, and where
walks : (c : After-pass-walk) → c.pass-walk.result.address ≡ passed (ends_of c.args.message.now) (get_or c.args.message.now 8 0) (addressed 0 2 1 1 1)
walks c =
    c.pass-walk.ensures.address_value.0
    ∙ ap₂ (λ (x : List ℕ) (y : Address). passed x (get_or c.args.message.now 8 0) y) c.ends_of.ensures c.address_of-encoding.ensures

start : (c : After-pass-walk) → c.pass-walk.result.start ≡ shown c.pass-walk.result.address 9
start c = c.pass-walk.ensures.start_value (λ z. let e = ap (λ (x : Address). x.field) c.address_of-encoding.ensures in omega arith)

from-nine : (c : After-pass-walk) → begins c.pass-walk.result.address c.pass-walk.result.start ≡ 9
from-nine c = begins_shown c.pass-walk.result.address c.pass-walk.result.start 9 (start c)

pub pass-walk-requires : goal.pass-walk-requires
pass-walk-requires c = (subst (AtMost 1048576) (sym c.address_of-encoding.ensures) (omega arith, omega arith, omega arith, omega arith, omega arith), omega arith)

pub list_rest-requires : goal.list_rest-requires
list_rest-requires c =
    let m = c.args.message.now in
    let a = c.pass-walk.result.address in
    let ok = c.requires.1 in
    let e = sym (walks (goal.at.list_rest-requires c).After-pass-walk) in
    let i = sym (from-nine (goal.at.list_rest-requires c).After-pass-walk) in
    let n = start_length m ok in
    let r = c.requires.0 in
    let t = two-length (goal.at.list_rest-requires c).After-put_row-2 in
    let z = ap (λ (x : Address). length (rest_rows m x 9)) e in
    let y = ap (λ (x : ℕ). length (rest_rows m a x)) i in
    let at = c.pass-walk.ensures.address_value.1 in
    (long_enough m ok, (subst (λ (x : ℕ). Reached m a x 9) i (subst (λ (x : Address). Reached m x 9 9) e (start_reached m ok)), omega arith, start (goal.at.list_rest-requires c).After-pass-walk ∙ ap (shown a) i), ok)

pub returns : goal.returns
returns c =
    let m = c.args.message.now in
    let d = c.args.buffer.now in
    let a = c.pass-walk.result.address in
    let d₂ = c.put_row-2.new.buffer in
    let w = start_written m c.requires.1 d _ _ (one (goal.at.returns c).After-put_row) (two (goal.at.returns c).After-put_row-2) in
    let v = subst (λ (x : Address). Written (rows (leaves_of m)) d (rest_rows m x 9) d₂ 16) (sym (walks (goal.at.returns c).After-pass-walk)) w in
    let u = subst (λ (x : ℕ). Written (rows (leaves_of m)) d (rest_rows m a x) d₂ 16) (sym (from-nine (goal.at.returns c).After-pass-walk)) v in
    let t = subst (λ (x : ℕ). Written (rows (leaves_of m)) d (rest_rows m a (begins a c.pass-walk.result.start)) d₂ x) (sym c.pass-walk.ensures.address_value.1) u in let whole = written_end (rows (leaves_of m)) d _ _ (c.list_rest.ensures (rows (leaves_of m)) d t) in record { value = whole.0; buffer_after = whole.1 }

pub put_row-requires : goal.put_row-requires
put_row-requires c = let r = room (goal.at.put_row-requires c).Start in omega arith

pub put_row-requires-2 : goal.put_row-requires-2
put_row-requires-2 c = let r = room (goal.at.put_row-requires-2 c).Start in let n = one-length (goal.at.put_row-requires-2 c).After-put_row in omega arith

pub bounds-message-8 : goal.bounds-message-8
bounds-message-8 c = let n = long_enough c.args.message.now c.requires.1 in omega arith
