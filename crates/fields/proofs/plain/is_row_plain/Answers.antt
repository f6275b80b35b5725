-- Rests on what the rules see at once of a field, and on the parts between noted ends being the fields.
use mathlib.Core.Path.{◌≡◌, sym, ap, ◌∙◌}
use mathlib.Core.Bool.{cond}
use Prim.Native.Nat.{ℕ}
use lib.Dec.{eqb}
use lib.ListN.{get_or}
use native.Mathlib.Omega.{arith}
use Rattle.alphabet.proofs.BoolLaws.{false_true}
use Rattle.ends.specs.Ends.{Noted}
use Rattle.fields.specs.Walk.{field_bytes, Indexed}
use Rattle.fields.proofs.PlainLaws.{field_part_lem, own_kind, said_kind, own_sound, said_sound}
use Rattle.fields.proofs.plain.is_row_plain.Goals.{After-part-bytes}
use Rattle.fields.proofs.plain.is_row_plain.Goals as goal

pub returns-in_default : goal.returns-in_default
returns-in_default c = λ t p number b n. absurd (false_true t)

-- no field that is split has the place 0
not_first : {field base most index : ℕ} → Indexed field base most index → index ≡ 0 → ⊥
not_first i e = let c = i.counted in let s = i.split_on in absurd (omega arith)

-- the field that a row judges
field : (c : After-part-bytes) (number : ℕ) → let a = c.args in
    a.base ≡ cond (eqb number 0) 1 0 → Noted (get_or a.delimiters.bytes 0 0) a.segment.now a.most a.ends.now
    → field_bytes a.delimiters.bytes a.segment.now number a.row.field ≡ c.part-bytes.result.now
field c number b n =
    let a = c.args in
    let w = c.index_in.ensures c.in-Some.index c.in-Some.is in
    field_part_lem a.delimiters.bytes a.segment.now number a.base a.row.field a.most c.in-Some.index b w
    ∙ sym (c.part-bytes.ensures (get_or a.delimiters.bytes 0 0) a.most n w.noted w.room (not_first w))

pub returns-in_default-said_field : goal.returns-in_default-said_field
returns-in_default-said_field c = λ t p number b n.
    let a = c.args in
    own_sound a.delimiters.bytes a.segment.now number a.row c.part-bytes.result.now (field (goal.at.returns-in_default-said_field c).After-part-bytes number b n)
    (c.is_plain.ensures t p (own_kind a.row.kind (sym c.said_field.ensures ∙ c.in_default-said_field.is)))

pub returns-in_default-index_in : goal.returns-in_default-index_in
returns-in_default-index_in c = λ t p number b n. absurd (false_true t)

pub returns : goal.returns
returns c = λ t p number b n.
    let a = c.args in
    let v = c.index_in-2.ensures c.in-Some-index_in.said_index c.in-Some-index_in.is in
    let by = said_kind a.row.kind (sym c.said_field.ensures ∙ c.in-Some-said_field.is) in
    said_sound a.delimiters.bytes a.segment.now number a.row c.part-bytes.result.now (field (goal.at.returns c).After-part-bytes number b n) c.part-said.result.now
    (ap (field_bytes a.delimiters.bytes a.segment.now number) (sym by.1)
    ∙ field_part_lem a.delimiters.bytes a.segment.now number a.base c.in-Some-said_field.by a.most c.in-Some-index_in.said_index b v
    ∙ sym (c.part-said.ensures (get_or a.delimiters.bytes 0 0) a.most n v.noted v.room (not_first v)))
    by.0
    (c.is_plain_said.ensures t a.delimiters.bytes p by.0)
