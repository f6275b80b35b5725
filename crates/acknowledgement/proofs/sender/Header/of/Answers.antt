-- Rests on the laws of what can be acknowledged, by the fields of the header that was taken.
use Prim.Native.Nat.{ℕ, ◌+◌, ◌≤◌, ◌<◌}
use mathlib.Core.Path.{◌≡◌, sym, ap, subst, ◌∙◌}
use mathlib.Core.Bool.{Bool, true, not, ◌&&◌}
use mathlib.Core.List.{List}
use lib.Dec.{eqb, leb}
use lib.ListN.{length, take}
use lib.Seq.{length-take-le}
use native.Mathlib.Omega.{arith}
use Rattle.std.specs.Prelude.{is_ok}
use Rattle.alphabet.specs.Bytes.{carriage_return}
use Rattle.alphabet.specs.Lists.{find}
use Rattle.alphabet.proofs.ListLaws.{first_le}
use Rattle.alphabet.proofs.BoolLaws.{and_both}
use Rattle.reading.specs.Reading.{opening}
use Rattle.reading.specs.Segments.{field_separator}
use Rattle.ends.specs.Ends.{Noted}
use Rattle.acknowledgement.specs.Acknowledgement.{header, acknowledgeable}
use Rattle.acknowledgement.specs.Fields.{line_in}
use Rattle.acknowledgement.proofs.HeaderLaws.{no_return_no, faulty_no}
use Rattle.acknowledgement.proofs.FieldLaws.{own_noted, answerable, sound_here}
use Rattle.acknowledgement.proofs.sender.Header.of.Goals.{Else-end-message, Else-is_err, After-id_limit}
use Rattle.acknowledgement.proofs.sender.Header.of.Goals as goal

pub returns-then-end-message : goal.returns-then-end-message
returns-then-end-message c = no_return_no c.args.message.now (sym c.find_return-end.ensures ∙ c.if-end-message.true)

-- the CR stands inside the message
inside : (c : Else-end-message) → let m = c.args.message.now in find carriage_return m < length m
inside c = let e = c.find_return-end.ensures in omega (arith, first_le (eqb carriage_return) c.args.message.now, c.if-end-message.false)

within : (c : Else-end-message) → c.find_return-end.result + 1 ≤ length c.args.message.now
within c = let e = c.find_return-end.ensures in let i = inside c in omega arith

pub slice_bounds-line-end : goal.slice_bounds-line-end
slice_bounds-line-end c = let w = within c in sym (length-take-le _ _ (omega arith))

pub overflow_add-bytes : goal.overflow_add-bytes
overflow_add-bytes c = let w = within c in omega arith

pub slice_bounds-bytes-end : goal.slice_bounds-bytes-end
slice_bounds-bytes-end c = sym (length-take-le _ _ (within c))

-- the header and its line, as they were taken
abbrev H : Else-end-message → List ℕ
H c = take (c.find_return-end.result + 1) c.args.message.now

abbrev L : Else-end-message → List ℕ
L c = take c.find_return-end.result c.args.message.now

taken : (c : Else-end-message) → H c ≡ header c.args.message.now
taken c = ap (λ (n : ℕ). take (n + 1) c.args.message.now) c.find_return-end.ensures

line : (c : Else-end-message) → L c ≡ line_in c.args.message.now
line c = ap (λ (n : ℕ). take n c.args.message.now) c.find_return-end.ensures

pub returns-then-is_err : goal.returns-then-is_err
returns-then-is_err c =
    let k = (goal.at.returns-then-is_err c).Else-end-message in
    faulty_no c.args.message.now (inside k) (ap (λ (h : List ℕ). is_ok (opening h)) (sym (taken k)) ∙ ap is_ok (sym c.check_opening.ensures) ∙ c.if-is_err.ensures.negation)

-- the header is sound
sound : (c : Else-is_err) → is_ok (opening (H (goal.at.Else-is_err c).Else-end-message)) ≡ true
sound c = ap is_ok (sym c.check_opening.ensures) ∙ c.if-is_err.ensures.negation

noted : (c : After-id_limit) → Noted (field_separator (H (goal.at.After-id_limit c).Else-end-message)) (L (goal.at.After-id_limit c).Else-end-message) 10 c.note.new.ends
noted c = subst (λ (sep : ℕ). Noted sep (L (goal.at.After-id_limit c).Else-end-message) 10 c.note.new.ends) c.byte_at.ensures c.note.ensures

abbrev test : After-id_limit → Bool
test c = not c.same-known.result && (c.is_present-there.result && leb (length c.part-id.result.now) c.id_limit.result)

tested : (c : After-id_limit) → acknowledgeable c.args.message.now ≡ test c
tested c =
    let k = (goal.at.After-id_limit c).Else-end-message in
    answerable c.args.message.now (H k) (L k) c.note.new.ends (inside k) (taken k) (line k) (sound (goal.at.After-id_limit c).Else-is_err) (noted c)
    c.part.result.now c.component-kind.result.now c.part-id.result.now c.part.ensures c.component-kind.ensures c.part-id.ensures
    c.same-known.result c.is_present-there.result _ c.same-known.ensures c.is_present-there.ensures (ap (leb (length c.part-id.result.now)) c.id_limit.ensures)

pub invariant_of-result : goal.invariant_of-result
invariant_of-result c =
    let a = (goal.at.invariant_of-result c).After-id_limit in
    let k = (goal.at.invariant_of-result c).Else-end-message in
    let s = sound (goal.at.invariant_of-result c).Else-is_err in
    let there = (and_both c.is_present-there.result _ (and_both (not c.same-known.result) _ c.if-known-there.true).1).0 in
    record {
      sound = sound_here c.args.message.now (H k) (L k) c.note.new.ends (inside k) (taken k) (line k) s (noted a)
          c.part.result.now c.component-kind.result.now c.part-id.result.now c.part.ensures c.component-kind.ensures c.part-id.ensures c.is_present-there.result c.is_present-there.ensures there;
      noted = own_noted c.args.message.now (H k) (L k) c.note.new.ends (inside k) (taken k) (line k) s (noted a);
    }

pub returns-then-known-there : goal.returns-then-known-there
returns-then-known-there c = (tested (goal.at.returns-then-known-there c).After-id_limit ∙ c.if-known-there.true, taken (goal.at.returns-then-known-there c).Else-end-message)

pub returns : goal.returns
returns c = tested (goal.at.returns c).After-id_limit ∙ c.if-known-there.false
