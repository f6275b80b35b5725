-- Rests on where the bytes of a field are.
use mathlib.Core.Path.{sym, ap, ◌∙◌}
use mathlib.Core.List.{[]}
use Prim.Native.Nat.{ℕ}
use lib.ListN.{get_or}
use Rattle.alphabet.specs.Parts.{split}
use Rattle.fields.proofs.CursorLaws.{bytes_none, bytes_index}
use Rattle.fields.proofs.walk.field_bytes.Goals as goal

pub returns-then-number-field : goal.returns-then-number-field
returns-then-number-field c =
    let a = c.args in
    sym (bytes_none a.delimiters.bytes a.segment.now a.number a.field c.if-number-field.true)

pub returns : goal.returns
returns c =
    let a = c.args in
    c.part_in.ensures
    ∙ ap (λ (n : ℕ). get_or (split (get_or a.delimiters.bytes 0 0) a.segment.now) n []) c.index_of.ensures
    ∙ sym (bytes_index a.delimiters.bytes a.segment.now a.number a.field c.if-number-field.false)
