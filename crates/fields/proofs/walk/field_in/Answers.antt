-- Rests on what `seek` ensures, and on where the bytes of a field are.
use mathlib.Core.Path.{sym, ap, ◌∙◌, subst}
use mathlib.Core.List.{List, []}
use Prim.Native.Nat.{ℕ}
use lib.ListN.{get_or}
use native.Mathlib.Omega.{arith}
use Rattle.alphabet.specs.Parts.{split}
use Rattle.fields.specs.Walk.{Finds}
use Rattle.fields.proofs.CursorLaws.{bytes_none, bytes_index, finds_nothing}
use Rattle.fields.proofs.walk.field_in.Goals as goal

pub returns-then-number-field : goal.returns-then-number-field
returns-then-number-field c =
    let a = c.args in
    let ds = a.delimiters.bytes in
    let s = a.segment.now in
    subst (λ (b : List ℕ). Finds ds s b (record { cursor = a.cursor; start = 0; first = 0; end = 0 })) (sym (bytes_none ds s a.number a.field c.if-number-field.true))
    (finds_nothing ds s a.cursor 0 (omega arith) c.requires)

pub returns : goal.returns
returns c =
    let a = c.args in
    let ds = a.delimiters.bytes in
    let s = a.segment.now in
    subst (λ (b : List ℕ). Finds ds s b c.seek.result)
    (ap (λ (n : ℕ). get_or (split (get_or ds 0 0) s) n []) c.index_of.ensures ∙ sym (bytes_index ds s a.number a.field c.if-number-field.false))
    c.seek.ensures
