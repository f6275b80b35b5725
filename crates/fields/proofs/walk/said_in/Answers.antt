-- Rests on the law of the first part.
use mathlib.Core.Path.{sym, ap, ◌∙◌}
use mathlib.Core.List.{List, []}
use Prim.Native.Nat.{ℕ, ◌≤◌}
use lib.Dec.{eqb}
use lib.ListN.{length, get_or, take}
use lib.Seq.{length-take-le}
use native.Mathlib.Omega.{arith}
use Rattle.alphabet.specs.Parts.{split}
use Rattle.alphabet.proofs.ListLaws.{first_le}
use Rattle.alphabet.proofs.PartLaws.{first_part}
use Rattle.fields.proofs.walk.said_in.Goals.{After-find-end}
use Rattle.fields.proofs.walk.said_in.Goals as goal

within : (c : After-find-end) → c.find-end.result ≤ length c.field_bytes-whole.result.now
within c =
    let a = c.args in
    let u = first_le (eqb (get_or a.delimiters.bytes 2 0)) c.field_bytes-whole.result.now in
    omega (arith, c.find-end.ensures)

pub returns : goal.returns
returns c =
    let a = c.args in
    ap (λ (n : ℕ). take n c.field_bytes-whole.result.now) c.find-end.ensures
    ∙ sym (first_part (get_or a.delimiters.bytes 2 0) c.field_bytes-whole.result.now)
    ∙ ap (λ (b : List ℕ). get_or (split (get_or a.delimiters.bytes 2 0) b) 0 []) c.field_bytes-whole.ensures

pub slice_bounds-result-end : goal.slice_bounds-result-end
slice_bounds-result-end c = sym (length-take-le _ _ (within c))
