-- Rests on where the first stop stands from the start on.
use Prim.Native.Nat.{ℕ, ◌+◌}
use mathlib.Core.Path.{◌≡◌, ap, ◌∙◌}
use lib.ListN.{length-drop, drop}
use native.Mathlib.Omega.{arith}
use Rattle.alphabet.specs.Lists.{first, among}
use Rattle.alphabet.specs.Parts.{from_to}
use Rattle.alphabet.proofs.ListLaws.{first_le}
use Rattle.element.proofs.levels.part_from.Goals.{After-end_in}
use Rattle.element.proofs.levels.part_from.Goals as goal

-- the first stop from the start on
found : (c : After-end_in) → let a = c.args in
    c.end_in.result ≡ first (among a.stops) (drop a.start a.message.now)
found c = c.end_in.ensures ∙ ap (first (among c.args.stops)) c.rest_from.ensures

pub overflow_add-end : goal.overflow_add-end
overflow_add-end c =
    let a = c.args in
    let e = found c in
    let u = first_le (among a.stops) (drop a.start a.message.now) in
    let n = length-drop a.start a.message.now in
    omega arith

pub returns : goal.returns
returns c = let a = c.args in ap (λ (n : ℕ). from_to a.start (a.start + n)) (found c)
