-- Rests on the number that is held.
use mathlib.Core.Path.{ap}
use Prim.Native.Nat.{ℕ}
use Rattle.formatting.specs.Pages.{line_with}
use Rattle.formatting.proofs.page.Page.owe.Goals as goal

pub returns : goal.returns
returns c = let k = c.args.self in ap (λ (n : ℕ). line_with k.line n k.word k) c.hold-owed.ensures
