-- Rests on the test of the length, both ways.
use Prim.Native.Nat.{ℕ}
use mathlib.Core.Path.{◌≡◌, sym, ap, ◌∙◌}
use mathlib.Core.Bool.{Bool, true, false, cond}
use mathlib.Core.List.{List, []}
use lib.Dec.{leb}
use lib.ListN.{length}
use Rattle.asking.specs.Messages.{held_of}
use Rattle.asking.proofs.messages.held.Goals as goal

as-told : (m : List ℕ) (t : Bool) → leb (length m) 65536 ≡ t → cond t m [] ≡ held_of m
unfolding held_of
as-told m t e = ap (λ (s : Bool). cond s m []) (sym e)

pub returns-then-is_held : goal.returns-then-is_held
returns-then-is_held c = as-told _ true (sym c.is_held.ensures ∙ c.if-is_held.true)

pub returns : goal.returns
returns c = as-told _ false (sym c.is_held.ensures ∙ c.if-is_held.false)
