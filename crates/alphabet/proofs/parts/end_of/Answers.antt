-- Rests on the law that a search goes no further than the end.
use Prim.Native.Nat.{◌+◌, ◌≤◌}
use mathlib.Core.Path.{◌≡◌, ap, ◌∙◌}
use lib.Dec.{eqb}
use lib.ListN.{length, drop, length-drop}
use native.Mathlib.Omega.{arith}
use Rattle.alphabet.specs.Lists.{find}
use Rattle.alphabet.proofs.ListLaws.{rest_of, first_le}
use Rattle.alphabet.proofs.parts.end_of.Goals.{After-find}
use Rattle.alphabet.proofs.parts.end_of.Goals as goal

found : (c : After-find) → c.find.result ≡ find c.args.separator (drop c.args.start c.args.bytes.now)
found c = c.find.ensures ∙ ap (find c.args.separator) (rest_of c.args.bytes.now c.args.start)

inside : (c : After-find) → c.args.start + c.find.result ≤ length c.args.bytes.now
inside c =
    let e = found c in
    let u = first_le (eqb c.args.separator) (drop c.args.start c.args.bytes.now) in
    let n = length-drop c.args.start c.args.bytes.now in
    let s = c.requires in
    omega arith

pub overflow_add-result : goal.overflow_add-result
overflow_add-result c = let i = inside c in omega arith

pub returns-clause-inside : goal.returns-clause-inside
returns-clause-inside c = inside c

pub returns-clause-found : goal.returns-clause-found
returns-clause-found c = ap (λ n. c.args.start + n) (found c)
