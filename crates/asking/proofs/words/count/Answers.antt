-- `asking::words::count` meets its contract: the words are one more than the spaces.
use native.Mathlib.Omega.{arith}
use mathlib.Core.Path.{◌≡◌}
use lib.Dec.{eqb}
use borrow.Author.Rules.{rules}
use Rattle.std.specs.List.{count_by}
use Rattle.asking.proofs.Cutting.{word_count}
use Rattle.asking.proofs.words.count.Goals as goal

pub returns : goal.returns
returns c =
    let spaces : c.count.result ≡ count_by (λ b. eqb b 32) c.args.line.now = search rules in
    omega (arith, spaces, word_count c.args.line.now)
