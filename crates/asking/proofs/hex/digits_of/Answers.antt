-- `asking::hex::digits_of` meets its contract: what the word says, one law for each way through.
use mathlib.Core.Path.{◌≡◌, sym, ap, ◌∙◌}
use mathlib.Core.Bool.{cond}
use Rattle.std.specs.Prelude.{Some, None}
use Rattle.alphabet.specs.Hex.{all_hex, pairs_of}
use Rattle.asking.specs.Hex.{said}
use Rattle.asking.proofs.Pairs.{said_dash, said_empty, said_pairs, none_said, none_paired}
use Rattle.asking.proofs.hex.digits_of.Goals.{After-all_hex}
use Rattle.asking.proofs.hex.digits_of.Goals as goal

pub returns-then-same-clause-said : goal.returns-then-same-clause-said
returns-then-same-clause-said c = said_dash c.args.word.now (sym c.same.ensures ∙ c.if-same.true) ∙ ap Some (sym none_paired)

pub returns-then-same-clause-pairs : goal.returns-then-same-clause-pairs
returns-then-same-clause-pairs c = none_said

pub returns-then-is_empty : goal.returns-then-is_empty
returns-then-is_empty c = record { said = said_empty c.args.word.now (sym c.is_empty.ensures ∙ c.if-is_empty.true); pairs = tt }

-- what any other word says, by whether it has pairs of digits
by_pairs : (c : After-all_hex) → said c.args.word.now ≡ cond (all_hex c.args.word.now) (Some (pairs_of c.args.word.now)) None
by_pairs c = said_pairs c.args.word.now (sym c.same.ensures ∙ c.if-same.false) (sym c.is_empty.ensures ∙ c.if-is_empty.false)

pub returns-then-not-all_hex : goal.returns-then-not-all_hex
returns-then-not-all_hex c = record {
  said = by_pairs (goal.at.returns-then-not-all_hex c).After-all_hex ∙ ap (λ t. cond t (Some (pairs_of c.args.word.now)) None) (sym c.all_hex.ensures ∙ c.if-not-all_hex.true);
  pairs = tt;
}

pub returns-clause-said : goal.returns-clause-said
returns-clause-said c = by_pairs (goal.at.returns-clause-said c).After-all_hex ∙ ap (λ t. cond t (Some (pairs_of c.args.word.now)) None) (sym c.all_hex.ensures ∙ c.if-not-all_hex.false)
