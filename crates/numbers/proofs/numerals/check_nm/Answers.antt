-- Rests on what the parts and `fails_if` give; before the point stand as many bytes as its place says.
use borrow.Author.Rules.{rules}
use mathlib.Core.Path.{◌≡◌, sym, subst}
use mathlib.Core.Bool.{not}
use lib.Dec.{ltb}
use lib.ListN.{length, length-append}
use Rattle.alphabet.specs.Answers.{fails_if}
use Rattle.alphabet.specs.declared.answers.Refusal.TheVariants.{BreaksForm, ValueTooLong}
use Rattle.alphabet.proofs.CheckLaws.{goes_on, ends}
use Rattle.numbers.specs.Numbers.{nm_form, nm_check, nm_digits, most_digits, unsigned, before_point, fraction}
use Rattle.numbers.proofs.NumberLaws.{point_length, plain_passes}
use Rattle.numbers.specs.Plain.{PlainNumber}
use Rattle.numbers.proofs.numerals.check_nm.Goals.{After-fails_if, After-fails_if-2}
use Rattle.numbers.proofs.numerals.check_nm.Goals as goal

pub returns-then-is_usual : goal.returns-then-is_usual
returns-then-is_usual c =
    sym (plain_passes _ (subst PlainNumber c.without_sign-body.ensures (c.is_usual.ensures c.if-is_usual.true)))

formed : (c : After-fails_if) → c.fails_if.result ≡ fails_if (not (nm_form c.args.bytes.now)) BreaksForm 0
unfolding nm_form
formed c = let u = unsigned c.args.bytes.now in cc (point_length u)

pub returns-in_err-fails_if : goal.returns-in_err-fails_if
unfolding nm_check
returns-in_err-fails_if c = rw (sym (formed (goal.at.returns-in_err-fails_if c).After-fails_if), c.in_err-fails_if.was) (search rules)

short : (c : After-fails_if-2) → c.fails_if-2.result ≡ fails_if (ltb most_digits (length (nm_digits c.args.bytes.now))) ValueTooLong 0
short c =
    let u = unsigned c.args.bytes.now in
    cc (length-append (before_point u) (fraction u))

pub returns : goal.returns
unfolding nm_check
returns c = goes_on (formed (goal.at.returns c).After-fails_if) c.in_ok-fails_if.was (ends (short c))
