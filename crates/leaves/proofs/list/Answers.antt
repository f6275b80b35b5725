-- Rests on the laws of a listing, case by case, and on `rows_most`: eight numbers for each byte are enough.
use borrow.Author.Rules.{rules}
use Prim.Native.Nat.{◌/◌}
use mathlib.Core.Path.{◌≡◌, sym, ap, ◌∙◌}
use lib.ListN.{length}
use native.Mathlib.Omega.{arith}
use borrow.Author.Tests.{ltb-false}
use Rattle.alphabet.specs.Answers.{Check}
use Rattle.alphabet.proofs.CheckLaws.{passes_not}
use Rattle.alphabet.specs.declared.answers.Refusal.TheVariants.{NoRoom}
use Rattle.leaves.specs.Leaves.{leaves_of, listing, filled}
use Rattle.leaves.proofs.RowLaws.{rows_length}
use Rattle.leaves.proofs.CountLaws.{rows_most}
use Rattle.leaves.proofs.ListLaws.{listing_unread, listing_read}
use Rattle.leaves.proofs.list.Goals.{In_err-read, In_ok-read, After-fails_if}
use Rattle.leaves.proofs.list.Goals as goal

-- the listing of a message that was not read fails as reading does
unread : (c : In_err-read) → listing c.args.message.now (length c.args.buffer.now) ≡ c.read.result
unread c =
    let m = c.args.message.now in
    listing_unread m (length c.args.buffer.now) _ (sym c.read.ensures ∙ c.in_err-read.was) ∙ sym c.in_err-read.was

-- that of another is what the room says
known : (c : After-fails_if) → listing c.args.message.now (length c.args.buffer.now) ≡ c.fails_if.result
known c =
    let m = c.args.message.now in
    listing_read m (length c.args.buffer.now) (sym c.read.ensures ∙ c.in_ok-read.was) ∙ sym c.fails_if.ensures

pub returns-in_err-read-clause-value : goal.returns-in_err-read-clause-value
returns-in_err-read-clause-value c =
    rw (unread (goal.at.returns-in_err-read-clause-value c).In_err-read, c.in_err-read.was) (search rules)

pub returns-in_err-read-clause-buffer_after : goal.returns-in_err-read-clause-buffer_after
returns-in_err-read-clause-buffer_after c = rw (unread (goal.at.returns-in_err-read-clause-buffer_after c).In_err-read, c.in_err-read.was)

pub returns-in_err-fails_if-clause-value : goal.returns-in_err-fails_if-clause-value
returns-in_err-fails_if-clause-value c =
    rw (known (goal.at.returns-in_err-fails_if-clause-value c).After-fails_if, c.in_err-fails_if.was) (search rules)

pub returns-in_err-fails_if-clause-buffer_after : goal.returns-in_err-fails_if-clause-buffer_after
returns-in_err-fails_if-clause-buffer_after c =
    rw (known (goal.at.returns-in_err-fails_if-clause-buffer_after c).After-fails_if, c.in_err-fails_if.was)

pub list_all-numbers-requires : goal.list_all-numbers-requires
list_all-numbers-requires c =
    let ok = sym c.read.ensures ∙ c.in_ok-read.was in
    let n = rows_most c.args.message.now ok in
    let room = ltb-false _ _ (passes_not _ NoRoom 0 (sym c.fails_if.ensures ∙ c.in_ok-fails_if.was)) in
    (omega arith, ok)

pub returns-clause-value : goal.returns-clause-value
returns-clause-value c =
    let m = c.args.message.now in
    let e = known (goal.at.returns-clause-value c).After-fails_if ∙ c.in_ok-fails_if.was in
    let n = rows_length (leaves_of m) in
    let r = c.list_all-numbers.ensures.value in
    let z : c.list_all-numbers.result / 8 ≡ length (leaves_of m) = omega arith in rw (e, z)

pub returns-clause-buffer_after : goal.returns-clause-buffer_after
returns-clause-buffer_after c =
    let e = known (goal.at.returns-clause-buffer_after c).After-fails_if ∙ c.in_ok-fails_if.was in
    c.list_all-numbers.ensures.buffer_after ∙ ap (λ (x : Check). filled x (leaves_of c.args.message.now) c.args.buffer.now) (sym e)
