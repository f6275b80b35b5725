-- Each return is a case of `spent_of`.
use borrow.Author.Tests.{lt-ltb, le-ltb}
use Rattle.formatting.specs.Pages.{spent_of}
use Rattle.formatting.proofs.writing.spend.Goals as goal

pub returns-then-room-page : goal.returns-then-room-page
unfolding spent_of
returns-then-room-page c = rw (lt-ltb _ _ c.if-room-page.true)

pub returns : goal.returns
unfolding spent_of
returns c = rw (le-ltb _ _ c.if-room-page.false)
