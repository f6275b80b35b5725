-- Rests on the contracts of what is called.
use Rattle.formatting.specs.Pages.{indent_of}
use Rattle.formatting.proofs.page.Page.indent.Goals as goal

pub returns : goal.returns
unfolding indent_of
returns c = cc
