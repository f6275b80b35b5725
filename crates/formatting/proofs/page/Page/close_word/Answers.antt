-- Rests on the contract of what is called.
use mathlib.Core.Bool.{false}
use mathlib.Core.Path.{ap}
use Rattle.formatting.specs.Pages.{noted}
use Rattle.formatting.proofs.page.Page.close_word.Goals as goal

pub returns : goal.returns
returns c = ap (noted false) c.end_word-ended.ensures
