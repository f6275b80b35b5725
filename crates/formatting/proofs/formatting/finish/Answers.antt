-- Rests on the last line.
use Prim.Native.Nat.{ℕ}
use mathlib.Core.Path.{subst}
use mathlib.Core.List.{List, append-nil}
use native.Mathlib.Omega.{arith}
use Rattle.formatting.specs.Pages.{shown_of, Wrote}
use Rattle.formatting.proofs.ActLaws.{closing_sound}
use Rattle.formatting.proofs.FormatLaws.{finishes}
use Rattle.formatting.proofs.formatting.finish.Goals as goal

pub show_line-requires : goal.show_line-requires
show_line-requires c =
    ((closing_sound c.args.page c.close_word-closed.result c.args.line.now c.args.buffer.now c.requires c.close_word-closed.ensures).0, omega arith)

pub returns : goal.returns
returns c =
    let a = c.args in
    let k = c.close_word-closed in
    let s = c.show_line in
    finishes a.page k.result s.result a.line.now a.buffer.now _ k.ensures s.ensures.value
    (subst (λ (v : List ℕ). Wrote v k.result a.buffer.now s.result s.new.buffer) (append-nil (shown_of k.result a.line.now)) s.ensures.wrote)
