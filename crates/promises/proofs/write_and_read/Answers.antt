-- Rests on `text_comes_back`; that the text's elements are bytes is what owning the slice tells.
use borrow.Author.Rules.{rules}
use Prim.Native.Nat.{ℕ, ◌≤◌}
use mathlib.Core.Path.{◌≡◌, refl, sym, ap, ap₂, ◌∙◌}
use mathlib.Core.List.{List}
use lib.ListN.{length, take}
use lib.Seq.{length-take-le}
use native.Mathlib.Omega.{arith}
use Rattle.std.specs.Prelude.{Ok, Err}
use Rattle.std.specs.Result.{result_unwrap_or}
use Rattle.alphabet.specs.Answers.{Refusable, length_given}
use Rattle.text.specs.Unescape.{unescaping}
use Rattle.escaping.specs.Outcomes.{answer, filled}
use Rattle.laws.proofs.TextRoom.{escape_within}
use Rattle.promises.proofs.Demand2.{text_comes_back}
use Rattle.promises.proofs.write_and_read.Goals.{After-unwrap_or-length}
use Rattle.promises.proofs.write_and_read.Goals as goal

-- the length of what was written, and 0 where nothing was
or_nothing : (r : Refusable ℕ) → result_unwrap_or r 0 ≡ length_given r
or_nothing (Ok n) = refl
or_nothing (Err f) = refl

said : (c : After-unwrap_or-length) → c.unwrap_or-length.result ≡ length_given c.escape.result
said c = c.unwrap_or-length.ensures ∙ or_nothing c.escape.result

-- what was written is in the buffer
within : (c : After-unwrap_or-length) → c.unwrap_or-length.result ≤ length c.escape.new.buffer
within c =
    let a = c.args in
    let w = escape_within a.delimiters.bytes a.text.now a.written.now in
    let e = said c ∙ ap length_given c.escape.ensures.value in
    let f = ap length c.escape.ensures.buffer_after in
    omega arith

pub slice_bounds-unescape-end-2 : goal.slice_bounds-unescape-end-2
slice_bounds-unescape-end-2 c = sym (length-take-le _ _ (within (goal.at.slice_bounds-unescape-end-2 c).After-unwrap_or-length))

pub returns : goal.returns
returns c =
    let u = c.unescape in
    let ds = c.args.delimiters.bytes in
    let t = c.args.text.now in
    let d = c.args.written.now in
    let e = c.args.back.now in
    let long = said (goal.at.returns c).After-unwrap_or-length ∙ ap length_given c.escape.ensures.value in
    let there = ap₂ (λ (n : ℕ) (l : List ℕ). take n l) long c.escape.ensures.buffer_after in
    let answered = u.ensures.value ∙ ap (λ (l : List ℕ). answer (unescaping ds l (length e))) there in
    let back = u.ensures.buffer_after ∙ ap (λ (l : List ℕ). filled (unescaping ds l (length e)) e) there in
    let five : length ds ≡ 5 = search rules in
    record {
      value = answered;
      written_after = c.escape.ensures.buffer_after;
      back_after = back;
      comes_back = λ fine first second.
          let b = text_comes_back ds five fine t d e (λ i. let f = c.type_inv.text i in omega arith) first second in
          (answered ∙ b.0, back ∙ b.1);
    }

pub slice_bounds-unescape-end : goal.slice_bounds-unescape-end
slice_bounds-unescape-end c = within (goal.at.slice_bounds-unescape-end c).After-unwrap_or-length
