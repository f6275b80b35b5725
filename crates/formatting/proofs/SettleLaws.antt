-- Bytes that were put down on the line: which words ended, and which is left. Assumes nothing.
use mathlib.Core.Path.{◌≡◌, sym, ap, subst, ◌∙◌}
use mathlib.Core.List.{List, ◌++◌}
use mathlib.Core.Bool.{true, false}
use Prim.Native.Nat.{ℕ, suc, ◌+◌, ◌-◌, ◌≤◌, ◌<◌}
use native.Mathlib.Omega.{arith}
use lib.ListN.{length, get_or, take, drop, length-drop}
use lib.Seq.{length-take-le}
use Rattle.formatting.specs.declared.page.Page.{Page}
use Rattle.formatting.specs.Sheet.{blanks}
use Rattle.formatting.specs.Runs.{clear, firm, blankless}
use Rattle.formatting.specs.Pages.{reach_of, line_with, noted, Settled, word, blank, words}
use Rattle.formatting.proofs.RunLaws.{clear_drop, inked_of, split_run}

module _ (c : Page) (u : List ℕ) (bright : clear u ≡ true) (start : ℕ) (within : start ≤ length u) (rest : blankless (drop start u) ≡ true) where
  pub settled_word : start ≡ 0 → Settled c u (noted false (line_with c.line c.owed (c.word + length u) c))
  settled_word e = word (inked_of u bright (ap (λ (n : ℕ). blankless (drop n u)) (sym e) ∙ rest))

  module _ (end : ℕ) (some : start ≡ 0 → ⊥) (last : 0 < start → get_or u (start - 1) 0 ≡ 32) (small : end ≤ length (take (start - 1) u))
      (parts : take (start - 1) u ≡ take end (take (start - 1) u) ++ blanks (length (take (start - 1) u) - end)) where
    whole : u ≡ take end (take (start - 1) u) ++ (blanks (suc ((start - 1) - end)) ++ drop start u)
    whole = split_run u start end (omega arith) within (last (omega arith)) parts

    pub settled_blank : end + c.word ≡ 0 → Settled c u (noted false (line_with c.line (c.owed + start) (length u - start) c))
    settled_blank e =
        let n : suc ((start - 1) - end) ≡ start = omega arith in
        let z : end ≡ 0 = omega arith in
        subst (λ (m : ℕ). Settled c u (noted false (line_with c.line (c.owed + start) m c))) (length-drop start u)
        (blank start (drop start u) (whole ∙ ap (λ (k : ℕ). take k (take (start - 1) u) ++ (blanks (suc ((start - 1) - end)) ++ drop start u)) z ∙ ap (λ (k : ℕ). blanks k ++ drop start u) n)
        (inked_of (drop start u) (clear_drop start u bright) rest) (omega arith))

    pub settled_words : (end + c.word ≡ 0 → ⊥) → firm (take end (take (start - 1) u)) ≡ true → (reach : ℕ) → reach ≡ reach_of c
        → Settled c u (noted false (line_with (reach + end) (start - end) (length u - start) c))
    settled_words n f reach e =
        let l = length-take-le (start - 1) u (omega arith) in
        let p = length-take-le end (take (start - 1) u) small in
        let o : suc ((start - 1) - end) ≡ start - end = omega arith in
        let r : reach_of c + length (take end (take (start - 1) u)) ≡ reach + end = omega arith in
        subst (λ (m : ℕ). Settled c u (noted false (line_with m (start - end) (length u - start) c))) r
        (subst (λ (m : ℕ). Settled c u (noted false (line_with (reach_of c + length (take end (take (start - 1) u))) m (length u - start) c))) o
        (subst (λ (m : ℕ). Settled c u (noted false (line_with (reach_of c + length (take end (take (start - 1) u))) (suc ((start - 1) - end)) m c))) (length-drop start u)
        (words (take end (take (start - 1) u)) (drop start u) ((start - 1) - end) whole f (inked_of (drop start u) (clear_drop start u bright) rest) (omega arith))))
