-- Rests on the laws of numerals: the digits that are written and those that are left, at each turn.
use Prim.Native.Nat.{ℕ, ◌+◌, ◌-◌, ◌%◌, ◌/◌, ◌^◌, ◌≤◌, ◌<◌}
use mathlib.Core.Path.{◌≡◌, sym, ap, ◌∙◌, subst}
use mathlib.Core.List.{List, [], ◌∷◌, ◌++◌, append-nil, append_assoc}
use lib.ListN.{drop, set, length-set}
use native.Mathlib.Omega.{arith}
use Rattle.error_segment.specs.Numerals.{digits_of}
use Rattle.error_segment.proofs.NumeralLaws.{digits_last, digits_more, tens_room, drop_set, numeral_twenty}
use Rattle.error_segment.proofs.numerals.numeral_of.Goals.{In-loop-rest}
use Rattle.error_segment.proofs.numerals.numeral_of.Goals as goal

pub loop-rest-init : goal.loop-rest-init
loop-rest-init c = (omega arith, omega arith, omega arith, numeral_twenty c.args.number (omega arith) ∙ sym (append-nil _))

room : (c : In-loop-rest) → (1 ≤ c.loop-rest.start) × (c.loop-rest.rest / 10 < 10 ^ c.loop-rest.start)
room c = let l = c.loop-rest in tens_room l.start l.rest l.invariant.2 (omega arith)

pub loop-rest-preserved : goal.loop-rest-preserved
loop-rest-preserved c =
    let l = c.loop-rest in
    let s = l.start in
    let d = l.digits in
    let v = 48 + l.rest % 10 in
    let t = room c in
    let t0 = t.0 in
    let e : s - 1 + 1 ≡ s = omega arith in
    let n = length-set d s v in (
      omega arith,
      omega arith,
      subst (λ (k : ℕ). l.rest / 10 < 10 ^ k) (sym e) t.1,
      l.invariant.3 ∙ ap (λ (x : List ℕ). x ++ drop (s + 1) d) (digits_more s l.rest (omega arith)) ∙ append_assoc (digits_of s (l.rest / 10)) (v ∷ []) (drop (s + 1) d)
          ∙ ap (λ (x : List ℕ). digits_of s (l.rest / 10) ++ x) (sym (drop_set d s v (omega arith))) ∙ ap (λ (k : ℕ). digits_of k (l.rest / 10) ++ drop k (set d s v)) (sym e),
    )

pub returns : goal.returns
returns c =
    let l = c.loop-rest in (
      omega arith,
      drop_set l.digits l.start (48 + l.rest % 10) (omega arith)
          ∙ sym (l.invariant.3 ∙ ap (λ (x : List ℕ). x ++ drop (l.start + 1) l.digits) (digits_last l.start l.rest (omega arith))),
    )

pub overflow_sub-start : goal.overflow_sub-start
overflow_sub-start c = let t = (room c).0 in omega arith
