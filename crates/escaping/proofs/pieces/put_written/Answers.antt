-- Rests on the laws of what a byte is written as, and of bytes that are set one behind another: each return is a case of `escape_byte`.
use Prim.Native.Nat.{ℕ, ◌+◌, ◌≤◌, ◌/◌, ◌%◌}
use mathlib.Core.Path.{◌≡◌, sym, ap, ◌∙◌}
use mathlib.Core.List.{List, [], ◌∷◌}
use lib.ListN.{length, get_or, length-set}
use native.Mathlib.Omega.{arith}
use Rattle.alphabet.specs.Bytes.{hex_digit}
use Rattle.escaping.specs.Escape.{letters, escape_of, escape_byte}
use Rattle.alphabet.specs.Filling.{pasted}
use Rattle.escaping.proofs.PieceLaws.{written_letter, written_plain, written_hex}
use Rattle.alphabet.proofs.FillingLaws.{set_pasted, three_pasted, five_pasted}
use Rattle.escaping.proofs.pieces.put_written.Goals.{Else-is_printable, Then-i-lt5, Then-is_printable}
use Rattle.escaping.proofs.pieces.put_written.Goals as goal

letter : (c : Then-i-lt5)
    → let a = c.args in
    escape_byte a.delimiters.bytes a.b ≡ escape_of a.delimiters.bytes ∷ get_or letters c.place_of-i.result 0 ∷ escape_of a.delimiters.bytes ∷ []
letter c =
    let a = c.args in
    written_letter a.delimiters.bytes a.b c.place_of-i.result c.place_of-i.ensures c.if-i-lt5.true

room-letter : (c : Then-i-lt5) → let a = c.args in a.at + 3 ≤ length a.buffer.now
room-letter c = omega (arith, ap length (letter c), c.requires)

plain : (c : Then-is_printable) → let a = c.args in escape_byte a.delimiters.bytes a.b ≡ a.b ∷ []
plain c =
    let a = c.args in
    written_plain a.delimiters.bytes a.b (omega arith) (sym c.is_printable.ensures ∙ c.if-is_printable.true)

room-plain : (c : Then-is_printable) → let a = c.args in a.at + 1 ≤ length a.buffer.now
room-plain c = omega (arith, ap length (plain c), c.requires)

digits : (c : Else-is_printable)
    → let a = c.args in
    escape_byte a.delimiters.bytes a.b
    ≡ escape_of a.delimiters.bytes ∷ 88 ∷ hex_digit (a.b / 16) ∷ hex_digit (a.b % 16) ∷ escape_of a.delimiters.bytes ∷ []
digits c =
    let a = c.args in
    written_hex a.delimiters.bytes a.b (omega arith) (sym c.is_printable.ensures ∙ c.if-is_printable.false)

room-digits : (c : Else-is_printable) → let a = c.args in a.at + 5 ≤ length a.buffer.now
room-digits c = omega (arith, ap length (digits c), c.requires)

pub returns-then-i-lt5-clause-value : goal.returns-then-i-lt5-clause-value
returns-then-i-lt5-clause-value c =
    let a = c.args in sym (ap (λ (l : List ℕ). a.at + length l) (letter (goal.at.returns-then-i-lt5-clause-value c).Then-i-lt5))

pub returns-then-i-lt5-clause-buffer_after : goal.returns-then-i-lt5-clause-buffer_after
returns-then-i-lt5-clause-buffer_after c =
    let a = c.args in three_pasted a.buffer.now a.at _ _ _ (room-letter (goal.at.returns-then-i-lt5-clause-buffer_after c).Then-i-lt5) ∙ ap (pasted a.buffer.now a.at) (sym (letter (goal.at.returns-then-i-lt5-clause-buffer_after c).Then-i-lt5))

pub returns-then-is_printable-clause-value : goal.returns-then-is_printable-clause-value
returns-then-is_printable-clause-value c =
    let a = c.args in sym (ap (λ (l : List ℕ). a.at + length l) (plain c))

pub returns-then-is_printable-clause-buffer_after : goal.returns-then-is_printable-clause-buffer_after
returns-then-is_printable-clause-buffer_after c =
    let a = c.args in set_pasted a.buffer.now a.at _ (omega (arith, room-plain c)) ∙ ap (pasted a.buffer.now a.at) (sym (plain c))

pub returns-clause-value : goal.returns-clause-value
returns-clause-value c =
    let a = c.args in
    let d = digits (goal.at.returns-clause-value c).Else-is_printable in
    let w : a.b / 16 % 16 ≡ a.b / 16 = omega arith in sym (ap (λ (l : List ℕ). a.at + length l) d)

pub returns-clause-buffer_after : goal.returns-clause-buffer_after
returns-clause-buffer_after c =
    let a = c.args in
    let d = digits (goal.at.returns-clause-buffer_after c).Else-is_printable in
    let w : a.b / 16 % 16 ≡ a.b / 16 = omega arith in five_pasted a.buffer.now a.at _ _ _ _ _ (room-digits (goal.at.returns-clause-buffer_after c).Else-is_printable)
    ∙ ap (pasted a.buffer.now a.at) (simp (c.hex_digit.ensures ∙ ap hex_digit w, c.hex_digit-2.ensures) (sym d))

pub bounds-buffer-at : goal.bounds-buffer-at
bounds-buffer-at c = omega (arith, room-letter c)

pub overflow_add-buffer : goal.overflow_add-buffer
overflow_add-buffer c = omega (arith, room-letter (goal.at.overflow_add-buffer c).Then-i-lt5)

pub bounds-buffer-at-then-i-lt5 : goal.bounds-buffer-at-then-i-lt5
bounds-buffer-at-then-i-lt5 c = simp length-set (omega (arith, room-letter (goal.at.bounds-buffer-at-then-i-lt5 c).Then-i-lt5))

pub overflow_add-buffer-then-i-lt5 : goal.overflow_add-buffer-then-i-lt5
overflow_add-buffer-then-i-lt5 c = omega (arith, room-letter (goal.at.overflow_add-buffer-then-i-lt5 c).Then-i-lt5)

pub bounds-buffer-at-then-i-lt5-2 : goal.bounds-buffer-at-then-i-lt5-2
bounds-buffer-at-then-i-lt5-2 c = simp length-set (omega (arith, room-letter (goal.at.bounds-buffer-at-then-i-lt5-2 c).Then-i-lt5))

pub overflow_add-result : goal.overflow_add-result
overflow_add-result c = omega (arith, room-letter (goal.at.overflow_add-result c).Then-i-lt5)

pub bounds-buffer-at-then-is_printable : goal.bounds-buffer-at-then-is_printable
bounds-buffer-at-then-is_printable c = omega (arith, room-plain c)

pub overflow_add-result-then-is_printable : goal.overflow_add-result-then-is_printable
overflow_add-result-then-is_printable c = omega (arith, room-plain c)

pub bounds-buffer-at-2 : goal.bounds-buffer-at-2
bounds-buffer-at-2 c = omega (arith, room-digits c)

pub overflow_add-buffer-2 : goal.overflow_add-buffer-2
overflow_add-buffer-2 c = omega (arith, room-digits c)

pub bounds-buffer-at-3 : goal.bounds-buffer-at-3
bounds-buffer-at-3 c = simp length-set (omega (arith, room-digits c))

pub overflow_add-buffer-3 : goal.overflow_add-buffer-3
overflow_add-buffer-3 c = omega (arith, room-digits (goal.at.overflow_add-buffer-3 c).Else-is_printable)

pub bounds-buffer-at-4 : goal.bounds-buffer-at-4
bounds-buffer-at-4 c = simp length-set (omega (arith, room-digits (goal.at.bounds-buffer-at-4 c).Else-is_printable))

pub overflow_add-buffer-4 : goal.overflow_add-buffer-4
overflow_add-buffer-4 c = omega (arith, room-digits (goal.at.overflow_add-buffer-4 c).Else-is_printable)

pub bounds-buffer-at-5 : goal.bounds-buffer-at-5
bounds-buffer-at-5 c = simp length-set (omega (arith, room-digits (goal.at.bounds-buffer-at-5 c).Else-is_printable))

pub overflow_add-buffer-5 : goal.overflow_add-buffer-5
overflow_add-buffer-5 c = omega (arith, room-digits (goal.at.overflow_add-buffer-5 c).Else-is_printable)

pub bounds-buffer-at-6 : goal.bounds-buffer-at-6
bounds-buffer-at-6 c = simp length-set (omega (arith, room-digits (goal.at.bounds-buffer-at-6 c).Else-is_printable))

pub overflow_add-result-2 : goal.overflow_add-result-2
overflow_add-result-2 c = omega (arith, room-digits (goal.at.overflow_add-result-2 c).Else-is_printable)
