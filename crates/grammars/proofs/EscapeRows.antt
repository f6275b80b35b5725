-- The escape table as its rows is what is read and what is written: a sequence is known exactly where the table has it, it says what the table says, and each
-- delimiter is written by its own row. Rests on the tables of bytes. Assumes nothing.
use mathlib.Core.Path.{◌≡◌, refl, sym, subst}
use mathlib.Core.List.{List, [], ◌∷◌}
use mathlib.Core.Bool.{true, ◌&&◌}
use Prim.Native.Nat.{ℕ, zero, suc, ◌+◌, ◌*◌, ◌<◌}
use native.Mathlib.Omega.{arith}
use lib.Dec.{ltb, eqb}
use lib.ListN.{get_or}
use borrow.Author.Tests.{lt-ltb, ltb-true, eqb-true}
use Rattle.alphabet.specs.Bytes.{hex_of}
use Rattle.alphabet.specs.Delimiters.{first_wrong_delimiter}
use Rattle.alphabet.specs.Hex.{all_hex, pairs_of}
use Rattle.alphabet.specs.Lists.{first, find}
use Rattle.alphabet.proofs.BoolLaws.{and_both, both_and, false_true}
use Rattle.alphabet.proofs.DelimiterLaws.{delimiter_own}
use Rattle.alphabet.proofs.ListLaws.{find_is}
use Rattle.escaping.specs.Escape.{letters, escape_byte}
use Rattle.text.specs.Unescape.{known, meaning}
use Rattle.escaping.proofs.PieceLaws.{written_letter}
use Rattle.grammars.specs.Escapes.{Letter, F, S, T, R, E, Pairs, none, pair, Escapes, letter, hex}
use Rattle.laws.proofs.RoundTrip.{AreBytes}
use Rattle.grammars.proofs.TableLaws.{hex_table}

module _ (field component repetition escape subcomponent : ℕ) where
  abbrev ds : List ℕ
  ds = field ∷ component ∷ repetition ∷ escape ∷ subcomponent ∷ []

  -- a row is read
  letter_known : {l b : ℕ} → Letter field component repetition escape subcomponent l b → (known (l ∷ []) ≡ true) × (meaning ds (l ∷ []) ≡ b ∷ [])
  unfolding known meaning first
  letter_known F = (refl, refl)
  letter_known S = (refl, refl)
  letter_known T = (refl, refl)
  letter_known R = (refl, refl)
  letter_known E = (refl, refl)

  -- and nothing else of one letter
  pub row_at : (i l : ℕ) → i < 5 → get_or letters i 0 ≡ l → Letter field component repetition escape subcomponent l (get_or ds i 0)
  row_at zero l h e = subst (λ (x : ℕ). Letter field component repetition escape subcomponent x field) e F
  row_at (suc zero) l h e = subst (λ (x : ℕ). Letter field component repetition escape subcomponent x component) e S
  row_at (suc (suc zero)) l h e = subst (λ (x : ℕ). Letter field component repetition escape subcomponent x repetition) e R
  row_at (suc (suc (suc zero))) l h e = subst (λ (x : ℕ). Letter field component repetition escape subcomponent x escape) e E
  row_at (suc (suc (suc (suc zero)))) l h e = subst (λ (x : ℕ). Letter field component repetition escape subcomponent x subcomponent) e T
  row_at (suc (suc (suc (suc (suc i))))) l h e = absurd (omega arith)

  -- each delimiter is written by its own row
  pub row_written : first_wrong_delimiter ds ≡ 5 → {l b : ℕ} → Letter field component repetition escape subcomponent l b → escape_byte ds b ≡ escape ∷ l ∷ escape ∷ []
  row_written fine F = written_letter ds field 0 (sym (delimiter_own ds refl fine 0 (omega arith))) (omega arith)
  row_written fine S = written_letter ds component 1 (sym (delimiter_own ds refl fine 1 (omega arith))) (omega arith)
  row_written fine R = written_letter ds repetition 2 (sym (delimiter_own ds refl fine 2 (omega arith))) (omega arith)
  row_written fine E = written_letter ds escape 3 (sym (delimiter_own ds refl fine 3 (omega arith))) (omega arith)
  row_written fine T = written_letter ds subcomponent 4 (sym (delimiter_own ds refl fine 4 (omega arith))) (omega arith)

  -- ---- pairs of hex digits

  pairs_known : {l t : List ℕ} → AreBytes l → Pairs l t → (all_hex l ≡ true) × (pairs_of l ≡ t)
  unfolding all_hex pairs_of
  pairs_known small none = (refl, refl)
  pairs_known {l} small (pair {l = r} a b h k p) =
      let x = hex_table a (small 0) in
      let y = hex_table b (small 1) in
      let i = pairs_known (λ n. small (suc (suc n))) p in
      (both_and (both_and (lt-ltb (hex_of a) 16 (omega arith)) (lt-ltb (hex_of b) 16 (omega arith))) i.0, λ j. (x j * 16 + y j) ∷ i.1 j)

  known_pairs : (l : List ℕ) → AreBytes l → all_hex l ≡ true → Pairs l (pairs_of l)
  unfolding all_hex pairs_of
  known_pairs [] small e = none
  known_pairs (a ∷ []) small e = absurd (false_true e)
  known_pairs (a ∷ b ∷ r) small e =
      let c = and_both (ltb (hex_of a) 16 && ltb (hex_of b) 16) (all_hex r) e in
      let d = and_both (ltb (hex_of a) 16) (ltb (hex_of b) 16) c.0 in
      let x = hex_table a (small 0) in
      let y = hex_table b (small 1) in
      let h = ltb-true (hex_of a) 16 d.0 in
      let k = ltb-true (hex_of b) 16 d.1 in
      subst (λ (t : List ℕ). Pairs (a ∷ b ∷ r) t) (λ j. (sym x j * 16 + sym y j) ∷ pairs_of r) (pair a b (omega arith) (omega arith) (known_pairs r (λ n. small (suc (suc n))) c.1))

  odd : (a : ℕ) → all_hex (a ∷ []) ≡ true → ⊥
  unfolding all_hex
  odd a e = false_true e

  -- ---- a sequence

  pub escapes_known : {c t : List ℕ} → AreBytes c → Escapes field component repetition escape subcomponent c t → (known c ≡ true) × (meaning ds c ≡ t)
  unfolding known meaning
  escapes_known small (letter r) = letter_known r
  escapes_known small (hex p) = let k = pairs_known (λ n. small (suc n)) p in (k.0, k.1)

  pub known_escapes : (c : List ℕ) → AreBytes c → known c ≡ true → Escapes field component repetition escape subcomponent c (meaning ds c)
  unfolding known meaning
  known_escapes [] small e = absurd (false_true e)
  known_escapes (l ∷ []) small e =
      let h = ltb-true (find l letters) 5 e in
      letter (row_at (find l letters) l h (find_is l letters h))
  known_escapes (l ∷ a ∷ []) small e = absurd (odd a (and_both (eqb l 88) (all_hex (a ∷ [])) e).1)
  known_escapes (l ∷ a ∷ b ∷ r) small e =
      let c = and_both (eqb l 88) (all_hex (a ∷ b ∷ r)) e in
      subst (λ (x : ℕ). Escapes field component repetition escape subcomponent (x ∷ a ∷ b ∷ r) (pairs_of (a ∷ b ∷ r))) (sym (eqb-true l 88 c.0))
      (hex (known_pairs (a ∷ b ∷ r) (λ n. small (suc n)) c.1))
