-- A text is written as document 01's rules say, and in no other way. Rests on the escape table's rows and the tables of bytes. Assumes nothing.
use mathlib.Core.Path.{◌≡◌, refl, sym, ap, ap₂, subst, ◌∙◌}
use mathlib.Core.List.{List, [], ◌∷◌, ◌++◌}
use mathlib.Core.Bool.{Bool, true, false, ◌||◌}
use Prim.Native.Nat.{ℕ, suc, ◌/◌, ◌%◌, ◌≤◌, ◌<◌}
use native.Mathlib.Omega.{arith}
use lib.Dec.{ltb, eqb}
use lib.ListN.{get_or}
use borrow.Author.Tests.{ltb-true, ltb-false, eqb-true, ne_eqb}
use Rattle.alphabet.specs.Bytes.{carriage_return, printable, hex_digit, is_null}
use Rattle.alphabet.specs.Delimiters.{first_wrong_delimiter}
use Rattle.alphabet.specs.Lists.{find}
use Rattle.alphabet.proofs.BoolLaws.{false_true, or_neither, neither_or}
use Rattle.alphabet.proofs.ListLaws.{find_is, find_own}
use Rattle.alphabet.proofs.NullLaws.{two_quotes_lem as null-quotes, other_quotes, not_quotes}
use Rattle.escaping.specs.Escape.{letters, escape_byte, escape_bytes, two_quotes}
use Rattle.escaping.specs.Escape as Text
use Rattle.escaping.proofs.PieceLaws.{written_letter, written_plain, written_hex}
use Rattle.escaping.proofs.OutcomeLaws.{escape_null, escape_other}
use Rattle.laws.proofs.RoundTrip.{AreBytes}
use Rattle.grammars.specs.Escapes.{Letter, F, S, T, R, E, NoDelimiter, own_hex, WritesByte, by_letter, not_allowed, return, plainly, WritesBytes, end, next, Writes, two_quotes_lem, other}
use Rattle.grammars.specs.Tables.{marked, allowed_bytes}
use Rattle.grammars.proofs.EscapeRows.{row_at, row_written}
use Rattle.grammars.proofs.TableLaws.{allowed_table, hex_written}

-- ---- the tables: what is written plainly is what is printable

printed : (b : ℕ) → b < 256 → marked allowed_bytes b ≡ true → (b ≡ carriage_return → ⊥) → printable b ≡ true
printed b h e n = ap (λ (t : Bool). t || printable b) (sym (ne_eqb b carriage_return n)) ∙ allowed_table b h ∙ e

unprinted : (b : ℕ) → b < 256 → marked allowed_bytes b ≡ false → printable b ≡ false
unprinted b h e = (or_neither (eqb b carriage_return) (printable b) (allowed_table b h ∙ e)).1

not_return : (b : ℕ) → printable b ≡ true → b ≡ carriage_return → ⊥
not_return b e q = false_true (ap printable (sym q) ∙ e)

or_true : (t : Bool) → (t || true) ≡ true
or_true true = refl
or_true false = refl

own_hex_lem : (escape b : ℕ) → b < 256 → escape ∷ 88 ∷ hex_digit (b / 16) ∷ hex_digit (b % 16) ∷ escape ∷ [] ≡ own_hex escape b
own_hex_lem escape b h =
    let x = hex_written (b / 16) (omega arith) in
    let y = hex_written (b % 16) (omega arith) in
    λ i. escape ∷ 88 ∷ x i ∷ y i ∷ escape ∷ []

module _ (field component repetition escape subcomponent : ℕ) (fine : first_wrong_delimiter (field ∷ component ∷ repetition ∷ escape ∷ subcomponent ∷ []) ≡ 5) where
  abbrev ds : List ℕ
  ds = field ∷ component ∷ repetition ∷ escape ∷ subcomponent ∷ []

  -- ---- a byte is a delimiter exactly where a row has it

  row_found : {l b : ℕ} → Letter field component repetition escape subcomponent l b → find b ds < 5
  row_found F = let h = find_own ds 0 (omega arith) in omega arith
  row_found S = let h = find_own ds 1 (omega arith) in omega arith
  row_found R = let h = find_own ds 2 (omega arith) in omega arith
  row_found E = let h = find_own ds 3 (omega arith) in omega arith
  row_found T = let h = find_own ds 4 (omega arith) in omega arith

  found_row : (b : ℕ) → find b ds < 5 → Letter field component repetition escape subcomponent (get_or letters (find b ds) 0) b
  found_row b h =
      subst (λ (x : ℕ). Letter field component repetition escape subcomponent (get_or letters (find b ds) 0) x) (find_is b ds h)
      (row_at field component repetition escape subcomponent (find b ds) (get_or letters (find b ds) 0) h refl)

  no_row : (b : ℕ) → 5 ≤ find b ds → NoDelimiter field component repetition escape subcomponent b
  no_row b h l r = let k = row_found r in omega arith

  past : (b : ℕ) → NoDelimiter field component repetition escape subcomponent b → 5 ≤ find b ds
  past b n = at (ltb (find b ds) 5) refl
    where
      at : (t : Bool) → ltb (find b ds) 5 ≡ t → 5 ≤ find b ds
      at true e = absurd (n _ (found_row b (ltb-true (find b ds) 5 e)))
      at false e = ltb-false (find b ds) 5 e

  -- ---- one byte

  byte_is : {b : ℕ} {w : List ℕ} → b < 256 → WritesByte field component repetition escape subcomponent b w → escape_byte ds b ≡ w
  byte_is h (by_letter r) = row_written field component repetition escape subcomponent fine r
  byte_is h (not_allowed b n e) = written_hex ds b (past b n) (unprinted b h e) ∙ own_hex_lem escape b h
  byte_is h (return n) = written_hex ds carriage_return (past carriage_return n) refl ∙ own_hex_lem escape carriage_return h
  byte_is h (plainly b n e c) = written_plain ds b (past b n) (printed b h e c)

  byte_writes : (b : ℕ) → b < 256 → WritesByte field component repetition escape subcomponent b (escape_byte ds b)
  byte_writes b h = by (ltb (find b ds) 5) refl (printable b) refl
    where
      hex : 5 ≤ find b ds → printable b ≡ false → (t : Bool) → eqb b carriage_return ≡ t → WritesByte field component repetition escape subcomponent b (own_hex escape b)
      hex k q true e =
          let c = eqb-true b carriage_return e in
          subst (λ (x : ℕ). WritesByte field component repetition escape subcomponent x (own_hex escape x)) (sym c)
          (return (λ l r. no_row b k l (subst (λ (x : ℕ). Letter field component repetition escape subcomponent l x) (sym c) r)))
      hex k q false e = not_allowed b (no_row b k) (sym (allowed_table b h) ∙ neither_or e q)

      by : (t : Bool) → ltb (find b ds) 5 ≡ t → (u : Bool) → printable b ≡ u → WritesByte field component repetition escape subcomponent b (escape_byte ds b)
      by true p u q =
          let k = ltb-true (find b ds) 5 p in
          subst (λ (w : List ℕ). WritesByte field component repetition escape subcomponent b w) (sym (written_letter ds b (find b ds) refl k)) (by_letter (found_row b k))
      by false p true q =
          let k = ltb-false (find b ds) 5 p in
          subst (λ (w : List ℕ). WritesByte field component repetition escape subcomponent b w) (sym (written_plain ds b k q))
          (plainly b (no_row b k) (sym (allowed_table b h) ∙ (ap (λ (t : Bool). eqb b carriage_return || t) q ∙ or_true (eqb b carriage_return))) (not_return b q))
      by false p false q =
          let k = ltb-false (find b ds) 5 p in
          subst (λ (w : List ℕ). WritesByte field component repetition escape subcomponent b w) (sym (written_hex ds b k q ∙ own_hex_lem escape b h)) (hex k q (eqb b carriage_return) refl)

  -- ---- a text

  bytes_are : {t w : List ℕ} → AreBytes t → WritesBytes field component repetition escape subcomponent t w → escape_bytes ds t ≡ w
  unfolding escape_bytes
  bytes_are small end = refl
  bytes_are small (next b r) = ap₂ (λ (x y : List ℕ). x ++ y) (byte_is (small 0) b) (bytes_are (λ i. small (suc i)) r)

  bytes_write : (t : List ℕ) → AreBytes t → WritesBytes field component repetition escape subcomponent t (escape_bytes ds t)
  unfolding escape_bytes
  bytes_write [] small = end
  bytes_write (b ∷ t) small = next (byte_writes b (small 0)) (bytes_write t (λ i. small (suc i)))

  pub writes_is : {t w : List ℕ} → AreBytes t → Writes field component repetition escape subcomponent t w → Text.escape ds t ≡ w
  writes_is small two_quotes_lem = escape_null ds (34 ∷ 34 ∷ []) refl
  writes_is {t} small (other n r) = escape_other ds t (other_quotes t n) ∙ bytes_are small r

  pub escape_writes : (t : List ℕ) → AreBytes t → Writes field component repetition escape subcomponent t (Text.escape ds t)
  escape_writes t small = at (is_null t) refl
    where
      at : (u : Bool) → is_null t ≡ u → Writes field component repetition escape subcomponent t (Text.escape ds t)
      at true e =
          subst (λ (w : List ℕ). Writes field component repetition escape subcomponent t w) (sym (escape_null ds t e))
          (subst (λ (x : List ℕ). Writes field component repetition escape subcomponent x (two_quotes ds)) (sym (null-quotes t e)) two_quotes_lem)
      at false e = subst (λ (w : List ℕ). Writes field component repetition escape subcomponent t w) (sym (escape_other ds t e)) (other (not_quotes t e) (bytes_write t small))
