-- What holds of the first segment of a message that was read: it begins the message, and its first eight bytes hold no CR. Assumes nothing.
use mathlib.Core.Path.{◌≡◌, refl, sym, ap, ◌∙◌}
use mathlib.Core.List.{List}
use mathlib.Core.Bool.{Bool, true, false}
use Prim.Native.Nat.{ℕ, zero, suc, ◌+◌, ◌-◌, ◌≤◌, ◌<◌}
use native.Mathlib.Omega.{arith}
use lib.Dec.{eqb, leb}
use lib.ListN.{length, get_or}
use borrow.Author.Tests.{eqb-true, leb-true, leb-false}
use Rattle.alphabet.specs.Bytes.{carriage_return}
use Rattle.alphabet.specs.Delimiters.{permitted}
use Rattle.alphabet.specs.Lists.{find}
use Rattle.alphabet.specs.Parts.{part_at, from_to}
use Rattle.alphabet.proofs.BoolLaws.{false_true, and_both}
use Rattle.alphabet.proofs.DelimiterLaws.{delimiter_permitted}
use Rattle.alphabet.proofs.ListLaws.{find_is, find_own}
use Rattle.alphabet.proofs.PartLaws.{standing_first}
use Rattle.reading.specs.Segments.{segment_at, delimiters_of}
use Rattle.reading.specs.Message.{Opened, Message}
use Rattle.reading.proofs.SegmentLaws.{segment_some}
use Rattle.reading.proofs.Accepted.{message_last}

module _ (m : List ℕ) (o : Opened m) where
  -- a delimiter is no CR
  delimiter_not : (j : ℕ) → j < 5 → get_or (delimiters_of m) j 0 ≡ carriage_return → ⊥
  delimiter_not j h e =
      let p = delimiter_permitted (delimiters_of m) refl o.delimiters_right j h in
      false_true (ap permitted (sym e) ∙ p)

  -- nor is a letter of `MSH`
  letter_not : (i b : ℕ) → eqb (get_or m i 0) b ≡ true → (b ≡ carriage_return → ⊥) → get_or m i 0 ≡ carriage_return → ⊥
  letter_not i b e n q = n (sym (eqb-true (get_or m i 0) b e) ∙ q)

  pub early_not : (i : ℕ) → i < 8 → get_or m i 0 ≡ carriage_return → ⊥
  early_not zero h q = let n = and_both (eqb (get_or m 0 0) 77) _ o.header in letter_not 0 77 n.0 (λ e. omega arith) q
  early_not (suc zero) h q =
      let n = and_both (eqb (get_or m 1 0) 83) (eqb (get_or m 2 0) 72) (and_both (eqb (get_or m 0 0) 77) _ o.header).1 in
      letter_not 1 83 n.0 (λ e. omega arith) q
  early_not (suc (suc zero)) h q =
      let n = and_both (eqb (get_or m 1 0) 83) (eqb (get_or m 2 0) 72) (and_both (eqb (get_or m 0 0) 77) _ o.header).1 in
      letter_not 2 72 n.1 (λ e. omega arith) q
  early_not (suc (suc (suc zero))) h q = delimiter_not 0 (omega arith) q
  early_not (suc (suc (suc (suc zero)))) h q = delimiter_not 1 (omega arith) q
  early_not (suc (suc (suc (suc (suc zero))))) h q = delimiter_not 2 (omega arith) q
  early_not (suc (suc (suc (suc (suc (suc zero)))))) h q = delimiter_not 3 (omega arith) q
  early_not (suc (suc (suc (suc (suc (suc (suc zero))))))) h q = delimiter_not 4 (omega arith) q
  early_not (suc (suc (suc (suc (suc (suc (suc (suc i)))))))) h q = absurd (omega arith)

  -- so the first CR stands behind them
  pub header_long : find carriage_return m < length m → 8 ≤ find carriage_return m
  header_long h = at (leb 8 (find carriage_return m)) refl
    where
      at : (t : Bool) → leb 8 (find carriage_return m) ≡ t → 8 ≤ find carriage_return m
      at true e = leb-true 8 (find carriage_return m) e
      at false e = absurd (early_not (find carriage_return m) (leb-false 8 (find carriage_return m) e) (find_is carriage_return m h))

-- the first segment begins the message and has eight bytes or more
pub first_segment : (m : List ℕ) → Message m → (segment_at m 0 ≡ from_to 0 (find carriage_return m)) × (8 ≤ find carriage_return m) × (find carriage_return m < length m)
unfolding part_at
first_segment m g =
    let o = g.opened in
    let n = o.nine_bytes in
    let own = find_own m (length m - 1) (omega arith) in
    let last = ap (λ (b : ℕ). find b m) (message_last m g) in
    let h : find carriage_return m < length m = omega arith in
    let e : 0 + find carriage_return m ≡ find carriage_return m = omega arith in
    let s = segment_some m 0 0 (find carriage_return m) (standing_first carriage_return 0 m ∙ ap (from_to 0) e) (λ q. omega arith) in
    (s, header_long m o h, h)
