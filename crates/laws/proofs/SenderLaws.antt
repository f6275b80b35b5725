-- The sender's header as it was taken from the message: one segment, whose bytes are printable; its fields hold no field separator. Assumes nothing.
use mathlib.Core.Path.{◌≡◌, refl, sym, ap, ◌∙◌, subst}
use mathlib.Core.Bool.{Bool, true, false, ◌||◌}
use mathlib.Core.List.{List, [], ◌∷◌}
use Prim.Native.Nat.{ℕ, ◌+◌, ◌-◌, ◌≤◌, ◌<◌}
use native.Mathlib.Omega.{arith}
use lib.ListN.{length, get_or, take}
use borrow.Author.Tests.{ne_eqb}
use Rattle.alphabet.specs.Bytes.{carriage_return, printable, allowed}
use Rattle.alphabet.specs.Delimiters.{permitted}
use Rattle.alphabet.specs.Lists.{find}
use Rattle.alphabet.specs.Parts.{split}
use Rattle.alphabet.proofs.BoolLaws.{false_true}
use Rattle.alphabet.proofs.DelimiterLaws.{delimiter_permitted, delimiters_differ}
use Rattle.laws.proofs.EachLaws.{Each, Every, at_each, each_take, each_both, each_weaken, each_split, split_each, every_at}
use Rattle.reading.specs.Segments.{segments, delimiters_of, field_separator}
use Rattle.reading.specs.Message.{Opened}
use Rattle.element.proofs.RawLaws.{raw_component}
use Rattle.laws.proofs.Clean.{permitted_printable}
use Rattle.laws.proofs.LineLaws.{Printable, Not, Clean}
use Rattle.acknowledgement.specs.Acknowledgement.{sent, type_part}
use Rattle.acknowledgement.proofs.FieldLaws.{split_header, segments_header as one-segment, sent_is as sent-part}

plain_allowed : (b : ℕ) → allowed b ≡ true → Not carriage_return b → Printable b
plain_allowed b e n = subst (λ (t : Bool). (t || printable b) ≡ true) (ne_eqb b carriage_return n) e

module _ (h : List ℕ) (o : Opened h) (one : find carriage_return h + 1 ≡ length h) where
  abbrev pub ds : List ℕ
  ds = delimiters_of h

  abbrev pub sep : ℕ
  sep = field_separator h

  -- the header without its CR
  abbrev pub line : List ℕ
  line = take (find carriage_return h) h

  long : 4 ≤ length h
  long = let n = o.nine_bytes in omega arith

  pub segments_header : segments h ≡ line ∷ []
  segments_header = one-segment h long one

  no_return : Each (Not carriage_return) line
  unfolding Every
  no_return = (subst (Every (Each (Not carriage_return))) (split_header h long one) (split_each carriage_return h)).0

  line_printable : Each Printable line
  line_printable =
      let fine : Each (λ (b : ℕ). allowed b ≡ true) line = each_take (λ (b : ℕ). allowed b ≡ true) (find carriage_return h) h (at_each (λ (b : ℕ). allowed b ≡ true) h o.all_allowed) in
      each_weaken (λ (b : ℕ). (allowed b ≡ true) × Not carriage_return b) Printable (λ b p. plain_allowed b p.0 p.1) line
      (each_both (λ (b : ℕ). allowed b ≡ true) (Not carriage_return) line fine no_return)

  -- ---- fields

  pub sent_is : (f : ℕ) → (f ≡ 1 → ⊥) → sent h f ≡ get_or (split sep line) (f - 1) []
  sent_is = sent-part h long one

  -- each byte of a part of something keeps what it was, and none is the separator
  part_each : (P : ℕ → Type 0) (x : ℕ) (l : List ℕ) (k : ℕ) → Each P l → Each (λ (b : ℕ). P b × Not x b) (get_or (split x l) k [])
  unfolding Each
  part_each P x l k p =
      each_both P (Not x) (get_or (split x l) k []) (every_at (Each P) (split x l) tt (each_split P x l p) k) (every_at (Each (Not x)) (split x l) tt (split_each x l) k)

  pub field_clean : (f : ℕ) → (f ≡ 1 → ⊥) → Each (Clean sep) (sent h f)
  field_clean f n = subst (Each (Clean sep)) (sym (sent_is f n)) (part_each Printable sep line (f - 1) line_printable)

  -- ---- the event

  pub event_clean : Each (λ (b : ℕ). Clean sep b × Not (get_or ds 2 0) b) (type_part h 2)
  event_clean =
      let repetition = part_each (Clean sep) (get_or ds 2 0) (sent h 9) 0 (field_clean 9 (λ e. omega arith)) in
      let event = part_each (λ (b : ℕ). Clean sep b × Not (get_or ds 2 0) b) (get_or ds 1 0) (get_or (split (get_or ds 2 0) (sent h 9)) 0 []) 1 repetition in
      subst (Each (λ (b : ℕ). Clean sep b × Not (get_or ds 2 0) b)) (sym (raw_component h long 9 2 (omega arith) (omega arith)))
      (each_weaken (λ (b : ℕ). (Clean sep b × Not (get_or ds 2 0) b) × Not (get_or ds 1 0) b) (λ (b : ℕ). Clean sep b × Not (get_or ds 2 0) b) (λ b p. p.0) _ event)

  -- ---- the delimiters, and signs that are none

  pub delimiter_printable : (i : ℕ) → i < 5 → Printable (get_or ds i 0)
  delimiter_printable i l = permitted_printable (get_or ds i 0) (delimiter_permitted ds refl o.delimiters_right i l)

  pub delimiters_apart : (i j : ℕ) → i < 5 → j < 5 → (i ≡ j → ⊥) → Not (get_or ds j 0) (get_or ds i 0)
  delimiters_apart i j a b n e = n (delimiters_differ ds refl o.delimiters_right i j a b e)

  -- a sign that is no delimiter of any sender
  pub no_delimiter : (x i : ℕ) → i < 5 → permitted x ≡ false → Not (get_or ds i 0) x
  no_delimiter x i l f e = false_true (sym f ∙ ap permitted e ∙ delimiter_permitted ds refl o.delimiters_right i l)

  pub sign_clean : (x : ℕ) → Printable x → permitted x ≡ false → Clean sep x
  sign_clean x p f = (p, no_delimiter x 0 (omega arith) f)
