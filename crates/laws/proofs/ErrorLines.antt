-- The ERR segment as a line of what is written: its parts are capitals and digits, so that no delimiter stands in them. Assumes nothing.
use mathlib.Core.Path.{◌≡◌, refl, sym, ap, ◌∙◌, subst}
use mathlib.Core.Logic.{◌⊎◌, inl, inr}
use mathlib.Core.Bool.{Bool, true, false, cond, ◌&&◌, ◌||◌}
use mathlib.Core.List.{List, [], ◌∷◌}
use Prim.Native.Nat.{ℕ, ◌+◌, ◌-◌, ◌≤◌, ◌<◌}
use native.Mathlib.Omega.{arith}
use lib.Dec.{eqb, ltb}
use lib.ListN.{length, get_or, take, length-map}
use borrow.Author.Tests.{eq-eqb, le-leb, lt-leb, ltb-true}
use Rattle.alphabet.specs.Answers.{number_of, passes}
use Rattle.alphabet.specs.Bytes.{carriage_return, capital, digit, ascii}
use Rattle.alphabet.specs.Delimiters.{permitted}
use Rattle.alphabet.specs.Digits.{all_digits}
use Rattle.alphabet.specs.Lists.{find}
use Rattle.alphabet.specs.Parts.{split, join}
use Rattle.alphabet.specs.declared.answers.Refusal.TheVariants.{SegmentMisplaced, EndedEarly}
use Rattle.alphabet.proofs.BoolLaws.{from_to_lem, and_both, false_true}
use Rattle.alphabet.proofs.CheckLaws.{numbered_fails}
use Rattle.alphabet.proofs.PartLaws.{split_last}
use Rattle.reading.specs.Message.{Opened}
use Rattle.reading.specs.Reading.{reading}
use Rattle.reading.specs.Segments.{segments, delimiters_of, field_separator, named, is_header, name, name_of, capital_or_digit}
use Rattle.reading.proofs.Accepted.{accepted as accepted-message}
use Rattle.reading.proofs.Honest.{reading_numbered}
use Rattle.structure.specs.SegmentNames.{segment_names}
use Rattle.structure.specs.Structures.{built_in}
use Rattle.structure.specs.Shapes.{Shape}
use Rattle.structure.specs.Judged.{Judged, accepted, refused, no_structure, by, unread, read, Answers}
use Rattle.fault.specs.Faults.{Judgement}
use Rattle.fault.specs.declared.FaultRecord.{FaultRecord}
use Rattle.std.specs.Prelude.{Ok, Err}
use Rattle.field_table.specs.Table.{rows}
use Rattle.fields.specs.Judging.{Fault, judging, fault_answer}
use Rattle.verdict.specs.Verdicts.{Verdicts}
use Rattle.verdict.specs.Verdicts.VerdictsBy.{refused as by-structure, judged as by-fields}
use Rattle.verdict.proofs.VerdictLaws.{shaped}
use Rattle.error_segment.specs.Numerals.{numeral}
use Rattle.error_segment.specs.Errors.{faulty, field_position, nowhere, error_parts, error_line, error_lines}
use Rattle.error_segment.proofs.ErrorLaws.{parts_nowhere, parts_there}
use Rattle.laws.proofs.EachLaws.{Each, Every, each_weaken, each_join, each_free, every_at, every_weaken}
use Rattle.laws.proofs.FaultNumbers.{FaultNumbered, judging_numbered}
use Rattle.laws.proofs.NumeralReads.{numeral_reads}
use Rattle.laws.proofs.LineLaws.{or_true, Printable, Not, Clean, joined_printable, joined_parts}
use Rattle.laws.proofs.SenderLaws.{delimiter_printable, delimiters_apart, no_delimiter, sign_clean}
use Rattle.laws.proofs.ValueBytes.{digit_none}
use Rattle.laws.proofs.CodeLaws.{same_fault, apart}
use Rattle.laws.proofs.WrittenLaws.{Behind}

-- ---- signs

-- a capital or a digit
abbrev Sign : ℕ → Type 0
Sign b = capital_or_digit b ≡ true

sign_either : (b : ℕ) → Sign b → (capital b ≡ true) ⊎ (digit b ≡ true)
sign_either b e = at (capital b) refl e
  where
    at : (t : Bool) → capital b ≡ t → (t || digit b) ≡ true → (capital b ≡ true) ⊎ (digit b ≡ true)
    at true c q = inl c
    at false c q = inr q

capital_none : (b : ℕ) → capital b ≡ true → permitted b ≡ false
capital_none b e =
    let d = from_to_lem 65 90 b e in
    rw (le-leb 33 b (omega arith), lt-leb b 47 (omega arith)) (rw (le-leb 58 b (omega arith), lt-leb b 64 (omega arith)) (rw (lt-leb 91 b (omega arith), lt-leb 123 b (omega arith))))

sign_none : (b : ℕ) → Sign b → permitted b ≡ false
sign_none b e = at (sign_either b e)
  where
    at : (capital b ≡ true) ⊎ (digit b ≡ true) → permitted b ≡ false
    at (inl c) = capital_none b c
    at (inr d) = digit_none b d

sign_printable : (b : ℕ) → Sign b → Printable b
sign_printable b e = at (sign_either b e)
  where
    at : (capital b ≡ true) ⊎ (digit b ≡ true) → Printable b
    at (inl c) = let d = from_to_lem 65 90 b c in rw (le-leb 32 b (omega arith)) (rw (le-leb b 126 (omega arith)))
    at (inr c) = let d = from_to_lem 48 57 b c in rw (le-leb 32 b (omega arith)) (rw (le-leb b 126 (omega arith)))

digit_sign : (b : ℕ) → digit b ≡ true → Sign b
digit_sign b e = at (capital b)
  where
    at : (t : Bool) → (t || digit b) ≡ true
    at true = refl
    at false = e

digits_signs : (l : List ℕ) → all_digits l ≡ true → Each Sign l
unfolding Each all_digits
digits_signs [] e = tt
digits_signs (d ∷ r) e = let b = and_both (digit d) (all_digits r) e in (digit_sign d b.0, digits_signs r b.1)

numeral_signs : (n : ℕ) → Each Sign (numeral n)
numeral_signs n = digits_signs (numeral n) (numeral_reads n).0

position_signs : (number field : ℕ) → Each Sign (field_position number field)
unfolding Each
position_signs number field = at (eqb number 21)
  where
    at : (t : Bool) → Each Sign (cond t [] (numeral (cond (eqb number 20) 9 field)))
    at true = tt
    at false = numeral_signs (cond (eqb number 20) 9 field)

-- ---- the name of a segment of a message that was read

capital_sign : (b : ℕ) → capital b ≡ true → Sign b
capital_sign b e = rw e

pub named_signs : (sep : ℕ) (s : List ℕ) → named sep s ≡ true → (Sign (get_or s 0 0) × Sign (get_or s 1 0) × Sign (get_or s 2 0)) × (3 ≤ length s)
named_signs sep s e =
    let a = (and_both (capital (get_or s 0 0) && (capital_or_digit (get_or s 1 0) && capital_or_digit (get_or s 2 0))) _ e).0 in
    let b = and_both (capital (get_or s 0 0)) _ a in
    let c = and_both (capital_or_digit (get_or s 1 0)) (capital_or_digit (get_or s 2 0)) b.1 in
    ((capital_sign (get_or s 0 0) b.0, c.0, c.1), long s c.1)
  where
    long : (l : List ℕ) → Sign (get_or l 2 0) → 3 ≤ length l
    long [] q = absurd (false_true q)
    long (x ∷ []) q = absurd (false_true q)
    long (x ∷ y ∷ []) q = absurd (false_true q)
    long (x ∷ y ∷ z ∷ r) q = omega arith

front_signs : (sep : ℕ) (s : List ℕ) → named sep s ≡ true → Each Sign (take 3 s)
unfolding Each
front_signs sep s e = at s (named_signs sep s e).0
  where
    at : (l : List ℕ) → Sign (get_or l 0 0) × Sign (get_or l 1 0) × Sign (get_or l 2 0) → Each Sign (take 3 l)
    at [] q = tt
    at (x ∷ []) q = (q.0, tt)
    at (x ∷ y ∷ []) q = (q.0, (q.1, tt))
    at (x ∷ y ∷ z ∷ r) q = (q.0, (q.1, (q.2, tt)))

-- ---- what the verdict's record says of the message

-- a number up to 8, and 22, points nowhere
low_nowhere : (n : ℕ) → n ≤ 8 → nowhere n ≡ true
low_nowhere n h = ap (λ (t : Bool). eqb n 22 || t) (le-leb n 8 h) ∙ or_true (eqb n 22)

-- where it points somewhere, the message was read, and the record's place is that of a segment; that of a 20 is 0
module _ (m : List ℕ) where
  abbrev Points : FaultRecord → Type 0
  Points r = nowhere (number_of r.kind) ≡ false → (reading m ≡ passes) × (r.place < length (segments m)) × (number_of r.kind ≡ 20 → r.place ≡ 0)

  judged_points : (s : Shape) {j : Judgement} → reading m ≡ passes → Judged s (segment_names m) j → (r : FaultRecord) → j ≡ Err r → Points r
  unfolding segment_names
  judged_points s p (accepted y) r e = absurd (apart refl e)
  judged_points s p (refused place ends list f) r e = subst Points (same_fault e) (λ q. at (ltb place (length (segment_names m))) refl q)
    where
      at : (t : Bool) → ltb place (length (segment_names m)) ≡ t → nowhere (number_of (cond t SegmentMisplaced EndedEarly)) ≡ false
          → (reading m ≡ passes) × (place < length (segments m)) × (number_of (cond t SegmentMisplaced EndedEarly) ≡ 20 → place ≡ 0)
      at true e n = let l = ltb-true place (length (segment_names m)) e in let k = length-map (segments m) name_of in (p, omega arith, λ q. absurd (omega arith))
      at false e n = absurd (false_true (sym n))

  answers_points : {j : Judgement} → Answers m j → (r : FaultRecord) → j ≡ Err r → Points r
  answers_points (unread kind place f) r e =
      subst Points (same_fault e) (λ q. absurd (false_true (sym q ∙ low_nowhere (number_of kind) (numbered_fails 1 8 (reading m) kind place (reading_numbered m) f).1)))
  answers_points (read p (no_structure g)) r e = subst Points (same_fault e) (λ q. (p, let n = (accepted-message m p).some_segments in omega arith, λ e. refl))
  answers_points (read p (by x g j)) r e = judged_points x.shape p j r e

  fields_points : (f : Fault) → reading m ≡ passes → FaultNumbered 0 (length (segments m)) f → (r : FaultRecord) → fault_answer f ≡ Err r → Points r
  fields_points (Ok _) p h r e = absurd (apart refl e)
  fields_points (Err f) p h r e = subst Points (same_fault e) (λ q. (p, h.2, λ e. absurd (let b = h.0.0 in omega arith)))

  verdict_points : {j : Judgement} → Verdicts m j → (r : FaultRecord) → j ≡ Err r → Points r
  verdict_points (by-structure f a) r e = answers_points a r e
  verdict_points (by-fields a) r e = fields_points (judging rows m) (shaped built_in m a refl).passed (judging_numbered m rows) r e

  pub points : {r : FaultRecord} → Verdicts m (Err r) → Points r
  points {r} v = verdict_points v r refl

-- ---- the parts

part_signs : (m : List ℕ) {r : FaultRecord} → Verdicts m (Err r) → Every (Each Sign) (error_parts m r)
unfolding Every Each
part_signs m {r = r} v = at (nowhere (number_of r.kind)) refl
  where
    at : (t : Bool) → nowhere (number_of r.kind) ≡ t → Every (Each Sign) (error_parts m r)
    at true e = subst (Every (Each Sign)) (sym (parts_nowhere m r e)) (tt, (tt, (tt, (numeral_signs _, tt))))
    at false e =
        let p = points m v e in
        subst (Every (Each Sign)) (sym (parts_there m r e))
        (front_signs (field_separator m) (faulty m r.place) ((accepted-message m p.0).all_named r.place p.1), (numeral_signs _, (position_signs (number_of r.kind) r.field, (numeral_signs _, tt))))

pub four : (m : List ℕ) (r : FaultRecord) → length (error_parts m r) ≡ 4
four m r = at (nowhere (number_of r.kind)) refl
  where
    at : (t : Bool) → nowhere (number_of r.kind) ≡ t → length (error_parts m r) ≡ 4
    at true e = ap length (parts_nowhere m r e)
    at false e = ap length (parts_there m r e)

-- ---- whether there is a line

module _ (m : List ℕ) {found : Judgement} where
  pub lines_none : found ≡ Ok tt → error_lines m found ≡ []
  lines_none e = ap (error_lines m) e

  pub lines_one : {r : FaultRecord} → found ≡ Err r → error_lines m found ≡ error_line m r ∷ []
  lines_one e = ap (error_lines m) e

-- ---- the line, under the delimiters of a sound header h of the same delimiters

module _ (h : List ℕ) (o : Opened h) (one : find carriage_return h + 1 ≡ length h) (m : List ℕ) (same : delimiters_of h ≡ delimiters_of m) {r : FaultRecord} (v : Verdicts m (Err r)) where
  abbrev ds : List ℕ
  ds = delimiters_of h

  abbrev sep : ℕ
  sep = get_or ds 0 0

  abbrev between : ℕ
  between = get_or ds 1 0

  -- ERR-1
  abbrev pub told : List ℕ
  told = join between (error_parts m r)

  line_is : error_line m r ≡ join sep (ascii "ERR" ∷ told ∷ [])
  unfolding error_line
  line_is = ap (λ (d : List ℕ). join (get_or d 0 0) (ascii "ERR" ∷ join (get_or d 1 0) (error_parts m r) ∷ [])) (sym same)

  -- a sign is none of the delimiters
  sign_not : (i b : ℕ) → i < 5 → Sign b → Not (get_or ds i 0) b
  sign_not i b l s = no_delimiter h o one b i l (sign_none b s)

  -- each part is clean of a delimiter
  parts_clean : (i : ℕ) → i < 5 → Every (Each (Clean (get_or ds i 0))) (error_parts m r)
  parts_clean i l =
      every_weaken (Each Sign) (Each (Clean (get_or ds i 0))) (λ p e. each_weaken Sign (Clean (get_or ds i 0)) (λ b s. (sign_printable b s, sign_not i b l s)) p e) (error_parts m r) (part_signs m v)

  -- and so is the field, of each but the component separator
  told_clean : (i : ℕ) → i < 5 → (i ≡ 1 → ⊥) → Each (Clean (get_or ds i 0)) told
  told_clean i l n =
      each_join (Clean (get_or ds i 0)) between (error_parts m r)
      (delimiter_printable h o one 1 (omega arith), delimiters_apart h o one 1 i (omega arith) l (λ e. n (sym e))) (parts_clean i l)

  both_clean : Every (Each (Clean sep)) (ascii "ERR" ∷ told ∷ [])
  unfolding Every Each
  both_clean = ((sign_clean h o one 69 refl refl, (sign_clean h o one 82 refl refl, (sign_clean h o one 82 refl refl, tt))), (told_clean 0 (omega arith) (λ e. omega arith), tt))

  -- ERR has one field
  pub line_parts : split sep (error_line m r) ≡ ascii "ERR" ∷ told ∷ []
  line_parts = ap (split sep) line_is ∙ joined_parts sep (ascii "ERR" ∷ told ∷ []) (omega arith) both_clean

  -- of one repetition and four components
  pub told_once : split (get_or ds 2 0) told ≡ told ∷ []
  told_once =
      let n = each_free (get_or ds 2 0) told (each_weaken (Clean (get_or ds 2 0)) (Not (get_or ds 2 0)) (λ b q. q.1) told (told_clean 2 (omega arith) (λ e. omega arith))) in
      split_last (get_or ds 2 0) told (omega arith)

  pub told_parts : split between told ≡ error_parts m r
  told_parts = joined_parts between (error_parts m r) (let n = four m r in omega arith) (parts_clean 1 (omega arith))

  pub line_name : name_of (error_line m r) ≡ name "ERR"
  unfolding join name_of
  line_name = ap name_of line_is

  pub line_behind : Behind sep (error_line m r ∷ [])
  unfolding Every join name_of
  line_behind =
      let l = line_is in
      record {
        told = inr (ap (λ (n : ℕ). n ∷ []) line_name);
        printed = (subst (Each Printable) (sym l) (joined_printable sep (delimiter_printable h o one 0 (omega arith)) (ascii "ERR" ∷ told ∷ []) both_clean), tt);
        named_well = (ap (named sep) l ∙ rw (eq-eqb sep sep refl) (or_true (eqb (length (join sep (ascii "ERR" ∷ told ∷ []))) 3)), tt);
        no_other = (ap is_header l, tt);
      }

  -- ---- component c of ERR-1, from what is looked up in the line

  pub told_component : (c : ℕ) → get_or (split between (get_or (split (get_or ds 2 0) (get_or (split sep (error_line m r)) 1 [])) 0 [])) (c - 1) [] ≡ get_or (error_parts m r) (c - 1) []
  told_component c =
      ap (λ (ps : List (List ℕ)). get_or (split between (get_or (split (get_or ds 2 0) (get_or ps 1 [])) 0 [])) (c - 1) []) line_parts
      ∙ ap (λ (ps : List (List ℕ)). get_or (split between (get_or ps 0 [])) (c - 1) []) told_once ∙ ap (λ (ps : List (List ℕ)). get_or ps (c - 1) []) told_parts

  -- "The code is its identifier alone.": no part has a subcomponent separator
  pub part_alone : (c : ℕ) → split (get_or ds 4 0) (get_or (error_parts m r) c []) ≡ get_or (error_parts m r) c [] ∷ []
  unfolding Each
  part_alone c =
      let p = get_or (error_parts m r) c [] in
      let n = each_free (get_or ds 4 0) p (each_weaken (Clean (get_or ds 4 0)) (Not (get_or ds 4 0)) (λ b q. q.1) p (every_at (Each (Clean (get_or ds 4 0))) (error_parts m r) tt (parts_clean 4 (omega arith)) c)) in
      split_last (get_or ds 4 0) p (omega arith)

-- ---- the lines, by any verdict

module _ (h : List ℕ) (o : Opened h) (one : find carriage_return h + 1 ≡ length h) (m : List ℕ) (same : delimiters_of h ≡ delimiters_of m) where
  pub lines_behind : {found : Judgement} → Verdicts m found → Behind (get_or (delimiters_of h) 0 0) (error_lines m found)
  unfolding Every
  lines_behind {found = Ok _} v = record { told = inl refl; printed = tt; named_well = tt; no_other = tt }
  lines_behind {found = Err r} v = line_behind h o one m same v
