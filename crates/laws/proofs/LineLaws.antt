-- Lines that are put together to a message: whatever their number, they read back as they were written, and a line's fields are the parts of which it
-- was joined. Assumes nothing.
use mathlib.Core.Path.{◌≡◌, refl, sym, ap, ap₂, ◌∙◌}
use mathlib.Core.Bool.{Bool, true, false, ◌&&◌, ◌||◌}
use mathlib.Core.List.{List, [], ◌∷◌}
use Prim.Native.Nat.{ℕ, zero, suc, ◌-◌, ◌≤◌, ◌<◌}
use native.Mathlib.Omega.{arith}
use lib.Dec.{eqb}
use lib.ListN.{length, get_or, drop, length-append, get_or-append}
use lib.Seq.{get_or_at}
use borrow.Author.Tests.{eq-eqb, eqb-true, eqb-false}
use Rattle.alphabet.specs.Answers.{passes}
use Rattle.alphabet.specs.Bytes.{carriage_return, printable, allowed}
use Rattle.alphabet.specs.Delimiters.{first_wrong_delimiter}
use Rattle.alphabet.specs.Limits.{message_limit, segment_limit}
use Rattle.alphabet.specs.Lists.{find}
use Rattle.alphabet.specs.Parts.{split, join}
use Rattle.alphabet.proofs.BoolLaws.{false_true}
use Rattle.alphabet.proofs.PartLaws.{split_join}
use Rattle.reading.specs.Segments.{segments, delimiters_of, field_separator, named, is_header}
use Rattle.reading.specs.Reading.{reading}
use Rattle.reading.specs.Message.{ended, Message}
use Rattle.reading.proofs.SegmentLaws.{segments_ended}
use Rattle.reading.proofs.Accepted.{accepting}
use Rattle.element.specs.Finding.{raw_bytes}
use Rattle.laws.proofs.EachLaws.{Each, Every, each_append, each_at, each_weaken, each_join, every_weaken, each_free, every_at}
use Rattle.element.proofs.RawLaws.{raw_header, raw_other}

abbrev pub Printable : ℕ → Type 0
Printable b = printable b ≡ true

-- not the byte x
abbrev pub Not : ℕ → ℕ → Type 0
Not x b = b ≡ x → ⊥

-- may stand in a field between separators
abbrev pub Clean : ℕ → ℕ → Type 0
Clean sep b = Printable b × Not sep b

-- ls are the lines of a message with the delimiters ds
pub record Lines (ds : List ℕ) (ls : List (List ℕ)) : Type 0 where
  -- "1 to 4,096 segments"
  pub some : 1 ≤ length ls
  pub most : length ls ≤ segment_limit
  -- each is of printable bytes, so that no CR stands inside, and has a good name
  pub printed : Every (Each Printable) ls
  pub named_well : Every (λ (l : List ℕ). named (get_or ds 0 0) l ≡ true) ls
  -- the first is the header, and behind its delimiters it ends or goes on with a field; no other is one
  pub long : 8 ≤ length (get_or ls 0 [])
  pub header : is_header (get_or ls 0 []) ≡ true
  pub delimiters : delimiters_of (get_or ls 0 []) ≡ ds
  pub behind : (eqb (length (get_or ls 0 [])) 8 || eqb (get_or (get_or ls 0 []) 8 0) (get_or ds 0 0)) ≡ true
  pub no_other : Every (λ (l : List ℕ). is_header l ≡ false) (drop 1 ls)
  -- "the five differ", and each is permitted
  pub right : first_wrong_delimiter ds ≡ 5

-- ---- what holds of every line, and of all bytes

pub or_true : (t : Bool) → (t || true) ≡ true
or_true true = refl
or_true false = refl

-- of the line at a place that there is
every_there : (Q : List ℕ → Type 0) (ls : List (List ℕ)) → Every Q ls → (k : ℕ) → k < length ls → Q (get_or ls k [])
unfolding Every
every_there Q [] h k l = absurd (omega arith)
every_there Q (p ∷ ps) h zero l = h.0
every_there Q (p ∷ ps) h (suc k) l = every_there Q ps h.1 k (omega arith)

no_return : (l : List ℕ) → Each Printable l → find carriage_return l ≡ length l
no_return l p = each_free carriage_return l (each_weaken Printable (Not carriage_return) (λ b q e. false_true (sym (ap printable e) ∙ q)) l p)

abbrev Allowed : ℕ → Type 0
Allowed b = allowed b ≡ true

printable_allowed : (b : ℕ) → Printable b → Allowed b
printable_allowed b p = at (eqb b carriage_return)
  where
    at : (t : Bool) → (t || printable b) ≡ true
    at true = refl
    at false = p

ended_allowed : (ls : List (List ℕ)) → Every (Each Printable) ls → Each Allowed (ended ls)
unfolding Each Every ended
ended_allowed [] p = tt
ended_allowed (l ∷ ls) p = each_append Allowed l (carriage_return ∷ ended ls) (each_weaken Printable Allowed printable_allowed l p.0) (refl, ended_allowed ls p.1)

-- ---- the lines are the segments

pub lines_segments : {ds : List ℕ} {ls : List (List ℕ)} → Lines ds ls → segments (ended ls) ≡ ls
lines_segments {ls = ls} x = segments_ended ls (λ k l. no_return (get_or ls k []) (every_there (Each Printable) ls x.printed k l))

-- ---- it begins as its first line does

module _ (ds l : List ℕ) (rest : List (List ℕ)) (x : Lines ds (l ∷ rest)) where
  abbrev whole : List ℕ
  whole = ended (l ∷ rest)

  near : (i : ℕ) → i < 8 → get_or whole i 0 ≡ get_or l i 0
  unfolding ended
  near i h = get_or-append l (carriage_return ∷ ended rest) 0 i (let n = x.long in omega arith)

  begins_so : delimiters_of whole ≡ ds
  begins_so =
      (λ i. near 3 (omega arith) i ∷ near 4 (omega arith) i ∷ near 5 (omega arith) i ∷ near 6 (omega arith) i ∷ near 7 (omega arith) i ∷ []) ∙ x.delimiters

  nine : 9 ≤ length whole
  unfolding ended
  nine = let n = x.long in let a = length-append l (carriage_return ∷ ended rest) in omega arith

  header_first : is_header whole ≡ true
  header_first =
      (λ i. eqb (near 0 (omega arith) i) 77 && (eqb (near 1 (omega arith) i) 83 && eqb (near 2 (omega arith) i) 72)) ∙ x.header

  eighth : (eqb (get_or whole 8 0) (get_or ds 0 0) || eqb (get_or whole 8 0) carriage_return) ≡ true
  unfolding ended
  eighth = at (eqb (length l) 8) refl x.behind
    where
      at : (t : Bool) → eqb (length l) 8 ≡ t → (t || eqb (get_or l 8 0) (get_or ds 0 0)) ≡ true → (eqb (get_or whole 8 0) (get_or ds 0 0) || eqb (get_or whole 8 0) carriage_return) ≡ true
      at true e q =
          let b = get_or_at l carriage_return (ended rest) 0 8 (eqb-true (length l) 8 e) in
          ap (λ (t : Bool). eqb (get_or whole 8 0) (get_or ds 0 0) || t) (eq-eqb (get_or whole 8 0) carriage_return b) ∙ or_true (eqb (get_or whole 8 0) (get_or ds 0 0))
      at false e q =
          let b = get_or-append l (carriage_return ∷ ended rest) 0 8 (let n = x.long in let m = eqb-false (length l) 8 e in omega arith) in
          ap (λ (t : Bool). t || eqb (get_or whole 8 0) carriage_return) (ap (λ (y : ℕ). eqb y (get_or ds 0 0)) b ∙ q)

  separator : field_separator whole ≡ get_or ds 0 0
  separator = ap (λ (d : List ℕ). get_or d 0 0) begins_so

  later_none : (k : ℕ) → 0 < k → k < length (l ∷ rest) → is_header (get_or (l ∷ rest) k []) ≡ false
  later_none zero z h = absurd (omega arith)
  later_none (suc k) z h = every_there (λ (s : List ℕ). is_header s ≡ false) rest x.no_other k (omega arith)

  is_message : length whole ≤ message_limit → Message whole
  is_message fits =
      let same = lines_segments x in
      let count = ap length same in
      let n = nine in
      record {
        opened = record {
          some_bytes = omega arith;
          most_bytes = fits;
          nine_bytes = nine;
          header = header_first;
          byte_eight = ap (λ (s : ℕ). eqb (get_or whole 8 0) s || eqb (get_or whole 8 0) carriage_return) separator ∙ eighth;
          delimiters_right = ap first_wrong_delimiter begins_so ∙ x.right;
          all_allowed = each_at Allowed whole (ended_allowed (l ∷ rest) x.printed);
        };
        all_ended = ap ended same;
        some_segments = omega (arith, x.some);
        most_segments = omega (arith, x.most);
        all_named = λ k h.
            ap₂ (λ (s : ℕ) (ss : List (List ℕ)). named s (get_or ss k [])) separator same
            ∙ every_there (λ (s : List ℕ). named (get_or ds 0 0) s ≡ true) (l ∷ rest) x.named_well k (omega arith);
        one_header = λ k z h. ap (λ (ss : List (List ℕ)). is_header (get_or ss k [])) same ∙ later_none k z (omega arith);
      }

-- ---- of any number of lines

none : {A : Type 0} {ds : List ℕ} → Lines ds [] → A
none x = absurd (let n = x.some in omega arith)

pub lines_delimiters : {ds : List ℕ} {ls : List (List ℕ)} → Lines ds ls → delimiters_of (ended ls) ≡ ds
lines_delimiters {ds = ds} {ls = []} x = none x
lines_delimiters {ds = ds} {ls = l ∷ rest} x = begins_so ds l rest x

pub lines_nine : {ds : List ℕ} {ls : List (List ℕ)} → Lines ds ls → 9 ≤ length (ended ls)
lines_nine {ds = ds} {ls = []} x = none x
lines_nine {ds = ds} {ls = l ∷ rest} x = nine ds l rest x

pub lines_message : {ds : List ℕ} {ls : List (List ℕ)} → Lines ds ls → length (ended ls) ≤ message_limit → Message (ended ls)
lines_message {ds = ds} {ls = []} x fits = none x
lines_message {ds = ds} {ls = l ∷ rest} x fits = is_message ds l rest x fits

-- "reads back through our reader"
pub lines_read : {ds : List ℕ} {ls : List (List ℕ)} → Lines ds ls → length (ended ls) ≤ message_limit → reading (ended ls) ≡ passes
lines_read {ls = ls} x fits = accepting (ended ls) (lines_message x fits)

-- ---- lines that are joined of parts

module _ (sep : ℕ) where
  pub joined_printable : Printable sep → (ps : List (List ℕ)) → Every (Each (Clean sep)) ps → Each Printable (join sep ps)
  joined_printable s ps e =
      each_join Printable sep ps s (every_weaken (Each (Clean sep)) (Each Printable) (λ p q. each_weaken (Clean sep) Printable (λ b r. r.0) p q) ps e)

  pub joined_parts : (ps : List (List ℕ)) → 1 ≤ length ps → Every (Each (Clean sep)) ps → split sep (join sep ps) ≡ ps
  unfolding Each
  joined_parts ps some e =
      split_join sep ps some
      (λ k l. each_free sep (get_or ps k []) (each_weaken (Clean sep) (Not sep) (λ b r. r.1) (get_or ps k []) (every_at (Each (Clean sep)) ps tt e k)))

-- ---- the fields of a line

-- field f of the header, which counts its own separator as the first
pub lines_header_field : {ds : List ℕ} {ls : List (List ℕ)} → Lines ds ls → (f : ℕ) → (f ≡ 1 → ⊥)
    → raw_bytes (ended ls) (record { segment = 0; field = f; repetition = 0; component = 0; subcomponent = 0 }) ≡ get_or (split (get_or ds 0 0) (get_or ls 0 [])) (f - 1) []
lines_header_field {ls = ls} x f n =
    raw_header (ended ls) (let l = lines_nine x in omega arith) f n
    ∙ ap₂ (λ (d : List ℕ) (ss : List (List ℕ)). get_or (split (get_or d 0 0) (get_or ss 0 [])) (f - 1) []) (lines_delimiters x) (lines_segments x)

-- field f of line k behind it
pub lines_field : {ds : List ℕ} {ls : List (List ℕ)} → Lines ds ls → (k f : ℕ) → (k ≡ 0 → ⊥)
    → raw_bytes (ended ls) (record { segment = k; field = f; repetition = 0; component = 0; subcomponent = 0 }) ≡ get_or (split (get_or ds 0 0) (get_or ls k [])) f []
lines_field {ls = ls} x k f n =
    raw_other (ended ls) (let l = lines_nine x in omega arith) k f n
    ∙ ap₂ (λ (d : List ℕ) (ss : List (List ℕ)). get_or (split (get_or d 0 0) (get_or ss k [])) f []) (lines_delimiters x) (lines_segments x)
