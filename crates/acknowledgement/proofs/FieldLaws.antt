-- The fields that are sent, by where the header's fields end. Assumes nothing.
use mathlib.Core.Path.{◌≡◌, refl, sym, ap, ap₂, subst, ◌∙◌}
use mathlib.Core.Bool.{Bool, true, false, cond, not, ◌&&◌}
use mathlib.Core.List.{List, [], ◌∷◌, ◌++◌, append_assoc}
use Prim.Native.Nat.{ℕ, zero, suc, ◌+◌, ◌-◌, ◌≤◌, ◌<◌}
use native.Mathlib.Omega.{arith}
use lib.Dec.{leb}
use lib.ListN.{length, get_or, take, drop_of_length-le}
use lib.Seq.{length-take-le, get_or-take, take-nil}
use borrow.Author.Tests.{leb-true, leb-false}
use Rattle.std.specs.Prelude.{is_ok}
use Rattle.alphabet.specs.Bytes.{carriage_return, ascii}
use Rattle.alphabet.specs.Limits.{id_limit}
use Rattle.alphabet.specs.Lists.{first, find, same}
use Rattle.reading.specs.Reading.{opening}
use Rattle.reading.proofs.Accepted.{opened_if}
use Rattle.alphabet.specs.Parts.{split}
use Rattle.alphabet.proofs.BoolLaws.{false_true}
use Rattle.alphabet.proofs.PartLaws.{split_step}
use Rattle.reading.specs.Segments.{all_but_last, segments, field_separator}
use Rattle.element.specs.States.{state_of}
use Rattle.element.proofs.RawLaws.{raw_header, raw_component}
use Rattle.acknowledgement.specs.Acknowledgement.{header, sent, type_part, present, acknowledgeable}
use Rattle.ends.specs.Ends.{Noted, part_end, cut_out}
use Rattle.acknowledgement.specs.Fields.{line_in, is_sound, pair, component, event}
use Rattle.acknowledgement.proofs.HeaderLaws.{passing, so_sound, is_so, sound_is, one_return, line_header}
use Rattle.ends.proofs.EndLaws.{end_le, end_rises, end_mark, part_cut, cut_more, cut_two, cut_front}

module _ (h : List ℕ) (long : 4 ≤ length h) (one : find carriage_return h + 1 ≡ length h) where
  abbrev sep : ℕ
  sep = field_separator h

  pub split_header : split carriage_return h ≡ line_in h ∷ [] ∷ []
  unfolding split
  split_header =
      let gone : length h ≤ find carriage_return h + 1 = omega arith in
      split_step carriage_return h (omega arith) ∙ ap (λ (x : List ℕ). line_in h ∷ split carriage_return x) (drop_of_length-le h gone)

  -- a header is one segment
  pub segments_header : segments h ≡ line_in h ∷ []
  unfolding segments all_but_last
  segments_header = ap all_but_last split_header

  pub sent_is : (f : ℕ) → (f ≡ 1 → ⊥) → sent h f ≡ get_or (split sep (line_in h)) (f - 1) []
  sent_is f n = raw_header h long f n ∙ ap (λ (x : List (List ℕ)). get_or (split sep (get_or x 0 [])) (f - 1) []) segments_header

  pub line_length : length (line_in h) ≡ find carriage_return h
  line_length = length-take-le (find carriage_return h) h (omega arith)

  -- ---- what is cut out between two ends

  -- an end lies within the header
  pub within : (k : ℕ) → part_end sep (line_in h) k + 1 ≤ length h
  within k = let e = end_le sep (line_in h) k in let n = line_length in omega arith

  pub sent_cut : (k f : ℕ) → f ≡ k + 2 → cut_out h (part_end sep (line_in h) k) (part_end sep (line_in h) (suc k)) ≡ sent h f
  sent_cut k f q =
      let e = end_le sep (line_in h) (suc k) in
      let n = line_length in
      let m : f - 1 ≡ suc k = omega arith in
      sym (sent_is f (λ (z : f ≡ 1). omega arith) ∙ ap (λ (i : ℕ). get_or (split sep (line_in h)) i []) m ∙ part_cut sep (line_in h) k
      ∙ cut_front h (find carriage_return h) (part_end sep (line_in h) k) (part_end sep (line_in h) (suc k)) (omega arith))

  -- component c of the type is split from field 9
  pub component_sent : (c : ℕ) → component h (sent h 9) c ≡ type_part h (c + 1)
  component_sent c =
      let n : c + 1 - 1 ≡ c = omega arith in
      sym (raw_component h long 9 (c + 1) (omega arith) (omega arith) ∙ ap (λ (i : ℕ). get_or (split (get_or h 4 0) (get_or (split (get_or h 5 0) (sent h 9)) 0 [])) i []) n)

  -- ---- where the control ID is present there are all fields before it

  pub before_id : present h (sent h 10) ≡ true → part_end sep (line_in h) 8 < find carriage_return h
  unfolding state_of first
  before_id p = at (leb (find carriage_return h) e) refl
    where
      e : ℕ
      e = part_end sep (line_in h) 8

      none : find carriage_return h ≤ e → sent h 10 ≡ []
      none i =
          let g : length (line_in h) ≤ e + 1 = let n = line_length in omega arith in
          let w = end_le sep (line_in h) 9 in
          let n = line_length in
          sym (sent_cut 8 10 refl) ∙ sym (cut_front h (find carriage_return h) e (part_end sep (line_in h) 9) (omega arith))
          ∙ ap (take (part_end sep (line_in h) 9 - (e + 1))) (drop_of_length-le (line_in h) g) ∙ take-nil (part_end sep (line_in h) 9 - (e + 1))

      at : (t : Bool) → leb (find carriage_return h) e ≡ t → e < find carriage_return h
      at false t = leb-false (find carriage_return h) e t
      at true t = absurd (false_true (sym (ap (present h) (none (leb-true (find carriage_return h) e t))) ∙ p))

  -- the separator stands at an end before the last
  mark_at : (k : ℕ) → part_end sep (line_in h) k < find carriage_return h → get_or h (part_end sep (line_in h) k) 0 ≡ sep
  mark_at k i =
      let n = line_length in
      sym (get_or-take (find carriage_return h) h (part_end sep (line_in h) k) 0 i) ∙ end_mark sep (line_in h) k (omega arith)

  -- two fields, each with the separator behind it
  pub two_cut : (k : ℕ) → part_end sep (line_in h) (suc (suc k)) < find carriage_return h
      → cut_out h (part_end sep (line_in h) k) (part_end sep (line_in h) (suc (suc k)) + 1) ≡ sent h (k + 2) ++ sep ∷ (sent h (k + 3) ++ sep ∷ [])
  two_cut k i =
      let n = line_length in
      let p = part_end sep (line_in h) k in
      let q = part_end sep (line_in h) (suc k) in
      let r = part_end sep (line_in h) (suc (suc k)) in
      let b = end_rises sep (line_in h) (suc k) (omega arith) in
      let a = end_rises sep (line_in h) k (omega arith) in
      let g : k + 3 ≡ suc k + 2 = omega arith in
      let first : cut_out h p (q + 1) ≡ sent h (k + 2) ++ (sep ∷ []) =
      cut_more h p q a (omega arith) ∙ ap₂ (λ (x : List ℕ) (y : ℕ). x ++ (y ∷ [])) (sent_cut k (k + 2) refl) (mark_at (suc k) (omega arith)) in
      let second : cut_out h q (r + 1) ≡ sent h (k + 3) ++ (sep ∷ []) =
      cut_more h q r b (omega arith) ∙ ap₂ (λ (x : List ℕ) (y : ℕ). x ++ (y ∷ [])) (sent_cut (suc k) (k + 3) g) (mark_at (suc (suc k)) i) in
      cut_two h p q (r + 1) a (omega arith) ∙ ap₂ (λ (x y : List ℕ). x ++ y) first second
      ∙ append_assoc (sent h (k + 2)) (sep ∷ []) (sent h (k + 3) ++ (sep ∷ []))

  -- an end before the control ID's field lies before it
  earlier : (k : ℕ) → part_end sep (line_in h) (suc k) < find carriage_return h → part_end sep (line_in h) k < find carriage_return h
  earlier k i = let n = line_length in let r = end_rises sep (line_in h) k (omega arith) in omega arith

  module _ (there : present h (sent h 10) ≡ true) where
    earlier_by : (n k : ℕ) → k + n ≡ 8 → part_end sep (line_in h) k < find carriage_return h
    earlier_by zero k e = let q : 8 ≡ k = omega arith in subst (λ (j : ℕ). part_end sep (line_in h) j < find carriage_return h) q (before_id there)
    earlier_by (suc n) k e = earlier k (earlier_by n (suc k) (omega arith))

    pub all_before : (k : ℕ) → k ≤ 8 → part_end sep (line_in h) k < find carriage_return h
    all_before k e = earlier_by (8 - k) k (omega arith)

    -- two fields lie between the end before them and the end of the second
    pub record Pair (n : ℕ) : Type 0 where
      pub begun : part_end sep (line_in h) (n - 2) < part_end sep (line_in h) n
      pub within : part_end sep (line_in h) n + 1 < length h
      pub bytes : cut_out h (part_end sep (line_in h) (n - 2)) (part_end sep (line_in h) n + 1) ≡ pair h n

    pair_by : (n k : ℕ) → k ≡ n - 2 → n ≡ suc (suc k) → n ≤ 8 → (part_end sep (line_in h) k < part_end sep (line_in h) n) × (cut_out h (part_end sep (line_in h) k) (part_end sep (line_in h) n + 1) ≡ pair h n)
    pair_by n k e f m =
        let l = line_length in
        let i = all_before n m in
        let j = subst (λ (x : ℕ). part_end sep (line_in h) x < find carriage_return h) f i in
        let a = end_rises sep (line_in h) k (omega (arith, earlier (suc k) j, earlier k (earlier (suc k) j))) in
        let b = end_rises sep (line_in h) (suc k) (omega (arith, earlier (suc k) j)) in
        let r = ap (part_end sep (line_in h)) f in
        let x : k + 2 ≡ n = omega arith in
        let y : k + 3 ≡ n + 1 = omega arith in (
          omega arith,
          ap (λ (z : ℕ). cut_out h (part_end sep (line_in h) k) (z + 1)) r ∙ two_cut k j ∙ ap₂ (λ (x y : ℕ). sent h x ++ sep ∷ (sent h y ++ sep ∷ [])) x y,
        )

    pub pair_cut : (n : ℕ) → 3 ≤ n → n ≤ 8 → Pair n
    pair_cut n g m =
        let p = pair_by n (n - 2) refl (omega arith) m in
        let i = all_before n m in
        let b = p.0 in
        record { begun = b; within = omega arith; bytes = p.1 }

-- ---- fields by the ends that are noted

-- what a part that is cut out by noted ends is
abbrev PartOf : List ℕ → List ℕ → ℕ → List ℕ → Type 0
PartOf l ends k bytes = (sep most : ℕ) → Noted sep l most ends → k ≤ most → k < 16 → (k ≡ 0 → ⊥) → bytes ≡ get_or (split sep l) k []

module _ (h ends : List ℕ) (long : 4 ≤ length h) (one : find carriage_return h + 1 ≡ length h) (noted : Noted (field_separator h) (line_in h) 10 ends) where
  pub field_is : (l bytes : List ℕ) (n : ℕ) → 2 ≤ n → n ≤ 11 → l ≡ line_in h → PartOf l ends (n - 1) bytes → bytes ≡ sent h n
  field_is l bytes n g m e part =
      part (field_separator h) 10 (subst (λ (x : List ℕ). Noted (field_separator h) x 10 ends) (sym e) noted) (omega arith) (omega arith) (λ z. omega arith)
      ∙ ap (λ (x : List ℕ). get_or (split (field_separator h) x) (n - 1) []) e ∙ sym (sent_is h long one n (λ z. omega arith))

  pub component_is : (field part : List ℕ) (c : ℕ) → field ≡ sent h 9 → part ≡ component h field c → part ≡ type_part h (c + 1)
  component_is field part c f p = p ∙ ap (λ (x : List ℕ). component h x c) f ∙ component_sent h long one c

-- ---- of a header that is known to be sound

pub record Lies (h : List ℕ) (a b n : ℕ) : Type 0 where
  pub begun : a < b
  pub within : b + 1 < length h
  pub bytes : cut_out h a (b + 1) ≡ pair h n

module _ (h ends : List ℕ) (known : is_sound h ≡ true) (noted : Noted (field_separator h) (line_in h) 10 ends) where
  pub long_header : 9 ≤ length h
  long_header = (so_sound h known).opened.nine_bytes

  pub four : 4 ≤ length h
  four = omega (arith, long_header)

  pub lies : (n : ℕ) → 3 ≤ n → n ≤ 8 → Lies h (get_or ends (n - 2) 0) (get_or ends n 0) n
  lies n l m =
      let s = so_sound h known in
      let p = pair_cut h four s.one s.there n l m in
      let a = noted (n - 2) (omega arith) (omega arith) in
      let b = noted n (omega arith) (omega arith) in
      let begun = p.begun in
      let within = p.within in
      record { begun = omega arith; within = omega arith; bytes = ap₂ (λ (x y : ℕ). cut_out h x (y + 1)) a b ∙ p.bytes }

  -- the header without its last byte is its line
  pub line_is : take (length h - 1) h ≡ line_in h
  line_is = let o = (so_sound h known).one in let e : length h - 1 ≡ find carriage_return h = omega arith in ap (λ (n : ℕ). take n h) e

  pub event_is : (t : Bool) (field part : List ℕ) → field ≡ sent h 9 → part ≡ component h field 1 → t ≡ present h part → cond t part [] ≡ event h
  event_is t field part f p e =
      ap (λ (x : Bool). cond x part []) e ∙ ap (λ (x : List ℕ). cond (present h x) x []) (component_is h ends four (so_sound h known).one noted field part 1 f p)

-- ---- whether a message can be acknowledged, by the fields of its header

module _ (m h line ends : List ℕ) (i : find carriage_return m < length m) (taken : h ≡ header m) (same_line : line ≡ line_in m) (ok : is_ok (opening h) ≡ true)
    (ends_noted : Noted (field_separator h) line 10 ends) where
  one_end : find carriage_return h + 1 ≡ length h
  one_end = one_return m h i taken

  four_bytes : 4 ≤ length h
  four_bytes = omega (arith, (opened_if h (passing (opening h) ok)).nine_bytes)

  pub own_line : line ≡ line_in h
  own_line = same_line ∙ line_header m i ∙ ap line_in (sym taken)

  pub own_noted : Noted (field_separator h) (line_in h) 10 ends
  own_noted = subst (λ (l : List ℕ). Noted (field_separator h) l 10 ends) own_line ends_noted

  module _ (field kind id : List ℕ) (f : PartOf line ends 8 field) (k : kind ≡ component h field 0) (d : PartOf line ends 9 id) where
    type_field : field ≡ sent h 9
    type_field = field_is h ends four_bytes one_end own_noted line field 9 (omega arith) (omega arith) own_line f

    id_field : id ≡ sent h 10
    id_field = field_is h ends four_bytes one_end own_noted line id 10 (omega arith) (omega arith) own_line d

    pub answerable : (known there short : Bool) → known ≡ same kind (ascii "ACK") → there ≡ present h id → short ≡ leb (length id) id_limit → acknowledgeable m ≡ (not known && (there && short))
    answerable known there short x y z =
        let e = component_is h ends four_bytes one_end own_noted field kind 0 type_field k in
        let a = x ∙ ap (λ (b : List ℕ). same b (ascii "ACK")) (e ∙ ap (λ (b : List ℕ). type_part b 1) taken) in
        let b = y ∙ ap₂ present taken (id_field ∙ ap (λ (b : List ℕ). sent b 10) taken) in
        let c = z ∙ ap (λ (b : List ℕ). leb (length b) id_limit) (id_field ∙ ap (λ (b : List ℕ). sent b 10) taken) in
        sound_is m i (ap opening (sym taken) ∙ passing (opening h) ok) ∙ sym (ap₂ (λ (x y : Bool). not x && y) a (ap₂ (λ (x y : Bool). x && y) b c))

    pub sound_here : (there : Bool) → there ≡ present h id → there ≡ true → is_sound h ≡ true
    sound_here there y t = is_so h one_end ok (ap (present h) (sym id_field) ∙ sym y ∙ t)
