-- Laws of the ERR segment: how segments of a name are counted along the message, and the line as pieces. Assumes nothing.
use mathlib.Core.Path.{◌≡◌, refl, sym, ap, ap₂, ◌∙◌}
use mathlib.Core.List.{List, [], ◌∷◌, ◌++◌, append_assoc}
use mathlib.Core.Bool.{true, false}
use Prim.Native.Nat.{ℕ, zero, suc, ◌+◌, ◌-◌, ◌≤◌}
use native.Mathlib.Nat.{zero-add}
use native.Mathlib.Numerals.{add-one}
use native.Mathlib.Omega.{arith}
use lib.ListN.{length, get_or, take, drop, length-append, length-drop}
use lib.Seq.{take_all, length-take-le}
use borrow.Author.Tests.{eq-eqb, ne_eqb}
use Rattle.alphabet.specs.Answers.{number_of}
use Rattle.alphabet.specs.Bytes.{carriage_return, ascii}
use Rattle.alphabet.specs.Parts.{join}
use Rattle.reading.specs.Message.{ended}
use Rattle.reading.specs.Segments.{delimiters_of, field_separator}
use Rattle.fault.specs.Faults.{Judgement}
use Rattle.fault.specs.declared.FaultRecord.{FaultRecord}
use Rattle.std.specs.Prelude.{Ok, Err}
use Rattle.together.specs.Together.{together}
use Rattle.error_segment.specs.Numerals.{numeral}
use Rattle.error_segment.specs.Errors.{error_code, faulty, count_of, sequence_of, field_position, nowhere, error_place, error_parts, error_line, error_lines}
use Rattle.error_segment.specs.Pieces.{marks_of, line_pieces}

-- ---- counting names

pub count_none : (n k : ℕ) → count_of n (take k []) ≡ 0
unfolding count_of
count_none n zero = refl
count_none n (suc k) = refl

pub count_front : (n : ℕ) (l : List ℕ) → count_of n (take 0 l) ≡ 0
unfolding count_of
count_front n l = refl

module _ (n k x : ℕ) (l : List ℕ) where
  count_same : x ≡ n → count_of n (take (k + 1) (x ∷ l)) ≡ 1 + count_of n (take k l)
  unfolding count_of
  count_same e = rw (add-one k) (rw (eq-eqb n x (sym e)))

  count_other : (x ≡ n → ⊥) → count_of n (take (k + 1) (x ∷ l)) ≡ count_of n (take k l)
  unfolding count_of
  count_other e = rw (add-one k) (rw (ne_eqb n x (λ q. e (sym q))) (zero-add (count_of n (take k l))))

-- one turn of a walk that has counted, behind k of the first p + 1 names
module _ (n p k count total x : ℕ) (l r : List ℕ) (h : k ≤ p) (e : l ≡ x ∷ r) (so : total ≡ count + count_of n (take (p + 1 - k) l)) where
  next : total ≡ count + count_of n (take (p + 1 - (k + 1) + 1) (x ∷ r))
  next = let q : p + 1 - k ≡ p + 1 - (k + 1) + 1 = omega arith in so ∙ ap₂ (λ (i : ℕ) (z : List ℕ). count + count_of n (take i z)) q e

  pub turn_same : x ≡ n → total ≡ count + 1 + count_of n (take (p + 1 - (k + 1)) r)
  turn_same q = let a = next in let b = count_same n (p + 1 - (k + 1)) x r q in omega arith

  pub turn_other : (x ≡ n → ⊥) → total ≡ count + count_of n (take (p + 1 - (k + 1)) r)
  turn_other q = let a = next in let b = count_other n (p + 1 - (k + 1)) x r q in omega arith

-- ---- the segment, and a numeral's digits

pub take_most : (n : ℕ) (l : List ℕ) → length (take n l) ≤ n
take_most zero l = omega arith
take_most (suc n) [] = omega arith
take_most (suc n) (b ∷ l) = let h = take_most n l in omega arith

-- what stands from a place on, cut out of all
pub tail_whole : (l : List ℕ) (n s : ℕ) → length l ≡ n → s ≤ n → take (n - s) (drop s l) ≡ drop s l
tail_whole l n s e h = let k = length-drop s l in take_all (n - s) (drop s l) (omega arith)

pub tail_short : (l : List ℕ) (n s : ℕ) → length l ≡ n → s ≤ n → length (take (n - s) (drop s l)) ≤ n
tail_short l n s e h = let k = length-drop s l in let q = ap length (tail_whole l n s e h) in omega arith

-- ---- the line as pieces

count_piece : (p : List ℕ) (ps : List (List ℕ)) → length (together (p ∷ ps)) ≡ length p + length (together ps)
unfolding together
count_piece p ps = length-append p (together ps)

count_nothing : length (together []) ≡ 0
unfolding together
count_nothing = refl

-- 4 + 3 + 1 + 20 + 1 + 20 + 1 + 20 + 1
pub line_room : (name sequence field code marks : List ℕ) → length name ≤ 3 → length marks ≡ 6 → length sequence ≤ 20 → length field ≤ 20 → length code ≤ 20
    → length (together (line_pieces name sequence field code marks)) ≤ 71
line_room name sequence field code marks n m s f c =
    let front = take 4 marks in
    let between = take 1 (drop 4 marks) in
    let end = take 1 (drop 5 marks) in
    let lf = length-take-le 4 marks (omega arith) in
    let d4 = length-drop 4 marks in
    let d5 = length-drop 5 marks in
    let lb = length-take-le 1 (drop 4 marks) (omega arith) in
    let le = length-take-le 1 (drop 5 marks) (omega arith) in
    let a0 = count_nothing in
    let a1 = count_piece end [] in
    let a2 = count_piece code (end ∷ []) in
    let a3 = count_piece between (code ∷ end ∷ []) in
    let a4 = count_piece field (between ∷ code ∷ end ∷ []) in
    let a5 = count_piece between (field ∷ between ∷ code ∷ end ∷ []) in
    let a6 = count_piece sequence (between ∷ field ∷ between ∷ code ∷ end ∷ []) in
    let a7 = count_piece between (sequence ∷ between ∷ field ∷ between ∷ code ∷ end ∷ []) in
    let a8 = count_piece name (between ∷ sequence ∷ between ∷ field ∷ between ∷ code ∷ end ∷ []) in
    let a9 = count_piece front (name ∷ between ∷ sequence ∷ between ∷ field ∷ between ∷ code ∷ end ∷ []) in
    omega arith

-- the pieces together are the line, and its CR
module _ (sep between : ℕ) (a b c d : List ℕ) where
  line_is : together (line_pieces a b c d (ascii "ERR" ++ (sep ∷ between ∷ carriage_return ∷ [])))
      ≡ join sep (ascii "ERR" ∷ join between (a ∷ b ∷ c ∷ d ∷ []) ∷ []) ++ (carriage_return ∷ [])
  unfolding together join
  line_is =
      sym (ap (λ (z : List ℕ). ascii "ERR" ++ (sep ∷ z))
      (append_assoc a (between ∷ (b ++ (between ∷ (c ++ (between ∷ d))))) (carriage_return ∷ [])
      ∙ ap (λ (z : List ℕ). a ++ (between ∷ z))
      (append_assoc b (between ∷ (c ++ (between ∷ d))) (carriage_return ∷ [])
      ∙ ap (λ (z : List ℕ). b ++ (between ∷ z)) (append_assoc c (between ∷ d) (carriage_return ∷ [])))))

-- ---- the segment by the verdict's record

pub no_error : (m : List ℕ) {found : Judgement} → found ≡ Ok tt → ended (error_lines m found) ≡ []
unfolding ended
no_error m e = ap (λ (x : Judgement). ended (error_lines m x)) e

module _ (m : List ℕ) (r : FaultRecord) where
  -- the pieces of its parts are the segment with its CR
  pub pieces_ended : {found : Judgement} → found ≡ Err r → (ds a b c d : List ℕ) → ds ≡ delimiters_of m → error_parts m r ≡ a ∷ b ∷ c ∷ d ∷ [] → together (line_pieces a b c d (marks_of ds)) ≡ ended (error_lines m found)
  unfolding error_line ended
  pieces_ended f ds a b c d e q =
      ap (λ (x : List ℕ). together (line_pieces a b c d (marks_of x))) e ∙ line_is (field_separator m) (get_or m 4 0) a b c d
      ∙ ap (λ (x : List (List ℕ)). join (field_separator m) (ascii "ERR" ∷ join (get_or m 4 0) x ∷ []) ++ (carriage_return ∷ [])) (sym q)
      ∙ sym (ap (λ (x : Judgement). ended (error_lines m x)) f)

  pub parts_nowhere : nowhere (number_of r.kind) ≡ true → error_parts m r ≡ [] ∷ [] ∷ [] ∷ numeral (error_code (number_of r.kind) r.place r.field) ∷ []
  unfolding error_parts error_place
  parts_nowhere e = rw e

  pub parts_there : nowhere (number_of r.kind) ≡ false
      → error_parts m r ≡ take 3 (faulty m r.place) ∷ numeral (sequence_of m r.place) ∷ field_position (number_of r.kind) r.field ∷ numeral (error_code (number_of r.kind) r.place r.field) ∷ []
  unfolding error_parts error_place
  parts_there e = rw e
