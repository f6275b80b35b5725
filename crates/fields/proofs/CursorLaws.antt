-- Laws of a cursor in a segment: from a part that stands at it to the one behind; and of a row that is begun. Assumes nothing.
use mathlib.Core.Path.{◌≡◌, refl, sym, ap, ap₂, ◌∙◌, subst}
use mathlib.Core.List.{List, [], ◌∷◌}
use mathlib.Core.Bool.{Bool, true, false, cond, not, ◌&&◌, ◌||◌}
use Prim.Native.Nat.{ℕ, suc, ◌+◌, ◌-◌, ◌^◌, ◌≤◌, ◌<◌}
use native.Mathlib.Omega.{arith}
use lib.Dec.{eqb, leb, ltb}
use lib.ListN.{length, get_or, take, drop, length-drop}
use lib.Seq.{get_or-drop, drop-drop, take-take, length-take-le}
use borrow.Author.Tests.{eq-eqb, ne_eqb, eqb-true, eqb-false, le-leb, lt-leb, lt-ltb, le-ltb, ltb-true, ltb-false}
use Rattle.std.specs.Prelude.{Err, Ok}
use Rattle.alphabet.specs.Lists.{find, first, either}
use Rattle.alphabet.specs.Answers.{fails_if, or_else, in_order, Check, passes}
use Rattle.alphabet.specs.Parts.{split}
use Rattle.alphabet.specs.declared.answers.Refusal.TheVariants.{Repeated}
use Rattle.alphabet.proofs.BlockLaws.{first_from}
use Rattle.alphabet.proofs.BoolLaws.{false_true}
use Rattle.alphabet.proofs.CheckLaws.{passes_or}
use Rattle.alphabet.proofs.ListLaws.{rest_of, piece_of_piece, first_le}
use Rattle.alphabet.proofs.PartLaws.{split_some, split_step, split_last, more_parts, walk_in, walk_more, first_part}
use Rattle.element.specs.States.{is_present}
use Rattle.element.specs.declared.states.State.{State}
use Rattle.rules.specs.Rules.{form_check, part_state, first_state, required_check, repeated_check, said_check, is_said, said_field, kind_of, component_of, repetition_check, repetition_checks, row_check, sent_check, own_check, opening_check, is_any}
use Rattle.fields.specs.Walk.{field_index, field_bytes, first_of, said_bytes, Stands, Reaches, Finds, left_of, Goes}
use Rattle.field_table.specs.declared.Kind.{Kind}
use Rattle.field_table.specs.declared.Kind.TheVariants.{Any, Identifier, Ts, Si, Nm, Dt, Tm, OneOf, AsField}
use Rattle.field_table.specs.declared.Row.{Row}
use Rattle.fields.specs.declared.walk.Cursor.{Cursor}
use Rattle.fields.specs.declared.walk.Sought.{Sought}
use Rattle.fields.specs.declared.walk.Turn.{Turn}

assoc : (a b later : Check) → or_else a (or_else b later) ≡ or_else (or_else a b) later
assoc (Err fault) b later = refl
assoc (Ok _) b later = refl

-- ---- where the bytes of a field are

module _ (ds s : List ℕ) (number field : ℕ) where
  pub bytes_other : (number ≡ 0 → ⊥) → field_bytes ds s number field ≡ get_or (split (get_or ds 0 0) s) field []
  bytes_other h = rw (ne_eqb number 0 h)

  pub bytes_fixed : number ≡ 0 → field ≤ 2 → field_bytes ds s number field ≡ []
  bytes_fixed h l = rw (eq-eqb number 0 h, le-leb field 2 l)

  pub bytes_header : number ≡ 0 → 2 < field → field_bytes ds s number field ≡ get_or (split (get_or ds 0 0) s) (field - 1) []
  bytes_header h l = rw (eq-eqb number 0 h, lt-leb field 2 l)

  -- as the code asks
  pub bytes_none : (eqb number 0 && leb field 2) ≡ true → field_bytes ds s number field ≡ []
  bytes_none = at (eqb number 0) (leb field 2)
    where
      at : (t u : Bool) → (t && u) ≡ true → cond t (cond u [] (get_or (split (get_or ds 0 0) s) (field - 1) [])) (get_or (split (get_or ds 0 0) s) field []) ≡ []
      at true true e = refl
      at true false e = false_true e
      at false u e = false_true e

  pub bytes_index : (eqb number 0 && leb field 2) ≡ false → field_bytes ds s number field ≡ get_or (split (get_or ds 0 0) s) (field_index number field) []
  bytes_index = at (eqb number 0) (leb field 2)
    where
      at : (t u : Bool) → (t && u) ≡ false → cond t (cond u [] (get_or (split (get_or ds 0 0) s) (field - 1) [])) (get_or (split (get_or ds 0 0) s) field []) ≡ get_or (split (get_or ds 0 0) s) (cond t (field - 1) field) []
      at true true e = false_true (sym e)
      at true false e = refl
      at false u e = refl

-- ---- at the cursor

pub stands_start : (sep : ℕ) (s : List ℕ) → Stands sep s (record { index = 0; place = 0 })
stands_start sep s = record { inside = omega arith; counted = omega arith; parts = refl }

module _ (sep : ℕ) (s : List ℕ) (index place n : ℕ) (h : Stands sep s (record { index = index; place = place })) (found : n ≡ find sep (take (length s - place) (drop place s))) where
  -- one part on
  pub stands_on : (place + n ≡ length s → ⊥) → Stands sep s (record { index = index + 1; place = place + n + 1 })
  stands_on e =
      let i = walk_in sep s place n h.inside found in
      let k = h.counted in
      record {
        inside = omega (arith, e);
        counted = omega arith;
        parts =
            sym (drop-drop 1 index (split sep s))
            ∙ ap (drop 1) (h.parts ∙ walk_more sep s place n h.inside found e);
      }

-- no bytes were sought
pub finds_nothing : (ds s : List ℕ) (c : Cursor) (place : ℕ) → place ≤ length s → Stands (get_or ds 0 0) s c → Finds ds s [] (record { cursor = c; start = place; first = place; end = place })
unfolding first
finds_nothing ds s c place i h =
    let z : place - place ≡ 0 = omega arith in
    record { stands = h; ordered = omega arith; within = omega arith; inside = i; bytes = ap (λ (n : ℕ). take n (drop place s)) z; opens = z }

-- ---- the part that is wanted, and repetition 1 of it

-- one of two bytes stands no later than the one
two_within : (a b : ℕ) (l : List ℕ) → first (either a b) l ≤ find a l
unfolding first
two_within a b [] = omega arith
two_within a b (x ∷ l) = at (eqb a x) (eqb b x) (two_within a b l)
  where
    at : (t u : Bool) → first (either a b) l ≤ find a l → cond (t || u) 0 (suc (first (either a b) l)) ≤ cond t 0 (suc (find a l))
    at true u h = omega arith
    at false true h = omega arith
    at false false h = omega arith

-- in what stands before the one, the other first stands where one of the two does
two_first : (a b : ℕ) (l : List ℕ) → find b (take (find a l) l) ≡ first (either a b) l
unfolding first
two_first a b [] = refl
two_first a b (x ∷ l) = at (eqb a x) (two_first a b l)
  where
    at : (t : Bool) → find b (take (find a l) l) ≡ first (either a b) l → find b (take (cond t 0 (suc (find a l))) (x ∷ l)) ≡ cond (t || eqb b x) 0 (suc (first (either a b) l))
    at true h = refl
    at false h = ap (λ (n : ℕ). cond (eqb b x) 0 (suc n)) h

module _ (ds s : List ℕ) (c : Cursor) (wanted : ℕ) (reaches : Reaches (get_or ds 0 0) s wanted c) where
  abbrev sep : ℕ
  sep = get_or ds 0 0

  abbrev onward : List ℕ
  onward = drop c.place s

  -- there are fewer parts
  pub finds_none : c.index < wanted → Finds ds s (get_or (split (get_or ds 0 0) s) wanted []) (record { cursor = c; start = c.place; first = c.place; end = c.place })
  finds_none l =
      let h = reaches.stands in
      let i = h.inside in
      let e = reaches.last l in
      let d = length-drop c.place s in
      let k : wanted ≡ c.index + suc (wanted - c.index - 1) = omega arith in
      let absent : get_or (split sep s) wanted [] ≡ [] =
      ap (λ (j : ℕ). get_or (split sep s) j []) k
      ∙ sym (get_or-drop c.index (split sep s) (suc (wanted - c.index - 1)) [])
      ∙ ap (λ (ps : List (List ℕ)). get_or ps (suc (wanted - c.index - 1)) []) (h.parts ∙ split_last sep onward (omega arith)) in
      subst (λ (w : List ℕ). Finds ds s w (record { cursor = c; start = c.place; first = c.place; end = c.place })) (sym absent) (finds_nothing ds s c c.place i h)

  -- the part at the cursor, where that is the one wanted
  part_here : wanted ≤ c.index → take (find sep onward) onward ≡ get_or (split sep s) wanted []
  part_here l =
      let m = reaches.most in
      let z : c.index + 0 ≡ wanted = omega arith in
      sym (first_part sep onward)
      ∙ ap (λ (ps : List (List ℕ)). get_or ps 0 []) (sym reaches.stands.parts)
      ∙ get_or-drop c.index (split sep s) 0 []
      ∙ ap (λ (j : ℕ). get_or (split sep s) j []) z

  module _ (here : wanted ≤ c.index) (n e : ℕ) (found : n ≡ first (either (get_or ds 0 0) (get_or ds 2 0)) onward) (ends : e ≡ c.place + n + find (get_or ds 0 0) (drop (c.place + n) s)) where
    -- its end is where its separator first stands
    pub part_ends : e ≡ c.place + find (get_or ds 0 0) onward
    part_ends =
        let w = two_within sep (get_or ds 2 0) onward in
        let f = first_from (eqb sep) onward n (omega arith) in
        let g = ap (find sep) (drop-drop n c.place s) in
        omega arith

    -- it is what was sought, whatever cursor goes on from it
    pub finds_here : (next : Cursor) → Stands (get_or ds 0 0) s next → Finds ds s (get_or (split (get_or ds 0 0) s) wanted []) (record { cursor = next; start = c.place; first = c.place + n; end = e })
    finds_here next k =
        let i = reaches.stands.inside in
        let x = part_ends in
        let w = two_within sep (get_or ds 2 0) onward in
        let u = first_le (eqb sep) onward in
        let d = length-drop c.place s in
        let y : e - c.place ≡ find sep onward = omega arith in
        let z : c.place + n - c.place ≡ n = omega arith in
        record {
          stands = k;
          ordered = omega arith;
          within = omega arith;
          inside = omega arith;
          bytes = ap (λ (j : ℕ). take j onward) y ∙ part_here here;
          opens = z ∙ found ∙ sym (two_first sep (get_or ds 2 0) onward) ∙ ap (find (get_or ds 2 0)) (part_here here);
        }

-- ---- one repetition on, with the next separator n bytes on

module _ (ds s : List ℕ) (t : Turn) (goes : Goes s t) (n : ℕ) (found : n ≡ find (get_or ds 2 0) (take (t.end - t.start) (drop t.start s))) where
  abbrev rest : List ℕ
  rest = take (t.end - t.start) (drop t.start s)

  rest_length : length rest ≡ t.end - t.start
  rest_length =
      let i = goes.inside in
      let d = length-drop t.start s in
      length-take-le (t.end - t.start) (drop t.start s) (omega arith)

  pub step_in : t.start + n ≤ t.end
  step_in =
      let o = goes.ordered in
      let l = rest_length in
      let u = first_le (eqb (get_or ds 2 0)) rest in
      omega arith

  abbrev here : List ℕ
  here = take (t.start + n - t.start) (drop t.start s)

  abbrev behind : ℕ → List ℕ
  behind start = take (t.end - start) (drop start s)

  split_here : (t.start + n ≡ t.end → ⊥) → split (get_or ds 2 0) rest ≡ here ∷ split (get_or ds 2 0) (behind (t.start + n + 1))
  split_here h =
      let i = step_in in
      let l = rest_length in
      let e : n ≡ t.start + n - t.start = omega arith in
      let k : n ≤ t.end - t.start = omega arith in
      let g : t.start + n < t.end = omega (arith, h) in
      let a : t.start + (n + 1) ≡ t.start + n + 1 = omega arith in
      let b : length rest - (n + 1) ≡ t.end - (t.start + n + 1) = omega arith in
      split_step (get_or ds 2 0) rest (omega arith)
      ∙ ap (λ (j : ℕ). take j rest ∷ split (get_or ds 2 0) (drop (j + 1) rest)) (sym found)
      ∙ ap (λ (p : List ℕ). p ∷ split (get_or ds 2 0) (drop (n + 1) rest)) (take-take n (t.end - t.start) (drop t.start s) k ∙ ap (λ (j : ℕ). take j (drop t.start s)) e)
      ∙ ap (λ (p : List ℕ). here ∷ split (get_or ds 2 0) p)
      (sym (rest_of rest (n + 1)) ∙ piece_of_piece s t.start (t.end - t.start) (n + 1) (length rest - (n + 1)) (omega arith)
      ∙ ap (λ (j : ℕ). take j (drop (t.start + (n + 1)) s)) b ∙ ap (λ (j : ℕ). take (t.end - (t.start + n + 1)) (drop j s)) a)

  split_end : t.start + n ≡ t.end → split (get_or ds 2 0) rest ≡ here ∷ []
  split_end h =
      let l = rest_length in
      let e : t.end - t.start ≡ t.start + n - t.start = omega arith in
      split_last (get_or ds 2 0) rest (omega arith) ∙ ap (λ (j : ℕ). take j (drop t.start s) ∷ []) e

  abbrev checks : List (List ℕ) → Check
  checks rs = in_order (repetition_checks ds t.component t.kind t.repetition rs)

  pub step_asks : (r : Turn) → r.start ≡ t.start + n + 1 → r.end ≡ t.end → r.repetition ≡ t.repetition + 1 → r.component ≡ t.component → r.kind ≡ t.kind
      → left_of ds s t ≡ or_else (repetition_check ds t.component t.kind t.repetition here) (left_of ds s r)
  unfolding repetition_checks
  step_asks r q1 q2 q3 q4 q5 = rw (q1, q2, q3, q4, q5) (by (eqb (t.start + n) t.end) refl)
    where
      by : (b : Bool) → eqb (t.start + n) t.end ≡ b
          → cond (leb t.start t.end) (checks (split (get_or ds 2 0) rest)) passes
          ≡ or_else (repetition_check ds t.component t.kind t.repetition here)
          (cond (leb (t.start + n + 1) t.end) (in_order (repetition_checks ds t.component t.kind (t.repetition + 1) (split (get_or ds 2 0) (behind (t.start + n + 1))))) passes)
      by true e =
          let h = eqb-true (t.start + n) t.end e in
          let g : t.end < t.start + n + 1 = omega arith in
          rw (le-leb t.start t.end goes.ordered, lt-leb (t.start + n + 1) t.end g) (ap checks (split_end h))
      by false e =
          let h = eqb-false (t.start + n) t.end e in
          let i = step_in in
          let g : t.start + n + 1 ≤ t.end = omega (arith, h) in
          rw (le-leb t.start t.end goes.ordered, le-leb (t.start + n + 1) t.end g) (ap checks (split_here h))

-- ---- a row begun

-- the first of the repetitions of a field that is there
first_state_lem : (ds : List ℕ) (component : ℕ) (sep : ℕ) (field : List ℕ) → first_state ds component (split sep field) ≡ part_state ds component (take (find sep field) field)
first_state_lem ds component sep field = of (split sep field) (split_some sep field) ∙ ap (part_state ds component) (first_part sep field)
  where
    of : (rs : List (List ℕ)) → 1 ≤ length rs → first_state ds component rs ≡ part_state ds component (get_or rs 0 [])
    of [] h = absurd (omega arith)
    of (r ∷ rs) h = refl

-- where any bytes pass, all repetitions do
any_passes : (ds : List ℕ) (component : ℕ) (kind : Kind) → is_any kind ≡ true → (number : ℕ) (rs : List (List ℕ)) → in_order (repetition_checks ds component kind number rs) ≡ passes
unfolding repetition_checks repetition_check form_check
any_passes ds component kind e number [] = refl
any_passes ds component kind e number (r ∷ rs) =
    passes_or (one kind e) (in_order (repetition_checks ds component kind (number + 1) rs)) ∙ any_passes ds component kind e (number + 1) rs
  where
    whatever : (t : Bool) → cond t passes passes ≡ passes
    whatever true = refl
    whatever false = refl

    one : (kind : Kind) → is_any kind ≡ true → repetition_check ds component kind number r ≡ passes
    one Any q = whatever (is_present (part_state ds component r))
    one Identifier q = false_true q
    one Ts q = false_true q
    one Si q = false_true q
    one Nm q = false_true q
    one Dt q = false_true q
    one Tm q = false_true q
    one (OneOf values) q = false_true q
    one (AsField f) q = false_true q

-- so none are left to be judged
pub left_any : (ds s : List ℕ) (t r : Turn) → r.start ≡ cond (is_any t.kind) (t.end + 1) t.start → r.end ≡ t.end → r.repetition ≡ t.repetition → r.component ≡ t.component → r.kind ≡ t.kind → left_of ds s t ≡ left_of ds s r
left_any ds s t r q1 q2 q3 q4 q5 = at (is_any t.kind) refl
  where
    checks : Check
    checks = in_order (repetition_checks ds t.component t.kind t.repetition (split (get_or ds 2 0) (take (t.end - t.start) (drop t.start s))))

    whatever : (b : Bool) → checks ≡ passes → cond b checks passes ≡ passes
    whatever true e = e
    whatever false e = refl

    at : (b : Bool) → is_any t.kind ≡ b → left_of ds s t ≡ left_of ds s r
    at true e =
        let g : r.end < r.start = omega (arith, q1 ∙ ap (λ (c : Bool). cond c (t.end + 1) t.start) e, q2) in
        whatever (leb t.start t.end) (any_passes ds t.component t.kind e t.repetition _) ∙ sym (rw (lt-leb r.start r.end g))
    at false e = rw (q1 ∙ ap (λ (c : Bool). cond c (t.end + 1) t.start) e, q2, q3, q4, q5)

module _ (ds s : List ℕ) (number : ℕ) (row : Row) (f : Sought) (finds : Finds ds s (field_bytes ds s number row.field) f) where
  abbrev field : List ℕ
  field = field_bytes ds s number row.field

  abbrev repetitions : List (List ℕ)
  repetitions = split (get_or ds 2 0) field

  -- repetition 1, as the code has it
  abbrev opening : List ℕ
  opening = take (f.first - f.start) (drop f.start s)

  field_length : length field ≡ f.end - f.start
  field_length =
      let o = finds.ordered in
      let w = finds.within in
      let i = finds.inside in
      let d = length-drop f.start s in
      ap length (sym finds.bytes) ∙ length-take-le (f.end - f.start) (drop f.start s) (omega arith)

  opening_is : take (find (get_or ds 2 0) field) field ≡ opening
  opening_is =
      let w = finds.within in
      let k : f.first - f.start ≤ f.end - f.start = omega arith in
      ap (λ (n : ℕ). take n field) (sym finds.opens)
      ∙ ap (take (f.first - f.start)) (sym finds.bytes)
      ∙ take-take (f.first - f.start) (f.end - f.start) (drop f.start s) k

  many_is : ltb 1 (length repetitions) ≡ ltb f.first f.end
  many_is = more_parts (get_or ds 2 0) field ∙ at (ltb f.first f.end) refl
    where
      at : (b : Bool) → ltb f.first f.end ≡ b → ltb (find (get_or ds 2 0) field) (length field) ≡ ltb f.first f.end
      at true e =
          let l = ltb-true f.first f.end e in
          let o = finds.ordered in
          let n = field_length in
          let p = finds.opens in
          lt-ltb (find (get_or ds 2 0) field) (length field) (omega arith) ∙ sym e
      at false e =
          let l = ltb-false f.first f.end e in
          let o = finds.ordered in
          let w = finds.within in
          let n = field_length in
          let p = finds.opens in
          le-ltb (find (get_or ds 2 0) field) (length field) (omega arith) ∙ sym e

  -- 31 or 34, then 36
  sent_is : (later : Check)
      → or_else (required_check row.required (first_state ds row.component repetitions)) (or_else (repeated_check row.repeats repetitions) later)
      ≡ or_else (sent_check row (part_state ds row.component opening) (ltb f.first f.end)) later
  unfolding sent_check
  sent_is later =
      ap (λ (k : State). or_else (required_check row.required k) (or_else (repeated_check row.repeats repetitions) later)) (first_state_lem ds row.component (get_or ds 2 0) field ∙ ap (part_state ds row.component) opening_is)
      ∙ ap (λ (b : Bool). or_else (required_check row.required (part_state ds row.component opening)) (or_else (fails_if (not row.repeats && b) Repeated 1) later)) many_is
      ∙ assoc (required_check row.required (part_state ds row.component opening)) (fails_if (not row.repeats && ltb f.first f.end) Repeated 1) later

  -- the whole row
  abbrev asked : List ℕ → Check
  asked said = row_check ds row said repetitions

  abbrev whole : ℕ → Kind → Turn
  whole component kind = record { cursor = f.cursor; start = f.start; end = f.end; repetition = 1; component = component; kind = kind }

  all_left : (component : ℕ) (kind : Kind) → in_order (repetition_checks ds component kind 1 repetitions) ≡ left_of ds s (whole component kind)
  all_left component kind =
      let o = finds.ordered in
      let w = finds.within in
      rw (le-leb f.start f.end (omega arith), finds.bytes)

  -- a row whose type is said, with all its repetitions left
  pub said_asks : (said : List ℕ) → asked said ≡ or_else (opening_check ds row said opening (ltb f.first f.end) repetitions) (left_of ds s (whole (component_of row said) (kind_of row.kind said)))
  unfolding row_check opening_check
  said_asks said =
      sent_is (or_else (said_check ds row.kind said repetitions) (in_order (repetition_checks ds (component_of row said) (kind_of row.kind said) 1 repetitions)))
      ∙ assoc (sent_check row (part_state ds row.component opening) (ltb f.first f.end)) (said_check ds row.kind said repetitions) (in_order (repetition_checks ds (component_of row said) (kind_of row.kind said) 1 repetitions))
      ∙ ap (or_else (or_else (sent_check row (part_state ds row.component opening) (ltb f.first f.end)) (said_check ds row.kind said repetitions))) (all_left (component_of row said) (kind_of row.kind said))

  -- a row that says its own type, with the repetitions behind the first left
  abbrev behind_first : Turn
  behind_first = record { cursor = f.cursor; start = f.first + 1; end = f.end; repetition = 2; component = row.component; kind = row.kind }

  pub own_asks : is_said row.kind ≡ false → length s + 1 < 2 ^ 64 → (said : List ℕ) → asked said ≡ or_else (own_check ds row opening (ltb f.first f.end)) (left_of ds s behind_first)
  unfolding row_check own_check
  own_asks own room said =
      sent_is (or_else (said_check ds row.kind said repetitions) (in_order (repetition_checks ds (component_of row said) (kind_of row.kind said) 1 repetitions)))
      ∙ ap (or_else sent) (unsaid ∙ all_left row.component row.kind ∙ one)
      ∙ assoc sent (repetition_check ds row.component row.kind 1 opening) (left_of ds s behind_first)
    where
      sent : Check
      sent = sent_check row (part_state ds row.component opening) (ltb f.first f.end)

      unsaid : or_else (said_check ds row.kind said repetitions) (in_order (repetition_checks ds (component_of row said) (kind_of row.kind said) 1 repetitions)) ≡ in_order (repetition_checks ds row.component row.kind 1 repetitions)
      unsaid = rw own

      goes : Goes s (whole row.component row.kind)
      goes =
          let o = finds.ordered in
          let w = finds.within in
          record { ordered = omega arith; inside = finds.inside; counted = omega arith; room = room }

      one : left_of ds s (whole row.component row.kind) ≡ or_else (repetition_check ds row.component row.kind 1 opening) (left_of ds s behind_first)
      one =
          let o = finds.ordered in
          let z : f.start + (f.first - f.start) ≡ f.first = omega arith in
          let n : f.start + (f.first - f.start) - f.start ≡ f.first - f.start = omega arith in
          step_asks ds s (whole row.component row.kind) goes (f.first - f.start) (finds.opens ∙ ap (find (get_or ds 2 0)) (sym finds.bytes))
          behind_first
          (ap (λ (i : ℕ). i + 1) (sym z)) refl refl refl refl
          ∙ ap (λ (i : ℕ). or_else (repetition_check ds row.component row.kind 1 (take i (drop f.start s))) (left_of ds s behind_first)) n

  -- a row that is begun as the code begins it
  pub said_begins : (said : List ℕ) (found : Check) (start component : ℕ) (kind : Kind)
      → is_said row.kind ≡ true
      → said ≡ first_of ds s number (said_field row.kind)
      → found ≡ opening_check ds row said opening (ltb f.first f.end) (split (get_or ds 2 0) (take (f.end - f.start) (drop f.start s)))
      → start ≡ cond (is_any kind) (f.end + 1) f.start
      → component ≡ component_of row said
      → kind ≡ kind_of row.kind said
      → asked (said_bytes ds s number row.kind) ≡ or_else found (left_of ds s (record { cursor = f.cursor; start = start; end = f.end; repetition = 1; component = component; kind = kind }))
  said_begins said found start component kind typed e o q1 q2 q3 =
      ap asked (ap (λ (t : Bool). cond t (first_of ds s number (said_field row.kind)) []) typed ∙ sym e)
      ∙ said_asks said
      ∙ ap₂ or_else
      (ap (λ (b : List ℕ). opening_check ds row said opening (ltb f.first f.end) (split (get_or ds 2 0) b)) (sym finds.bytes) ∙ sym o)
      (left_any ds s (whole (component_of row said) (kind_of row.kind said)) (record { cursor = f.cursor; start = start; end = f.end; repetition = 1; component = component; kind = kind })
      (q1 ∙ ap (λ (k : Kind). cond (is_any k) (f.end + 1) f.start) q3) refl refl q2 q3)

  pub own_begins : (found : Check) (start : ℕ)
      → is_said row.kind ≡ false
      → length s + 1 < 2 ^ 64
      → found ≡ own_check ds row opening (ltb f.first f.end)
      → start ≡ cond (is_any row.kind) (f.end + 1) (f.first + 1)
      → asked (said_bytes ds s number row.kind) ≡ or_else found (left_of ds s (record { cursor = f.cursor; start = start; end = f.end; repetition = 2; component = row.component; kind = row.kind }))
  own_begins found start own room o q =
      own_asks own room (said_bytes ds s number row.kind)
      ∙ ap₂ or_else (sym o)
      (left_any ds s behind_first (record { cursor = f.cursor; start = start; end = f.end; repetition = 2; component = row.component; kind = row.kind }) q refl refl refl refl)

-- where the repetitions that are left begin
pub left_most : (b : Bool) (start end : ℕ) → start ≤ end + 1 → cond b (end + 1) start ≤ end + 1
left_most true start end h = omega arith
left_most false start end h = h

pub left_least : (b : Bool) (start end : ℕ) → 1 ≤ start → 1 ≤ cond b (end + 1) start
left_least true start end h = omega arith
left_least false start end h = h
