-- Laws of rows: eight numbers each, written one behind another, and the state of bytes without separators; and of the start that a walk has, which
-- tells a name. Assumes nothing.
use mathlib.Core.Path.{◌≡◌, refl, sym, ap, ap₂, ◌∙◌}
use mathlib.Core.List.{List, [], ◌∷◌, ◌++◌, append_assoc, append-nil}
use mathlib.Core.Bool.{Bool, true, false, cond, ◌&&◌}
use Prim.Native.Nat.{ℕ, suc, ◌+◌, ◌-◌, ◌*◌, ◌≤◌, ◌<◌}
use native.Mathlib.Omega.{arith}
use lib.Dec.{eqb}
use lib.ListN.{length, get_or, take, drop, set, length-append, length-set, length-drop, take-append-drop}
use lib.Seq.{length-take-le, get_or-take, get_or-drop}
use borrow.Author.Tests.{eq-eqb, ne_eqb, eqb-true, eqb-false, le-ltb, lt-ltb}
use Rattle.alphabet.specs.Bytes.{is_null}
use Rattle.alphabet.specs.Filling.{over, pasted}
use Rattle.alphabet.specs.Lists.{first}
use Rattle.alphabet.proofs.FillingLaws.{Filling, fill_from, fill_more, fill_from_end, fill_end, fill_room, set_pasted}
use Rattle.element.specs.Levels.{between}
use Rattle.element.proofs.LevelLaws.{between_length}
use Rattle.element.specs.States.{is_empty, state_of}
use Rattle.element.specs.declared.address.Address.{Address}
use Rattle.element.specs.declared.states.State.{State}
use Rattle.leaves.specs.Leaves.{Leaf, leaf_at, state_number, row, rows}
use Rattle.leaves.specs.Walks.{here_of, plain_state, state_at, shown, begins, Written}
use Rattle.leaves.proofs.LevelLaws.{Clear}

-- ---- eight numbers that are set one behind another

next_set : {W d rest d' : List ℕ} {o : ℕ} (v p : ℕ) → Filling W d (v ∷ rest) d' o → o < length d → length d' ≡ length d → p ≡ o + 1
    → Filling W d rest (set d' o v) p × (length (set d' o v) ≡ length d)
next_set {rest = rest} {d' = d'} {o = o} v p f h n e = (fill_more (v ∷ []) rest _ p f refl (set_pasted d' o v (omega arith)) e, simp length-set n)

pub eight_pasted : (d : List ℕ) (at x₀ x₁ x₂ x₃ x₄ x₅ x₆ x₇ : ℕ) → at + 8 ≤ length d
    → set (set (set (set (set (set (set (set d at x₀) (at + 1) x₁) (at + 2) x₂) (at + 3) x₃) (at + 4) x₄) (at + 5) x₅) (at + 6) x₆) (at + 7) x₇
    ≡ pasted d at (x₀ ∷ x₁ ∷ x₂ ∷ x₃ ∷ x₄ ∷ x₅ ∷ x₆ ∷ x₇ ∷ [])
eight_pasted d at x₀ x₁ x₂ x₃ x₄ x₅ x₆ x₇ h =
    let f₁ = next_set x₀ (at + 1) (fill_from (x₀ ∷ x₁ ∷ x₂ ∷ x₃ ∷ x₄ ∷ x₅ ∷ x₆ ∷ x₇ ∷ []) d at (omega arith)) (omega arith) refl refl in
    let f₂ = next_set x₁ (at + 2) f₁.0 (omega arith) f₁.1 (omega arith) in
    let f₃ = next_set x₂ (at + 3) f₂.0 (omega arith) f₂.1 (omega arith) in
    let f₄ = next_set x₃ (at + 4) f₃.0 (omega arith) f₃.1 (omega arith) in
    let f₅ = next_set x₄ (at + 5) f₄.0 (omega arith) f₄.1 (omega arith) in
    let f₆ = next_set x₅ (at + 6) f₅.0 (omega arith) f₅.1 (omega arith) in
    let f₇ = next_set x₆ (at + 7) f₆.0 (omega arith) f₆.1 (omega arith) in
    let f₈ = next_set x₇ (at + 8) f₇.0 (omega arith) f₇.1 (omega arith) in
    (fill_from_end (x₀ ∷ x₁ ∷ x₂ ∷ x₃ ∷ x₄ ∷ x₅ ∷ x₆ ∷ x₇ ∷ []) at f₈.0 (omega arith) refl).1

-- ---- rows

pub rows_append : (ks ls : List Leaf) → rows (ks ++ ls) ≡ rows ks ++ rows ls
unfolding rows
rows_append [] ls = refl
rows_append (k ∷ ks) ls = ap (λ (x : List ℕ). row k ++ x) (rows_append ks ls) ∙ sym (append_assoc (row k) (rows ks) (rows ls))

pub rows_length : (ls : List Leaf) → length (rows ls) ≡ 8 * length ls
unfolding rows
rows_length [] = refl
rows_length (l ∷ ls) = let n = rows_length ls in omega arith

pub rows_one : (l : Leaf) → rows (l ∷ []) ≡ row l
unfolding rows
rows_one l = refl

pub rows_none : rows [] ≡ []
unfolding rows
rows_none = refl

-- ---- the state of a leaf

free_first : (test : ℕ → Bool) (b : ℕ) (p : List ℕ) → first test (b ∷ p) ≡ suc (length p) → test b ≡ false
unfolding first
free_first test b p e = at (test b) refl e
  where
    at : (t : Bool) → test b ≡ t → cond t 0 (suc (first test p)) ≡ suc (length p) → test b ≡ false
    at true q e = absurd (omega arith)
    at false q e = q

turned : (x y : ℕ) → eqb x y ≡ false → eqb y x ≡ false
turned x y e = ne_eqb y x (λ q. eqb-false x y e (sym q))

-- bytes without separators are empty where there are none
clear_empty : (ds p : List ℕ) → Clear ds p → is_empty ds p ≡ eqb (length p) 0
unfolding first
clear_empty ds [] w = refl
clear_empty ds (b ∷ p) w =
    let c : eqb b (get_or ds 1 0) ≡ false = turned (get_or ds 1 0) b (free_first (eqb (get_or ds 1 0)) b p w.of_comp) in
    let r : eqb b (get_or ds 2 0) ≡ false = turned (get_or ds 2 0) b (free_first (eqb (get_or ds 2 0)) b p w.of_rep) in
    let u : eqb b (get_or ds 4 0) ≡ false = turned (get_or ds 4 0) b (free_first (eqb (get_or ds 4 0)) b p w.of_sub) in
    rw (c, r, u) (ne_eqb 0 (suc (length p)) (λ e. omega arith) ∙ sym (ne_eqb (suc (length p)) 0 (λ e. omega arith)))

pub plain_state_lem : (ds p : List ℕ) → Clear ds p → state_number (state_of ds p) ≡ plain_state p
unfolding state_of
plain_state_lem ds p w = rw (clear_empty ds p w) (at (is_null p) (eqb (length p) 0))
  where
    at : (t u : Bool) → state_number (cond t State.Null (cond u State.Empty State.Present)) ≡ cond t 2 (cond u 1 3)
    at true u = refl
    at false true = refl
    at false false = refl

-- ---- the row of a leaf that ends here: none for a name

module _ (ds : List ℕ) (a : Address) (start : ℕ) (p : List ℕ) where
  pub here_name : a.field ≡ 0 → rows (here_of ds a start p) ≡ []
  here_name e = rw (eq-eqb a.field 0 e) rows_none

  pub here_leaf : (a.field ≡ 0 → ⊥) → Clear ds p
      → rows (here_of ds a start p)
      ≡ a.segment ∷ a.field ∷ a.repetition ∷ a.component ∷ a.subcomponent ∷ plain_state p ∷ start ∷ (start + length p) ∷ []
  here_leaf n w =
      rw (ne_eqb a.field 0 n)
      (rows_one (leaf_at ds a start p)
      ∙ ap (λ (x : ℕ). a.segment ∷ a.field ∷ a.repetition ∷ a.component ∷ a.subcomponent ∷ x ∷ start ∷ (start + length p) ∷ []) (plain_state_lem ds p w))

-- ---- the state of bytes without separators, by what is asked of them

pub state_none : (m : List ℕ) (start end : ℕ) → start ≡ end → 1 ≡ plain_state (between m start end)
state_none m start end e =
    let z : end - start ≡ 0 = omega arith in
    sym (ap (λ (n : ℕ). plain_state (take n (drop start m))) z)

pub state_null : (p : List ℕ) → is_null p ≡ true → 2 ≡ plain_state p
state_null p e = rw e

pub state_other : (p : List ℕ) → is_null p ≡ false → (length p ≡ 0 → ⊥) → 3 ≡ plain_state p
state_other p e n = rw (e, ne_eqb (length p) 0 n)

pub pasted_nothing : (d : List ℕ) (at : ℕ) → at ≤ length d → pasted d at [] ≡ d
pasted_nothing d at h = let n : at + 0 ≡ at = omega arith in ap₂ (λ (x : List ℕ) (k : ℕ). x ++ drop k d) (append-nil (take at d)) n ∙ take-append-drop at d

pub state_between : (m : List ℕ) (start end : ℕ) → start ≤ end → end ≤ length m → is_null (between m start end) ≡ false → (start ≡ end → ⊥) → 3 ≡ plain_state (between m start end)
state_between m start end h k e n =
    let l = between_length m start end h k in
    let z : (length (between m start end) ≡ 0) → ⊥ = λ q. n (omega arith) in
    state_other (between m start end) e z

-- ---- rows that were written, and more of them

pub written_more : {W d₀ rest₀ d : List ℕ} {o : ℕ} (xs rest d' : List ℕ) (o' : ℕ) → Written W d₀ rest₀ d o → rest₀ ≡ xs ++ rest → d' ≡ pasted d o xs → o' ≡ o + length xs → Written W d₀ rest d' o'
written_more {W} {d₀} {rest₀} {d} {o} xs rest d' o' w e q n =
    let f : Filling W d₀ rest₀ d o = record { front = w.front; whole = w.all; size = w.size; holds = w.holds } in
    let g = fill_more xs rest d' o' f e q n in
    record { front = g.front; all = g.whole; size = g.size; holds = g.holds }

-- what is pasted where there is room changes no length
pub pasted_length : (d xs : List ℕ) (at : ℕ) → at + length xs ≤ length d → length (pasted d at xs) ≡ length d
pasted_length d xs at h =
    let t = length-take-le at d (omega arith) in
    let k = length-drop (at + length xs) d in
    let a = length-append (take at d ++ xs) (drop (at + length xs) d) in
    let b = length-append (take at d) xs in
    omega arith

pub written_end : (W d₀ d : List ℕ) (o : ℕ) → Written W d₀ [] d o → (o ≡ length W) × (d ≡ over W d₀)
written_end W d₀ d o w =
    let f : Filling W d₀ [] d o = record { front = w.front; whole = w.all; size = w.size; holds = w.holds } in
    let r = fill_room f in
    (omega arith, fill_end f refl)

module _ (m : List ℕ) (start end : ℕ) (h : start ≤ end) (k : end ≤ length m) (n : start ≡ end → ⊥) where
  -- a byte of the leaf, by its place in the message
  own_byte : (j : ℕ) → j < end - start → get_or (between m start end) j 0 ≡ get_or m (start + j) 0
  own_byte j g = get_or-take (end - start) (drop start m) j 0 g ∙ get_or-drop start m j 0

  own_first : get_or (between m start end) 0 0 ≡ get_or m start 0
  own_first = let e : start + 0 ≡ start = omega arith in own_byte 0 (omega (arith, n)) ∙ ap (λ (i : ℕ). get_or m i 0) e

  -- it does not begin with a quote
  pub state_unquoted : (get_or m start 0 ≡ 34 → ⊥) → 3 ≡ plain_state (between m start end)
  state_unquoted w =
      let z = ne_eqb (get_or (between m start end) 0 0) 34 (λ q. w (sym own_first ∙ q)) in
      state_between m start end h k (ap (λ (t : Bool). eqb (length (between m start end)) 2 && (t && eqb (get_or (between m start end) 1 0) 34)) z ∙ and_none (eqb (length (between m start end)) 2)) n
    where
      and_none : (t : Bool) → (t && false) ≡ false
      and_none true = refl
      and_none false = refl

  -- it does
  null_if : get_or m start 0 ≡ 34 → is_null (between m start end) ≡ (eqb (start + 2) end && eqb (get_or m (start + 1) 0) 34)
  null_if w = at (eqb (start + 2) end) refl
    where
      at : (t : Bool) → eqb (start + 2) end ≡ t → is_null (between m start end) ≡ (t && eqb (get_or m (start + 1) 0) 34)
      at true e =
          let q = eqb-true (start + 2) end e in
          let l = between_length m start end h k in
          rw (eq-eqb (length (between m start end)) 2 (omega arith), eq-eqb (get_or (between m start end) 0 0) 34 (own_first ∙ w), own_byte 1 (omega arith))
      at false e =
          let q = eqb-false (start + 2) end e in
          let l = between_length m start end h k in
          rw (ne_eqb (length (between m start end)) 2 (λ z. q (omega arith)))

  pub state_quotes : get_or m start 0 ≡ 34 → (eqb (start + 2) end && eqb (get_or m (start + 1) 0) 34) ≡ true → 2 ≡ plain_state (between m start end)
  state_quotes w e = state_null (between m start end) (null_if w ∙ e)

  pub state_quoted : get_or m start 0 ≡ 34 → (eqb (start + 2) end && eqb (get_or m (start + 1) 0) 34) ≡ false → 3 ≡ plain_state (between m start end)
  state_quoted w e = state_between m start end h k (null_if w ∙ e) n

-- ---- the start that a walk has

pub begins_shown : (a : Address) (start s : ℕ) → start ≡ shown a s → begins a start ≡ s
begins_shown a start s e = at (eqb a.field 0) e
  where
    at : (t : Bool) → start ≡ cond t (s + 1048576) s → cond t (start - 1048576) start ≡ s
    at true q = omega arith
    at false q = q

pub own_start : (a : Address) (start : ℕ) → (a.field ≡ 0 → ⊥) → begins a start ≡ start
own_start a start n = rw (ne_eqb a.field 0 n)

pub leaf_shown : (a b : Address) (s : ℕ) → a ≡ b → (b.field ≡ 0 → ⊥) → s ≡ shown a s
leaf_shown a b s e n = rw (ne_eqb a.field 0 (λ z. n (sym (ap (λ (x : Address). x.field) e) ∙ z)))

pub name_shown : (a b : Address) (s : ℕ) → a ≡ b → b.field ≡ 0 → s + 1048576 ≡ shown a s
name_shown a b s e n = rw (eq-eqb a.field 0 (ap (λ (x : Address). x.field) e ∙ n))

pub state_leaf : (m : List ℕ) (start end n : ℕ) → start ≤ end → n ≡ plain_state (between m start end) → n ≡ state_at m start end
state_leaf m start end n h e = rw (le-ltb end start h) e

pub state_name : (m : List ℕ) (start end : ℕ) → end < start → 0 ≡ state_at m start end
state_name m start end h = rw (lt-ltb end start h)

-- a leaf has some state
pub state_some : (bytes : List ℕ) → plain_state bytes ≡ 0 → ⊥
state_some bytes e = at (is_null bytes) (eqb (length bytes) 0) e
  where
    at : (t u : Bool) → ◌≡◌ {A = ℕ} (cond t 2 (cond u 1 3)) 0 → ⊥
    at true u e = absurd (omega arith)
    at false true e = absurd (omega arith)
    at false false e = absurd (omega arith)

module _ (m : List ℕ) (a : Address) (start end : ℕ) (h : start ≡ shown a (begins a start)) (k : begins a start ≤ end) where
  -- no state tells a name, and some state a leaf
  pub told_name : state_at m start end ≡ 0 → a.field ≡ 0
  told_name z = at (eqb a.field 0) refl
    where
      at : (t : Bool) → eqb a.field 0 ≡ t → a.field ≡ 0
      at true e = eqb-true a.field 0 e
      at false e =
          let w : start ≤ end = rw e at k in
          absurd (state_some (between m start end) (state_leaf m start end (plain_state (between m start end)) w refl ∙ z))

  pub told_leaf : end < 1048576 → (state_at m start end ≡ 0 → ⊥) → a.field ≡ 0 → ⊥
  told_leaf g n z =
      let e = eq-eqb a.field 0 z in
      let w : start ≡ start - 1048576 + 1048576 = rw e at h in
      n (sym (state_name m start end (omega arith)))
