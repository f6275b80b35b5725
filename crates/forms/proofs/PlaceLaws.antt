-- Laws of the places of a time's parts: bytes are of their form by these parts exactly where they are by those that begin
-- at the first sign and the first point, and then the parts are the same. Assumes nothing.
use mathlib.Core.Path.{◌≡◌, refl, sym, ap, subst, ◌∙◌}
use mathlib.Core.List.{List}
use mathlib.Core.Bool.{Bool, true, false, cond, ◌&&◌, ◌||◌}
use mathlib.Core.Logic.{◌⊎◌, inl, inr}
use Prim.Native.Nat.{ℕ, ◌+◌, ◌-◌, ◌≤◌, ◌<◌}
use native.Mathlib.Decide.{dec_lt}
use native.Mathlib.Omega.{arith}
use lib.Dec.{leb, ltb, eqb}
use lib.ListN.{length, get_or, take, drop, length-drop}
use lib.Seq.{length-take-le, get_or-take, get_or-drop}
use borrow.Author.Tests.{eqb-true, eq-eqb, ne_eqb, leb-true, le-leb, lt-leb, ltb-true, lt-ltb, le-ltb}
use Rattle.alphabet.specs.Digits.{all_digits}
use Rattle.alphabet.specs.Lists.{first, find}
use Rattle.alphabet.proofs.BoolLaws.{false_true, and_both, both_and, neither_or}
use Rattle.alphabet.proofs.DigitLaws.{digits_drop, digits_here}
use Rattle.alphabet.proofs.ListLaws.{first_le, first_passes, first_before, first_least, find_is}
use Rattle.numbers.specs.Numbers.{is_sign}
use Rattle.forms.specs.declared.layouts.Form.{Form}
use Rattle.forms.specs.Forms.{layout_of, first_sign, body_of, front_of, tail_of, zone_of, parts_form, time_form}
use Rattle.forms.specs.Places.{sign_place, point_place, body_at, zone_at, front_at, tail_at}
use Rattle.forms.proofs.FormLaws.{Formed, formed, fraction_some, fraction_holds, zone_holds}

-- ---- where a byte first stands

-- where no byte before n passes, the first that does stands at n or behind
reached : (test : ℕ → Bool) (l : List ℕ) (n : ℕ) → n ≤ length l → ((i : ℕ) → i < n → test (get_or l i 0) ≡ false) → n ≤ first test l
reached test l n h k = at (dec_lt (first test l) n)
  where
    at : Dec (first test l < n) → n ≤ first test l
    at (no c) = omega arith
    at (yes c) = absurd (false_true (sym (k (first test l) c) ∙ first_passes test l (omega arith)))

-- and where one stands at n, it is n
found : (b : ℕ) (l : List ℕ) (n : ℕ) → n < length l → get_or l n 0 ≡ b → n ≤ find b l → find b l ≡ n
found b l n h e k = let m = first_least (eqb b) l n h (eq-eqb b (get_or l n 0) (sym e)) in omega arith

-- ---- the sign

sign_is : (b : ℕ) → is_sign b ≡ true → (b ≡ 43) ⊎ (b ≡ 45)
sign_is b e = at (eqb b 43) refl e
  where
    at : (t : Bool) → eqb b 43 ≡ t → (t || eqb b 45) ≡ true → (b ≡ 43) ⊎ (b ≡ 45)
    at true q e = inl (eqb-true b 43 q)
    at false q e = inr (eqb-true b 45 e)

-- where no sign stands before the place that was looked at, it is the place of the first
module _ (l : List ℕ) where
  sign_found : ((i : ℕ) → i < sign_place l → (get_or l i 0 ≡ 43 → ⊥) × (get_or l i 0 ≡ 45 → ⊥)) → first_sign l ≡ sign_place l
  sign_found k = at (leb 5 (length l) && is_sign (get_or l (length l - 5) 0)) refl k
    where
      at : (t : Bool) → (leb 5 (length l) && is_sign (get_or l (length l - 5) 0)) ≡ t
          → ((i : ℕ) → i < cond t (length l - 5) (length l) → (get_or l i 0 ≡ 43 → ⊥) × (get_or l i 0 ≡ 45 → ⊥)) → first_sign l ≡ cond t (length l - 5) (length l)
      at true q k =
          let b = and_both (leb 5 (length l)) (is_sign (get_or l (length l - 5) 0)) q in
          let m = leb-true 5 (length l) b.0 in
          let x = reached (eqb 43) l (length l - 5) (omega arith) (λ i h. ne_eqb 43 (get_or l i 0) (λ e. (k i h).0 (sym e))) in
          let y = reached (eqb 45) l (length l - 5) (omega arith) (λ i h. ne_eqb 45 (get_or l i 0) (λ e. (k i h).1 (sym e))) in
          one m x y (sign_is (get_or l (length l - 5) 0) b.1)
        where
          one : 5 ≤ length l → length l - 5 ≤ find 43 l → length l - 5 ≤ find 45 l → (get_or l (length l - 5) 0 ≡ 43) ⊎ (get_or l (length l - 5) 0 ≡ 45) → first_sign l ≡ length l - 5
          one m x y (inl e) = let z = found 43 l (length l - 5) (omega arith) e x in omega arith
          one m x y (inr e) = let z = found 45 l (length l - 5) (omega arith) e y in omega arith
      at false q k =
          let x = reached (eqb 43) l (length l) (omega arith) (λ i h. ne_eqb 43 (get_or l i 0) (λ e. (k i h).0 (sym e))) in
          let y = reached (eqb 45) l (length l) (omega arith) (λ i h. ne_eqb 45 (get_or l i 0) (λ e. (k i h).1 (sym e))) in
          let p = first_le (eqb 43) l in
          let m = first_le (eqb 45) l in
          omega arith

  -- where nothing stands from the first sign on, or five bytes do, it stands at that place
  sign_placed : ((length l - first_sign l ≡ 0 → ⊥) → length l - first_sign l ≡ 5) → sign_place l ≡ first_sign l
  sign_placed h = at (dec_lt (first_sign l) (length l))
    where
      p : find 43 l ≤ length l
      p = first_le (eqb 43) l

      m : find 45 l ≤ length l
      m = first_le (eqb 45) l

      there : 5 ≤ length l → is_sign (get_or l (length l - 5) 0) ≡ true → sign_place l ≡ length l - 5
      there k e = ap (λ (t : Bool). cond t (length l - 5) (length l)) (both_and (le-leb 5 (length l) k) e)

      plus : length l - 5 < length l → find 43 l ≡ length l - 5 → is_sign (get_or l (length l - 5) 0) ≡ true
      plus k e = let g = subst (λ (n : ℕ). get_or l n 0 ≡ 43) e (find_is 43 l (omega arith)) in rw (eq-eqb (get_or l (length l - 5) 0) 43 g)

      minus : length l - 5 < length l → find 45 l ≡ length l - 5 → is_sign (get_or l (length l - 5) 0) ≡ true
      minus k e =
          let g = subst (λ (n : ℕ). get_or l n 0 ≡ 45) e (find_is 45 l (omega arith)) in
          or_second (eqb (get_or l (length l - 5) 0) 43) (eq-eqb (get_or l (length l - 5) 0) 45 g)
        where
          or_second : (t : Bool) {u : Bool} → u ≡ true → (t || u) ≡ true
          or_second true e = refl
          or_second false e = e

      some : first_sign l < length l → is_sign (get_or l (length l - 5) 0) ≡ true
      some k = which (dec_lt (find 45 l) (find 43 l))
        where
          which : Dec (find 45 l < find 43 l) → is_sign (get_or l (length l - 5) 0) ≡ true
          which (yes c) = let f = h (λ z. absurd (omega arith)) in minus (omega arith) (omega arith)
          which (no c) = let f = h (λ z. absurd (omega arith)) in plus (omega arith) (omega arith)

      none : length l ≤ first_sign l → (leb 5 (length l) && is_sign (get_or l (length l - 5) 0)) ≡ false
      none k = long (dec_lt (length l) 5)
        where
          long : Dec (length l < 5) → (leb 5 (length l) && is_sign (get_or l (length l - 5) 0)) ≡ false
          long (yes c) = rw (lt-leb 5 (length l) c)
          long (no c) =
              let x = first_before (eqb 43) l (length l - 5) (omega arith) in
              let y = first_before (eqb 45) l (length l - 5) (omega arith) in
              rw (le-leb 5 (length l) (omega arith)) (neither_or (flip 43 x) (flip 45 y))
            where
              flip : (b : ℕ) → eqb b (get_or l (length l - 5) 0) ≡ false → eqb (get_or l (length l - 5) 0) b ≡ false
              flip b e = ne_eqb (get_or l (length l - 5) 0) b (λ q. absurd (false_true (sym e ∙ eq-eqb b (get_or l (length l - 5) 0) (sym q))))

      at : Dec (first_sign l < length l) → sign_place l ≡ first_sign l
      at (yes c) =
          let f = h (λ z. absurd (omega arith)) in
          let g = there (omega arith) (some c) in
          omega arith
      at (no c) =
          let e : sign_place l ≡ length l = ap (λ (t : Bool). cond t (length l - 5) (length l)) (none (omega arith)) in
          let x = p in
          let y = m in
          omega arith

-- ---- the point

module _ (seconds : ℕ) (body : List ℕ) where
  point_found : ((i : ℕ) → i < point_place seconds body → get_or body i 0 ≡ 46 → ⊥) → find 46 body ≡ point_place seconds body
  point_found k = at (ltb seconds (length body) && eqb (get_or body seconds 0) 46) refl k
    where
      at : (t : Bool) → (ltb seconds (length body) && eqb (get_or body seconds 0) 46) ≡ t
          → ((i : ℕ) → i < cond t seconds (length body) → get_or body i 0 ≡ 46 → ⊥) → find 46 body ≡ cond t seconds (length body)
      at true q k =
          let b = and_both (ltb seconds (length body)) (eqb (get_or body seconds 0) 46) q in
          let m = ltb-true seconds (length body) b.0 in
          let x = reached (eqb 46) body seconds (omega arith) (λ i h. ne_eqb 46 (get_or body i 0) (λ e. k i h (sym e))) in
          found 46 body seconds m (eqb-true (get_or body seconds 0) 46 b.1) x
      at false q k =
          let x = reached (eqb 46) body (length body) (omega arith) (λ i h. ne_eqb 46 (get_or body i 0) (λ e. k i h (sym e))) in
          let m = first_le (eqb 46) body in
          omega arith

  -- where nothing stands from the point on, or the point stands behind the seconds, it stands at that place
  point_placed : ((length body - find 46 body ≡ 0 → ⊥) → find 46 body ≡ seconds) → point_place seconds body ≡ find 46 body
  point_placed h = at (dec_lt (find 46 body) (length body))
    where
      some : find 46 body < length body → point_place seconds body ≡ seconds
      some k =
          let e = h (λ z. absurd (omega arith)) in
          let g = subst (λ (n : ℕ). get_or body n 0 ≡ 46) e (find_is 46 body k) in
          ap (λ (t : Bool). cond t seconds (length body)) (both_and (lt-ltb seconds (length body) (omega arith)) (eq-eqb (get_or body seconds 0) 46 g))

      none : length body ≤ find 46 body → (ltb seconds (length body) && eqb (get_or body seconds 0) 46) ≡ false
      none k = long (dec_lt seconds (length body))
        where
          long : Dec (seconds < length body) → (ltb seconds (length body) && eqb (get_or body seconds 0) 46) ≡ false
          long (no c) = rw (le-ltb seconds (length body) (omega arith))
          long (yes c) =
              let x = first_before (eqb 46) body seconds (omega arith) in
              rw (lt-ltb seconds (length body) c) (ne_eqb (get_or body seconds 0) 46 (λ q. absurd (false_true (sym x ∙ eq-eqb 46 (get_or body seconds 0) (sym q)))))

      at : Dec (find 46 body < length body) → point_place seconds body ≡ find 46 body
      at (yes c) = some c ∙ sym (h (λ z. absurd (omega arith)))
      at (no c) =
          let e : point_place seconds body ≡ length body = ap (λ (t : Bool). cond t seconds (length body)) (none (omega arith)) in
          let m = first_le (eqb 46) body in
          omega arith

  pub point_within : point_place seconds body ≤ length body
  point_within = at (ltb seconds (length body) && eqb (get_or body seconds 0) 46) refl
    where
      at : (t : Bool) → (ltb seconds (length body) && eqb (get_or body seconds 0) 46) ≡ t → cond t seconds (length body) ≤ length body
      at true q = let m = ltb-true seconds (length body) (and_both (ltb seconds (length body)) (eqb (get_or body seconds 0) 46) q).0 in omega arith
      at false q = omega arith

  point_there : point_place seconds body < length body → get_or body (point_place seconds body) 0 ≡ 46
  point_there h = at (ltb seconds (length body) && eqb (get_or body seconds 0) 46) refl h
    where
      at : (t : Bool) → (ltb seconds (length body) && eqb (get_or body seconds 0) 46) ≡ t → cond t seconds (length body) < length body → get_or body (cond t seconds (length body)) 0 ≡ 46
      at true q h = eqb-true (get_or body seconds 0) 46 (and_both (ltb seconds (length body)) (eqb (get_or body seconds 0) 46) q).1
      at false q h = absurd (omega arith)

pub sign_within : (l : List ℕ) → sign_place l ≤ length l
sign_within l = at (leb 5 (length l) && is_sign (get_or l (length l - 5) 0))
  where
    at : (t : Bool) → cond t (length l - 5) (length l) ≤ length l
    at true = omega arith
    at false = omega arith

-- ---- the three parts

digit_at : (l : List ℕ) (i : ℕ) → all_digits l ≡ true → i < length l → 48 ≤ get_or l i 0
digit_at l i e h = (digits_here l i h (digits_drop i l e)).0

module _ (form : Form) (l : List ℕ) where
  abbrev seconds : ℕ
  seconds = (layout_of form).seconds

  abbrev body : List ℕ
  body = body_at l

  abbrev point : ℕ
  point = point_place seconds body

  abbrev pub SameParts : Type 0
  SameParts = (front_at form l ≡ front_of l) × (tail_at form l ≡ tail_of l) × (zone_at l ≡ zone_of l)

  same_places : first_sign l ≡ sign_place l → find 46 body ≡ point → SameParts
  same_places e q = (
    sym (ap (λ (z : ℕ). take (find 46 (take z l)) (take z l)) e ∙ ap (λ (n : ℕ). take n body) q),
    sym (ap (λ (z : ℕ). drop (find 46 (take z l)) (take z l)) e ∙ ap (λ (n : ℕ). drop n body) q),
    sym (ap (λ (z : ℕ). drop z l) e),
  )

  -- where the parts are of their forms, digits and one point stand before the sign
  module _ (f : Formed form (front_at form l) (tail_at form l) (zone_at l)) where
    body_length : length body ≡ sign_place l
    body_length = length-take-le (sign_place l) l (sign_within l)

    in_front : (i : ℕ) → i < point → 48 ≤ get_or body i 0
    in_front i h =
        let n = length-take-le point body (point_within seconds body) in
        subst (λ (x : ℕ). 48 ≤ x) (get_or-take point body i 0 h) (digit_at (take point body) i f.digits (omega arith))

    in_tail : (i : ℕ) → point < i → i < length body → 48 ≤ get_or body i 0
    in_tail i h k =
        let t = drop point body in
        let n = length-drop point body in
        let m = length-drop 1 t in
        let e : point + (1 + (i - point - 1)) ≡ i = omega arith in
        let d = (fraction_holds (eqb (length (take point body)) seconds) t f.tailed).0 in
        subst (λ (x : ℕ). 48 ≤ x) (get_or-drop 1 t (i - point - 1) 0 ∙ get_or-drop point body (1 + (i - point - 1)) 0 ∙ ap (λ (j : ℕ). get_or body j 0) e)
        (digit_at (drop 1 t) (i - point - 1) d (omega arith))

    in_body : (i : ℕ) → i < length body → 46 ≤ get_or body i 0
    in_body i h = at (dec_lt i point) (dec_lt point i)
      where
        at : Dec (i < point) → Dec (point < i) → 46 ≤ get_or body i 0
        at (yes c) d = let m = in_front i c in omega arith
        at (no c) (yes d) = let m = in_tail i d h in omega arith
        at (no c) (no d) =
            let e : point ≡ i = omega arith in
            let m = subst (λ (j : ℕ). get_or body j 0 ≡ 46) e (point_there seconds body (omega arith)) in
            omega arith

    before_sign : (i : ℕ) → i < sign_place l → 46 ≤ get_or l i 0
    before_sign i h = let n = body_length in subst (λ (x : ℕ). 46 ≤ x) (get_or-take (sign_place l) l i 0 h) (in_body i (omega arith))

    by_places : SameParts
    by_places =
        same_places (sign_found l (λ i h. let m = before_sign i h in (λ e. absurd (omega arith), λ e. absurd (omega arith))))
        (point_found seconds body (λ i h e. let m = in_front i h in absurd (omega arith)))

  -- where those from the first sign and the first point on are, the places are theirs
  module _ (f : Formed form (front_of l) (tail_of l) (zone_of l)) where
    by_first : SameParts
    by_first =
        let n = length-drop (first_sign l) l in
        let z = (zone_holds (zone_of l) f.zoned).1 in
        let e = sign_placed l (λ h. let k = z (λ m. h (omega arith)) in omega arith) in
        same_places (sym e) (subst (λ (z : ℕ). find 46 (take z l) ≡ point_place seconds (take z l)) (sym e) (sym (point_placed seconds (body_of l) at_seconds)))
      where
        at_seconds : (length (body_of l) - find 46 (body_of l) ≡ 0 → ⊥) → find 46 (body_of l) ≡ seconds
        at_seconds h =
            let b = body_of l in
            let n = length-drop (find 46 b) b in
            let m = length-take-le (find 46 b) b (first_le (eqb 46) b) in
            let t = sym (fraction_some (eqb (length (front_of l)) seconds) (tail_of l) (λ k. h (omega arith))) ∙ f.tailed in
            let e = eqb-true (length (front_of l)) seconds (and_both (eqb (length (front_of l)) seconds) _ (and_both _ (all_digits (drop 1 (tail_of l))) t).0).0 in
            omega arith

  pub same_parts : parts_form form (front_at form l) (tail_at form l) (zone_at l) ≡ true → SameParts
  same_parts e = by_places (formed form (front_at form l) (tail_at form l) (zone_at l) e)

  pub placed_form : parts_form form (front_at form l) (tail_at form l) (zone_at l) ≡ time_form form l
  unfolding time_form
  placed_form = at (parts_form form (front_at form l) (tail_at form l) (zone_at l)) (parts_form form (front_of l) (tail_of l) (zone_of l)) refl refl
    where
      equal : SameParts → parts_form form (front_at form l) (tail_at form l) (zone_at l) ≡ parts_form form (front_of l) (tail_of l) (zone_of l)
      equal s i = parts_form form (s.0 i) (s.1 i) (s.2 i)

      at : (t u : Bool) → parts_form form (front_at form l) (tail_at form l) (zone_at l) ≡ t → parts_form form (front_of l) (tail_of l) (zone_of l) ≡ u
          → parts_form form (front_at form l) (tail_at form l) (zone_at l) ≡ parts_form form (front_of l) (tail_of l) (zone_of l)
      at true u p q = equal (same_parts p)
      at false true p q = equal (by_first (formed form (front_of l) (tail_of l) (zone_of l) q))
      at false false p q = p ∙ sym q
