-- What a sequence asks for: its parts, the digits of its number along a loop, that a number held at 201 is read as the
-- exact one is, and what is asked for by the length of the sequence. Assumes nothing.
use mathlib.Core.Logic.{◌⊎◌, inl, inr, ⊎_elim}
use mathlib.Core.Path.{◌≡◌, refl, sym, ap, ◌∙◌}
use mathlib.Core.List.{List, [], ◌∷◌}
use mathlib.Core.Bool.{Bool, true, false, cond, ◌&&◌, ◌||◌}
use Prim.Native.Nat.{ℕ, ◌+◌, ◌-◌, ◌*◌, ◌≤◌, ◌<◌}
use native.Mathlib.Omega.{arith}
use lib.Dec.{ltb, eqb}
use lib.ListN.{length, get_or, take, drop, drop_of_length-le}
use lib.Seq.{take_all}
use borrow.Author.Tests.{lt-ltb, le-ltb, ltb-true, ltb-false}
use Rattle.std.specs.Prelude.{Option, Some, None, is_some}
use Rattle.alphabet.specs.Digits.{all_digits, counted, decimal}
use Rattle.alphabet.specs.Bytes.{ascii}
use Rattle.alphabet.specs.Lists.{same}
use Rattle.alphabet.proofs.ListLaws.{same_unlike}
use Rattle.alphabet.proofs.DigitLaws.{counted_next}
use Rattle.format_commands.specs.Commands.{digits_of, signed_of, number_of, numbered, order_of, command, held_size, held_amount, held_number, held, held_order}
use Rattle.format_commands.specs.declared.numbers.Amount.{Amount}
use Rattle.format_commands.specs.declared.orders.Order.{Order}
use Rattle.format_commands.specs.declared.orders.Order.TheVariants.{Highlight, Break, Centre, Fill, Unfill, Down, Across, Margin, Once}

-- ---- holding

pub held_below : (n : ℕ) → n < 201 → held_size n ≡ n
unfolding held_size
held_below n h = rw (lt-ltb n 201 h)

pub held_above : (n : ℕ) → 201 ≤ n → held_size n ≡ 201
unfolding held_size
held_above n h = rw (le-ltb n 201 h)

pub held_cases : (n : ℕ) → ((n < 201) × (held_size n ≡ n)) ⊎ ((201 ≤ n) × (held_size n ≡ 201))
held_cases n = at (ltb n 201) refl
  where
    at : (t : Bool) → ltb n 201 ≡ t → ((n < 201) × (held_size n ≡ n)) ⊎ ((201 ≤ n) × (held_size n ≡ 201))
    at true e = inl (ltb-true n 201 e, held_below n (ltb-true n 201 e))
    at false e = inr (ltb-false n 201 e, held_above n (ltb-false n 201 e))

pub held_most : (n : ℕ) → held_size n ≤ 201
held_most n =
    ⊎_elim (λ (h : (n < 201) × (held_size n ≡ n)). let a = h.0 in let b = h.1 in omega arith)
    (λ (h : (201 ≤ n) × (held_size n ≡ 201)). let b = h.1 in omega arith) (held_cases n)

-- ---- the digits of a number

counted_grows : (n : ℕ) (l : List ℕ) → n ≤ counted n l
unfolding counted
counted_grows n [] = omega arith
counted_grows n (d ∷ r) = let z = counted_grows (n * 10 + (d - 48)) r in omega arith

pub held_counted : (n : ℕ) (l : List ℕ) → held_size (counted (held_size n) l) ≡ held_size (counted n l)
held_counted n l =
    ⊎_elim (λ (h : (n < 201) × (held_size n ≡ n)). ap (λ (k : ℕ). held_size (counted k l)) h.1)
    (λ (h : (201 ≤ n) × (held_size n ≡ 201)).
    let a = h.0 in
    let x = counted_grows 201 l in
    let y = counted_grows n l in
    ap (λ (k : ℕ). held_size (counted k l)) h.1 ∙ held_above (counted 201 l) x ∙ sym (held_above (counted n l) (omega arith))) (held_cases n)

pub digits_none : (m : Bool) (l : List ℕ) → length l ≡ 0 → held_number (digits_of m l) ≡ None
unfolding digits_of held_number
digits_none m [] h = refl
digits_none m (d ∷ r) h = absurd (omega arith)

pub digits_bad : (m : Bool) (l : List ℕ) → all_digits l ≡ false → held_number (digits_of m l) ≡ None
unfolding digits_of held_number
digits_bad m [] e = refl
digits_bad m (d ∷ r) e = rw e

pub digits_good : (m : Bool) (l : List ℕ) → 0 < length l → all_digits l ≡ true → held_number (digits_of m l) ≡ Some (record { minus = m; size = held_size (decimal l) })
unfolding digits_of held_number
digits_good m [] h e = absurd (omega arith)
digits_good m (d ∷ r) h e = rw e

-- ---- held numbers

pub held_own : (n : ℕ) → n ≤ 201 → held_size n ≡ n
held_own n k =
    ⊎_elim (λ (h : (n < 201) × (held_size n ≡ n)). h.1)
    (λ (h : (201 ≤ n) × (held_size n ≡ 201)). let a = h.0 in let b = h.1 in omega arith) (held_cases n)

-- the number so far, with one digit more
pub held_digit : (l : List ℕ) (i n m : ℕ) → i < length l → m ≡ held_size (n * 10 + (get_or l i 0 - 48))
    → held_size (counted n (drop i l)) ≡ held_size (counted m (drop (i + 1) l))
held_digit l i n m h e =
    ap held_size (counted_next l i h n) ∙ sym (held_counted (n * 10 + (get_or l i 0 - 48)) (drop (i + 1) l)) ∙ ap (λ (k : ℕ). held_size (counted k (drop (i + 1) l))) (sym e)

-- a sequence held is the sequence of a number held
pub held_numbered : (name : List ℕ) (n : Option Amount) → numbered name (held_number n) ≡ held_order (numbered name n)
unfolding numbered held_number held held_order
held_numbered name None = refl
held_numbered name (Some a) = at (same name (ascii ".sp")) (same name (ascii ".sk")) (same name (ascii ".in")) (same name (ascii ".ti"))
  where
    at : (t u v w : Bool)
        → cond t (Some (Down (held_amount a))) (cond u (Some (Across (held_amount a))) (cond v (Some (Margin (held_amount a))) (cond w (Some (Once (held_amount a))) None)))
        ≡ held_order (cond t (Some (Down a)) (cond u (Some (Across a)) (cond v (Some (Margin a)) (cond w (Some (Once a)) None))))
    at true u v w = refl
    at false true v w = refl
    at false false true w = refl
    at false false false true = refl
    at false false false false = refl

pub known_held : (o : Option Order) → is_some (held_order o) ≡ is_some o
unfolding held_order
known_held None = refl
known_held (Some o) = refl

-- whether a sequence is a command, told by what it asks for, held
pub command_held : (c : List ℕ) (o : Option Order) → o ≡ held_order (order_of c) → is_some o ≡ command c
unfolding command
command_held c o e = ap is_some e ∙ known_held (order_of c)

-- ---- by the length of a sequence

and_true : (b : Bool) → (b && true) ≡ b
and_true true = refl
and_true false = refl

pub name_same : (x y z one two : ℕ) → (eqb x 46 && (eqb y one && eqb z two)) ≡ same (x ∷ y ∷ z ∷ []) (46 ∷ one ∷ two ∷ [])
unfolding same
name_same x y z one two = ap (λ (b : Bool). eqb x 46 && (eqb y one && b)) (sym (and_true (eqb z two)))

abbrev one : Amount
one = record { minus = false; size = 1 }

-- a letter
letter_alone : (x : ℕ) → order_of (x ∷ []) ≡ cond (eqb x 72) (Some Highlight) (cond (eqb x 78) (Some Highlight) None)
unfolding order_of same numbered number_of signed_of digits_of
letter_alone x = at (eqb x 72) (eqb x 78) (eqb x 46)
  where
    at : (t u v : Bool)
        → cond (t && true) (Some Highlight) (cond (u && true) (Some Highlight) (cond (v && false) (Some Break) (cond (v && false) (Some Centre) (cond (v && false) (Some Fill) (cond (v && false) (Some Unfill) (cond (v && false) (Some (Down one)) None))))))
        ≡ cond t (Some Highlight) (cond u (Some Highlight) None)
    at true u v = refl
    at false true v = refl
    at false false true = refl
    at false false false = refl

pub letter_order : (x : ℕ) {t : Bool} → (eqb x 72 || eqb x 78) ≡ t → cond t (Some Highlight) None ≡ order_of (x ∷ [])
letter_order x e = ap (λ (t : Bool). cond t (Some Highlight) None) (sym e) ∙ at (eqb x 72) (eqb x 78) ∙ sym (letter_alone x)
  where
    at : (t u : Bool) → cond (t || u) (Some Highlight) None ≡ cond t (Some Highlight) (cond u (Some Highlight) None)
    at true u = refl
    at false u = refl

held_letter : (t u : Bool) → held_order (cond t (Some Highlight) (cond u (Some Highlight) None)) ≡ cond t (Some Highlight) (cond u (Some Highlight) None)
unfolding held held_order
held_letter true u = refl
held_letter false true = refl
held_letter false false = refl

-- a name
abbrev named : Bool → Bool → Bool → Bool → Bool → Option Order
named t u v w s = cond t (Some Break) (cond u (Some Centre) (cond v (Some Fill) (cond w (Some Unfill) (cond s (Some (Down one)) None))))

module _ (x y z : ℕ) where
  abbrev is : ℕ → ℕ → Bool
  is a b = same (x ∷ y ∷ z ∷ []) (46 ∷ a ∷ b ∷ [])

  pub name_alone : order_of (x ∷ y ∷ z ∷ []) ≡ named (is 98 114) (is 99 101) (is 102 105) (is 110 102) (is 115 112)
  unfolding order_of numbered number_of signed_of digits_of
  name_alone = rw (same_unlike (x ∷ y ∷ z ∷ []) (72 ∷ []) (λ (e : 3 ≡ 1). omega arith), same_unlike (x ∷ y ∷ z ∷ []) (78 ∷ []) (λ (e : 3 ≡ 1). omega arith))

  pub numbered_name : (n : Amount) → numbered (x ∷ y ∷ z ∷ []) (Some n) ≡ cond (is 115 112) (Some (Down n)) (cond (is 115 107) (Some (Across n)) (cond (is 105 110) (Some (Margin n)) (cond (is 116 105) (Some (Once n)) None)))
  unfolding numbered
  numbered_name n = refl

held_named : (t u v w s : Bool) → held_order (named t u v w s) ≡ named t u v w s
unfolding held held_order held_size
held_named true u v w s = refl
held_named false true v w s = refl
held_named false false true w s = refl
held_named false false false true s = refl
held_named false false false false true = refl
held_named false false false false false = refl

held_name : (x y z : ℕ) → order_of (x ∷ y ∷ z ∷ []) ≡ held_order (order_of (x ∷ y ∷ z ∷ []))
held_name x y z =
    name_alone x y z ∙ sym (held_named (is x y z 98 114) (is x y z 99 101) (is x y z 102 105) (is x y z 110 102) (is x y z 115 112)) ∙ ap held_order (sym (name_alone x y z))

-- what the code gives, by the length
module _ (c : List ℕ) where
  front_three : 3 ≤ length c → take 3 c ≡ get_or c 0 0 ∷ get_or c 1 0 ∷ get_or c 2 0 ∷ []
  front_three h = by c h
    where
      by : (l : List ℕ) → 3 ≤ length l → take 3 l ≡ get_or l 0 0 ∷ get_or l 1 0 ∷ get_or l 2 0 ∷ []
      by [] h = absurd (omega arith)
      by (x ∷ []) h = absurd (omega arith)
      by (x ∷ y ∷ []) h = absurd (omega arith)
      by (x ∷ y ∷ z ∷ r) h = refl

  pub order_three : length c ≡ 3 → order_of (get_or c 0 0 ∷ get_or c 1 0 ∷ get_or c 2 0 ∷ []) ≡ held_order (order_of c)
  order_three h =
      held_name (get_or c 0 0) (get_or c 1 0) (get_or c 2 0) ∙ ap (λ (v : List ℕ). held_order (order_of v)) (sym (front_three (omega arith)) ∙ take_all 3 c (omega arith))

  pub order_one : length c ≡ 1 → order_of (get_or c 0 0 ∷ []) ≡ held_order (order_of c)
  order_one h =
      let e = letter_alone (get_or c 0 0) in
      e ∙ sym (held_letter (eqb (get_or c 0 0) 72) (eqb (get_or c 0 0) 78)) ∙ ap held_order (sym e) ∙ ap (λ (v : List ℕ). held_order (order_of v)) (by c h)
    where
      by : (l : List ℕ) → length l ≡ 1 → get_or l 0 0 ∷ [] ≡ l
      by [] h = absurd (omega arith)
      by (x ∷ []) h = refl
      by (x ∷ y ∷ r) h = absurd (omega arith)

  -- no name, and no letter
  rest_unlike : (length c ≡ 1 → ⊥) → (length c ≡ 3 → ⊥) → order_of c ≡ numbered (take 3 c) (number_of (drop 3 c))
  unfolding order_of
  rest_unlike f g =
      rw (same_unlike c (72 ∷ []) f, same_unlike c (78 ∷ []) f, same_unlike c (46 ∷ 98 ∷ 114 ∷ []) g, same_unlike c (46 ∷ 99 ∷ 101 ∷ []) g, same_unlike c (46 ∷ 102 ∷ 105 ∷ []) g, same_unlike c (46 ∷ 110 ∷ 102 ∷ []) g, same_unlike c (46 ∷ 115 ∷ 112 ∷ []) g)

  pub order_none : (length c ≡ 1 → ⊥) → (length c ≡ 3 → ⊥) → length c < 4 → None ≡ held_order (order_of c)
  unfolding held_order numbered number_of signed_of digits_of
  order_none f g h = sym (ap held_order (rest_unlike f g ∙ ap (λ (l : List ℕ). numbered (take 3 c) (number_of l)) (drop_of_length-le c {i = 3} (omega arith))))

  pub order_more : (r : Option Order) (n : Option Amount) → 4 ≤ length c → n ≡ held_number (number_of (drop 3 c)) → r ≡ numbered (get_or c 0 0 ∷ get_or c 1 0 ∷ get_or c 2 0 ∷ []) n → r ≡ held_order (order_of c)
  order_more r n h e f =
      f ∙ ap (numbered _) e ∙ held_numbered _ (number_of (drop 3 c)) ∙ ap (λ (l : List ℕ). held_order (numbered l (number_of (drop 3 c)))) (sym (front_three (omega arith)))
      ∙ ap held_order (sym (rest_unlike (λ (k : length c ≡ 1). omega arith) (λ (k : length c ≡ 3). omega arith)))
