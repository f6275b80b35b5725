-- Which sequences are commands, and what each asks for, by docs/FORMATTED.md, 'From bytes to items'. Numbers are exact
-- here; the last part says how the code holds them.
use Rattle.std.specs.Prelude.{ℕ, List, [], ◌∷◌, Bool, true, false, Option, Some, None, is_some, cond, ◌||◌, get_or, take, drop, ltb, eqb}
use Rattle.alphabet.specs.Lists.{same}
use Rattle.alphabet.specs.Bytes.{ascii}
use Rattle.alphabet.specs.Digits.{all_digits, decimal}
use Rattle.format_commands.specs.declared.numbers.Amount.{Amount}
use Rattle.format_commands.specs.declared.orders.Order.{Order}
use Rattle.format_commands.specs.declared.orders.Order.TheVariants.{Highlight, Break, Centre, Fill, Unfill, Down, Across, Margin, Once}

-- the bytes behind the first, or all of them
abbrev pub past_if : Bool → List ℕ → List ℕ
past_if true s = drop 1 s
past_if false s = s

-- "one or more digits, nothing else. Leading zeros are free, the count of digits is free."
unfoldable pub digits_of : Bool → List ℕ → Option Amount
digits_of minus [] = None
digits_of minus (d ∷ r) = cond (all_digits (d ∷ r)) (Some (record { minus = minus; size = decimal (d ∷ r) })) None

-- "at most one sign (`+` or `-`)"
unfoldable pub signed_of : List ℕ → Option Amount
signed_of s = digits_of (eqb (get_or s 0 0) 45) (past_if (eqb (get_or s 0 0) 45 || eqb (get_or s 0 0) 43) s)

-- "at most one blank"
unfoldable pub number_of : List ℕ → Option Amount
number_of s = signed_of (past_if (eqb (get_or s 0 0) 32) s)

-- "`\.sp N\` `\.sk N\` `\.in N\` `\.ti N\`: that command with its number"
unfoldable pub numbered : List ℕ → Option Amount → Option Order
numbered name None = None
numbered name (Some n) =
    cond (same name (ascii ".sp")) (Some (Down n))
    (cond (same name (ascii ".sk")) (Some (Across n))
    (cond (same name (ascii ".in")) (Some (Margin n)) (cond (same name (ascii ".ti")) (Some (Once n)) None)))

-- "`\H\`, `\N\`: none", "`\.br\` `\.ce\` `\.fi\` `\.nf\`: that command", "`\.sp\`: `sp 1`", "anything else:
-- refused, 12"
unfoldable pub order_of : List ℕ → Option Order
order_of c =
    cond (same c (ascii "H")) (Some Highlight)
    (cond (same c (ascii "N")) (Some Highlight)
    (cond (same c (ascii ".br")) (Some Break)
    (cond (same c (ascii ".ce")) (Some Centre)
    (cond (same c (ascii ".fi")) (Some Fill)
    (cond (same c (ascii ".nf")) (Some Unfill)
    (cond (same c (ascii ".sp")) (Some (Down (record { minus = false; size = 1 }))) (numbered (take 3 c) (number_of (drop 3 c)))))))))

-- "One definition says which sequences are commands": the form alone, whatever the range says of the number
unfoldable pub command : List ℕ → Bool
command c = is_some (order_of c)

-- ---- what the code holds

-- no number passes 201
unfoldable pub held_size : ℕ → ℕ
held_size n = cond (ltb n 201) n 201

abbrev pub held_amount : Amount → Amount
held_amount a = record { minus = a.minus; size = held_size a.size }

unfoldable pub held_number : Option Amount → Option Amount
held_number None = None
held_number (Some a) = Some (held_amount a)

unfoldable pub held : Order → Order
held Highlight = Highlight
held Break = Break
held Centre = Centre
held Fill = Fill
held Unfill = Unfill
held (Down a) = Down (held_amount a)
held (Across a) = Across (held_amount a)
held (Margin a) = Margin (held_amount a)
held (Once a) = Once (held_amount a)

unfoldable pub held_order : Option Order → Option Order
held_order None = None
held_order (Some o) = Some (held o)
