-- The page in numbers beside the sheet in lists: what each function does to the one is what an item does to the
-- other. Assumes nothing.
use mathlib.Core.Logic.{⊎_elim}
use mathlib.Core.Path.{◌≡◌, refl, sym, ap, subst, ◌∙◌}
use mathlib.Core.List.{List, [], ◌∷◌, ◌++◌, map, map-append}
use mathlib.Core.Bool.{Bool, true, false, cond, not, ◌&&◌}
use Prim.Native.Nat.{ℕ, ◌+◌, ◌-◌, ◌/◌, ◌≤◌, ◌<◌, min}
use native.Mathlib.Omega.{arith}
use lib.Dec.{ltb, eqb}
use lib.ListN.{length}
use borrow.Author.Tests.{eq-eqb, ne_eqb}
use Rattle.alphabet.proofs.BoolLaws.{false_true}
use Rattle.format_commands.specs.Commands.{held_size}
use Rattle.format_commands.specs.Items.{Item, byte}
use Rattle.format_commands.proofs.CommandLaws.{held_cases}
use Rattle.formatting.specs.declared.page.Page.{Page}
use Rattle.formatting.specs.Sheet.{Sheet, laid, unfit, is_empty, lead}
use Rattle.formatting.specs.Going.{Goes}
use Rattle.formatting.specs.Pages.{lead_of, reach_of, Slight, line_with, word_ended, indent_of, ahead, Matches, Sound, Reaches, at, nowhere, Follows}
use Rattle.formatting.proofs.SheetLaws.{goes_then, goes_none, goes_unfit, ahead_length}

-- ---- numbers that are held

pub held_min : (n : ℕ) → held_size n ≡ min n 201
held_min n =
    ⊎_elim (λ (h : (n < 201) × (held_size n ≡ n)). let a = h.0 in let b = h.1 in omega arith)
    (λ (h : (201 ≤ n) × (held_size n ≡ 201)). let a = h.0 in let b = h.1 in omega arith) (held_cases n)

pub empty_eqb : (l : List ℕ) → is_empty l ≡ eqb (length l) 0
unfolding is_empty
empty_eqb [] = refl
empty_eqb (x ∷ r) = sym (ne_eqb (length (x ∷ r)) 0 (λ (e : length (x ∷ r) ≡ 0). omega arith))

pub some_length : (l : List ℕ) → is_empty l ≡ false → 0 < length l
unfolding is_empty
some_length [] e = false_true (sym e)
some_length (x ∷ r) e = omega arith

pub length_some : (l : List ℕ) → 0 < length l → is_empty l ≡ false
unfolding is_empty
length_some [] h = absurd (omega arith)
length_some (x ∷ r) h = refl

pub empty_is : (l : List ℕ) → is_empty l ≡ true → l ≡ []
unfolding is_empty
empty_is [] e = refl
empty_is (x ∷ r) e = absurd (false_true e)

pub length_none : (l : List ℕ) → length l ≡ 0 → is_empty l ≡ true
unfolding is_empty
length_none [] h = refl
length_none (x ∷ r) h = absurd (omega arith)

-- ---- one function behind another

pub follows_none : {c : Page} {t d : List ℕ} → Sound c t d → Follows [] c t d c t d
follows_none {c} {t} {d} f =
    record {
      sound = f;
      writes = refl;
      size = refl;
      still = λ (q : c.writes ≡ false). refl;
      spoilt = λ (q : c.unfit ≡ true). q;
      goes = λ (d₀ : List ℕ) (s : Sheet) (m : Matches d₀ s c t d). at s (goes_none (laid s)) m;
    }

-- a page that is unfit stays so, whatever the items
pub follows_spoilt : (xs : List Item) {c : Page} {t d : List ℕ} → Sound c t d → c.unfit ≡ true → Follows xs c t d c t d
follows_spoilt xs {c} {t} {d} f u =
    record {
      sound = f;
      writes = refl;
      size = refl;
      still = λ (q : c.writes ≡ false). refl;
      spoilt = λ (q : c.unfit ≡ true). q;
      goes = λ (d₀ : List ℕ) (s : Sheet) (m : Matches d₀ s c t d). absurd (false_true (sym m.fit ∙ u));
    }

pub follows_then : {xs ys : List Item} {c c' c'' : Page} {t d t' d' t'' d'' : List ℕ} → Follows xs c t d c' t' d' → Follows ys c' t' d' c'' t'' d'' → Follows (xs ++ ys) c t d c'' t'' d''
follows_then {xs} {ys} {c} {c'} {c''} {t} {d} {t'} {d'} {t''} {d''} f g =
    record {
      sound = g.sound;
      writes = g.writes ∙ f.writes;
      size = g.size ∙ f.size;
      still = λ (q : c.writes ≡ false). g.still (f.writes ∙ q) ∙ f.still q;
      spoilt = λ (q : c.unfit ≡ true). g.spoilt (f.spoilt q);
      goes = λ (d₀ : List ℕ) (s : Sheet) (m : Matches d₀ s c t d). by d₀ s (f.goes d₀ s m);
    }
  where
    on : (d₀ : List ℕ) (s s' : Sheet) → Goes (laid s) xs (laid s') → Reaches d₀ s' ys c'' t'' d'' → Reaches d₀ s (xs ++ ys) c'' t'' d''
    on d₀ s s' x (at s'' y m) = at s'' (goes_then (laid s) (laid s') (laid s'') xs ys x y) m
    on d₀ s s' x (nowhere y e) = nowhere (goes_then (laid s) (laid s') unfit xs ys x y) e

    by : (d₀ : List ℕ) (s : Sheet) → Reaches d₀ s xs c' t' d' → Reaches d₀ s (xs ++ ys) c'' t'' d''
    by d₀ s (at s' x m) = on d₀ s s' x (g.goes d₀ s' m)
    by d₀ s (nowhere x e) = nowhere (goes_then (laid s) unfit unfit xs ys x (goes_unfit ys)) (g.spoilt e)

-- ---- the blanks before a word

lead_held : (t : Bool) (o l : ℕ) → (held_size o + cond t (held_size l) 0 ≤ o + cond t l 0) × (held_size o + cond t (held_size l) 0 ≤ 200 → o + cond t l 0 ≡ held_size o + cond t (held_size l) 0)
lead_held true o l = let a = held_min o in let b = held_min l in (omega arith, λ (h : held_size o + held_size l ≤ 200). omega arith)
lead_held false o l = let a = held_min o in (omega arith, λ (h : held_size o + 0 ≤ 200). omega arith)

module _ {d₀ : List ℕ} {s : Sheet} {c : Page} {t d : List ℕ} (m : Matches d₀ s c t d) where
  lead_is : lead_of c ≡ held_size s.owed + cond (is_empty s.line && not s.centre) (held_size s.left) 0
  unfolding lead_of
  lead_is = rw (m.owed, m.left, m.centre, m.line) (ap (λ (t : Bool). held_size s.owed + cond (t && not s.centre) (held_size s.left) 0) (sym (empty_eqb s.line)))

  pub lead_least : lead_of c ≤ lead s
  unfolding lead
  lead_least = let a = lead_is in let b = (lead_held (is_empty s.line && not s.centre) s.owed s.left).0 in omega arith

  pub lead_exact : lead_of c ≤ 200 → lead s ≡ lead_of c
  unfolding lead
  lead_exact h =
      let a = lead_is in
      let b = (lead_held (is_empty s.line && not s.centre) s.owed s.left).1 (omega arith) in
      omega arith

  -- where the next byte of a word would stand
  pub reach_least : reach_of c ≤ length (ahead s)
  unfolding reach_of
  reach_least = let a = lead_least in let b = ahead_length s in let x = m.line in let y = m.word in omega arith

  pub reach_exact : reach_of c ≤ 200 → (length (ahead s) ≡ reach_of c) × (lead s ≡ lead_of c)
  unfolding reach_of
  reach_exact h =
      let a = lead_exact (omega arith) in
      let b = ahead_length s in
      let x = m.line in
      let y = m.word in
      (omega arith, a)

-- ---- how large the numbers are

pub pick_most : (t : Bool) (a b n : ℕ) → a ≤ n → b ≤ n → cond t a b ≤ n
pick_most true a b n h k = h
pick_most false a b n h k = k

pub lead_most : (c : Page) → Slight c → lead_of c ≤ 402
unfolding lead_of
lead_most c s =
    let a = pick_most (eqb c.line 0 && not c.centre) c.left 0 201 s.left (omega arith) in
    let b = s.owed in
    omega arith

pub indent_most : (c : Page) → indent_of c ≤ 100
unfolding indent_of
indent_most c = pick_most (c.centre && ltb 0 c.line) ((200 - c.line) / 2) 0 100 (omega arith) (omega arith)

pub ended_none : (c : Page) → c.word ≡ 0 → word_ended c ≡ c
unfolding word_ended
ended_none c e = rw (eq-eqb _ _ e)

pub ended_some : (c : Page) → (c.word ≡ 0 → ⊥) → word_ended c ≡ line_with (reach_of c) 0 0 c
unfolding word_ended
ended_some c e = rw (ne_eqb _ _ e)

-- ---- bytes behind bytes

pub follows_bytes : (u v w : List ℕ) {c c' c'' : Page} {t d t' d' t'' d'' : List ℕ} → u ++ v ≡ w → Follows (map byte u) c t d c' t' d' → Follows (map byte v) c' t' d' c'' t'' d'' → Follows (map byte w) c t d c'' t'' d''
follows_bytes u v w {c} {c'} {c''} {t} {d} {t'} {d'} {t''} {d''} e f g =
    subst (λ (xs : List Item). Follows xs c t d c'' t'' d'') (sym (map-append byte u v) ∙ ap (map byte) e) (follows_then f g)

pub follows_same : (u v : List ℕ) {c c' : Page} {t d t' d' : List ℕ} → u ≡ v → Follows (map byte u) c t d c' t' d' → Follows (map byte v) c t d c' t' d'
follows_same u v {c} {c'} {t} {d} {t'} {d'} e f = subst (λ (w : List ℕ). Follows (map byte w) c t d c' t' d') e f
