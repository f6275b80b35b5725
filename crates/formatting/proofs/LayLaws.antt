-- The walk along a text: the items so far were laid, and the rest is to come. Assumes nothing.
use mathlib.Core.Path.{◌≡◌, refl, sym, ap, ap₂, subst, ◌∙◌}
use mathlib.Core.List.{List, [], ◌∷◌, ◌++◌, map}
use mathlib.Core.Bool.{Bool, true, false, cond, not, ◌&&◌, ◌||◌}
use Prim.Native.Nat.{ℕ, zero, suc, ◌+◌, ◌-◌, ◌≤◌, ◌<◌}
use native.Mathlib.Omega.{arith}
use lib.Dec.{ltb, eqb}
use lib.ListN.{length, get_or, take, drop, length-drop}
use borrow.Author.Tests.{ltb-true, ne_eqb}
use Rattle.std.specs.Prelude.{Ok}
use Rattle.alphabet.specs.Answers.{Refusable, passes, fails}
use Rattle.alphabet.specs.Lists.{first, find}
use Rattle.alphabet.specs.Bytes.{from_to, printable}
use Rattle.alphabet.specs.declared.answers.Refusal.{Refusal}
use Rattle.alphabet.specs.declared.answers.Refusal.TheVariants.{NotAllowed, Separator, UnknownEscape, UnclosedEscape}
use Rattle.alphabet.proofs.BoolLaws.{from_to_lem}
use Rattle.alphabet.proofs.ListLaws.{rest_of, first_past}
use Rattle.escaping.specs.Escape.{escape_of}
use Rattle.escaping.specs.Outcomes.{fault}
use Rattle.plain.specs.Plain.{special}
use Rattle.plain.proofs.PlainLaws.{plain_is, run_from}
use Rattle.text.specs.Unescape.{known, meaning, before, stop, scan}
use Rattle.text.proofs.StepLaws.{step_known, step_unknown, step_unclosed, step_unprintable, step_separator, rest_emit, rest_stop, scan_end, before_before, before_none}
use Rattle.text.proofs.RunLaws.{scan_from}
use Rattle.format_commands.specs.Commands.{command}
use Rattle.format_commands.specs.Items.{Item, byte, order, saying, formatted_text, items_of}
use Rattle.formatting.specs.declared.page.Page.{Page}
use Rattle.formatting.specs.Pages.{Sound, Follows}
use Rattle.formatting.specs.Runs.{clear}
use Rattle.formatting.specs.Laying.{wrong_plain, found_of, Lays}
use Rattle.formatting.proofs.PageLaws.{follows_none, follows_then}

-- what a sequence stands for
pub says_order : (ds inside : List ℕ) {c c' : Page} {t d t' d' : List ℕ} → command inside ≡ true → Follows (order inside ∷ []) c t d c' t' d' → Follows (saying ds inside) c t d c' t' d'
says_order ds inside {c} {c'} {t} {d} {t'} {d'} e f = subst (λ (b : Bool). Follows (cond b (order inside ∷ []) (map byte (meaning ds inside))) c t d c' t' d') (sym e) f

pub says_bytes : (ds inside : List ℕ) {c c' : Page} {t d t' d' : List ℕ} → command inside ≡ false → Follows (map byte (meaning ds inside)) c t d c' t' d' → Follows (saying ds inside) c t d c' t' d'
says_bytes ds inside {c} {c'} {t} {d} {t'} {d'} e f = subst (λ (b : Bool). Follows (cond b (order inside ∷ []) (map byte (meaning ds inside))) c t d c' t' d') (sym e) f

-- bytes that stand plainly are no ends of lines
printable_from : (b : ℕ) → printable b ≡ true → 32 ≤ b
printable_from b e = by (from_to 32 126 b) refl e
  where
    by : (t : Bool) → from_to 32 126 b ≡ t → (t || from_to 160 255 b) ≡ true → 32 ≤ b
    by true f e = (from_to_lem 32 126 b f).0
    by false f e = let h = (from_to_lem 160 255 b e).0 in omega arith

no_ends : (ds : List ℕ) (b : ℕ) → special ds b ≡ false → not (eqb b 10 || eqb b 13) ≡ true
no_ends ds b e =
    let p = printable_from b (plain_is ds b e).0 in
    ap₂ (λ (x y : Bool). not (x || y)) (ne_eqb b 10 (λ (z : b ≡ 10). omega arith)) (ne_eqb b 13 (λ (z : b ≡ 13). omega arith))

clear_run : (ds : List ℕ) (n : ℕ) (l : List ℕ) → n ≤ first (special ds) l → clear (take n l) ≡ true
unfolding first clear
clear_run ds zero l h = refl
clear_run ds (suc n) [] h = refl
clear_run ds (suc n) (b ∷ r) h = by (special ds b) refl h (clear_run ds n r)
  where
    by : (t : Bool) → special ds b ≡ t → suc n ≤ cond t 0 (suc (first (special ds) r)) → (n ≤ first (special ds) r → clear (take n r) ≡ true) → (not (eqb b 10 || eqb b 13) && clear (take n r)) ≡ true
    by true e h ih = absurd (omega arith)
    by false e h ih = rw (no_ends ds b e) (ih (omega arith))

pub plain_clear : (ds s : List ℕ) (i n : ℕ) → i < length s → n ≡ first (special ds) (take (length s - i) (drop i s)) → clear (take ((i + n) - i) (drop i s)) ≡ true
plain_clear ds s i n h e =
    let g : (i + n) - i ≡ n = omega arith in
    ap (λ (k : ℕ). clear (take k (drop i s))) g ∙ clear_run ds n (drop i s) (run_from (special ds) s i n (omega arith) e).0

pub record Walks (ds s : List ℕ) (i : ℕ) (c : Page) (t d : List ℕ) (c' : Page) (t' d' : List ℕ) : Type 0 where
  pub items : List Item
  pub reads : items_of ds s ≡ before items (scan formatted_text ds i 0 (drop i s))
  pub follows : Follows items c t d c' t' d'

pub walk_start : (ds s : List ℕ) {c : Page} {t d : List ℕ} → Sound c t d → Walks ds s 0 c t d c t d
walk_start ds s f = record { items = []; reads = before_none (items_of ds s); follows = follows_none f }

module _ {ds s : List ℕ} {i : ℕ} {c : Page} {t d : List ℕ} {c' : Page} {t' d' : List ℕ} (w : Walks ds s i c t d c' t' d') where
  -- items more
  walk_more : (xs : List Item) (j : ℕ) {c'' : Page} {t'' d'' : List ℕ} → scan formatted_text ds i 0 (drop i s) ≡ before xs (scan formatted_text ds j 0 (drop j s)) → Follows xs c' t' d' c'' t'' d'' → Walks ds s j c t d c'' t'' d''
  walk_more xs j e f =
      record {
        items = w.items ++ xs;
        reads = w.reads ∙ ap (before w.items) e ∙ before_before w.items xs (scan formatted_text ds j 0 (drop j s));
        follows = follows_then w.follows f;
      }

  -- a fault
  walk_fault : (k : Refusal) (r : Refusable Page) → scan formatted_text ds i 0 (drop i s) ≡ fault k i → r ≡ fails k i → Lays ds s c t d r t' d'
  unfolding found_of
  walk_fault k r e q = record { items = w.items; page = c'; found = fails k i; gives = q; reads = w.reads ∙ ap (before w.items) e; follows = w.follows }

  pub walk_end : length s ≤ i → Lays ds s c t d (Ok c') t' d'
  unfolding found_of
  walk_end h = record { items = w.items; page = c'; found = passes; gives = refl; reads = w.reads ∙ ap (before w.items) (scan_end formatted_text ds s i h); follows = w.follows }

  module _ (within : i < length s) where
    -- ---- at an escape delimiter

    abbrev rest : List ℕ
    rest = take (length s - (i + 1)) (drop (i + 1) s)

    module _ (q : get_or s i 0 ≡ escape_of ds) (n : ℕ) (e : n ≡ find (escape_of ds) rest) where
      whole : rest ≡ drop (i + 1) s
      whole = rest_of s (i + 1)

      found : find (escape_of ds) (drop (i + 1) s) ≡ n
      found = ap (find (escape_of ds)) (sym whole) ∙ sym e

      pub walk_unclosed : (r : Refusable Page) → length rest ≤ n → r ≡ fails UnclosedEscape i → Lays ds s c t d r t' d'
      walk_unclosed r h =
          let l = ap length whole in
          let g = found in
          walk_fault UnclosedEscape r (rest_stop formatted_text ds s i UnclosedEscape within (step_unclosed formatted_text ds (get_or s i 0) (drop (i + 1) s) q (omega arith)))

      module _ (closed : n < length rest) where
        inside_same : take n rest ≡ take n (drop (i + 1) s)
        inside_same = ap (take n) whole

        pub walk_unknown : (r : Refusable Page) → (command (take n rest) || known (take n rest)) ≡ false → r ≡ fails UnknownEscape i → Lays ds s c t d r t' d'
        walk_unknown r k =
            let l = ap length whole in
            walk_fault UnknownEscape r
            (rest_stop formatted_text ds s i UnknownEscape within
            (step_unknown formatted_text ds (get_or s i 0) (drop (i + 1) s) n q found (omega arith) (ap (λ (v : List ℕ). command v || known v) (sym inside_same) ∙ k)))

        pub walk_ends : (i + 1) + n + 1 ≤ length s
        walk_ends = let l = ap length whole in let d = length-drop (i + 1) s in omega arith

        pub walk_sequence : {c'' : Page} {t'' d'' : List ℕ} → (command (take n rest) || known (take n rest)) ≡ true → Follows (saying ds (take n rest)) c' t' d' c'' t'' d'' → Walks ds s ((i + 1) + n + 1) c t d c'' t'' d''
        walk_sequence {c''} {t''} {d''} k f =
            let l = ap length whole in
            walk_more (saying ds (take n (drop (i + 1) s))) ((i + 1) + n + 1)
            (rest_emit formatted_text ds s i ((i + 1) + n + 1) (n + 1) (saying ds (take n (drop (i + 1) s))) within
            (step_known formatted_text ds (get_or s i 0) (drop (i + 1) s) n q found (omega arith) (ap (λ (v : List ℕ). command v || known v) (sym inside_same) ∙ k)) (omega arith))
            (subst (λ (v : List ℕ). Follows (saying ds v) c' t' d' c'' t'' d'') inside_same f)

    -- ---- at any other byte

    module _ (q : get_or s i 0 ≡ escape_of ds → ⊥) (n : ℕ) (e : n ≡ first (special ds) (take (length s - i) (drop i s))) where
      ran : (n ≤ first (special ds) (drop i s)) × (i + n ≤ length s)
      ran = let r = run_from (special ds) s i n (omega arith) e in (r.0, r.1)

      pub walk_within : i + n ≤ length s
      walk_within = ran.1

      pub walk_run : {c'' : Page} {t'' d'' : List ℕ} (five : length ds ≡ 5) → Follows (map byte (take ((i + n) - i) (drop i s))) c' t' d' c'' t'' d'' → Walks ds s (i + n) c t d c'' t'' d''
      walk_run {c''} {t''} {d''} five f =
          let g : (i + n) - i ≡ n = omega arith in
          walk_more (map byte (take n (drop i s))) (i + n) (scan_from formatted_text ds s i n ran.0 five) (subst (λ (k : ℕ). Follows (map byte (take k (drop i s))) c' t' d' c'' t'' d'') g f)

      plainly : printable (get_or s i 0) ≡ true → ltb (find (get_or s i 0) ds) 5 ≡ false → special ds (get_or s i 0) ≡ false
      unfolding special
      plainly a b = rw (a, b)

      pub walk_wrong : (r : Refusable Page) (k : Refusal) → i + n ≡ i → k ≡ wrong_plain (get_or s i 0) → r ≡ fails k i → Lays ds s c t d r t' d'
      unfolding wrong_plain
      walk_wrong r k z g = by (printable (get_or s i 0)) refl (ltb (find (get_or s i 0) ds) 5) refl
        where
          by : (x : Bool) → printable (get_or s i 0) ≡ x → (y : Bool) → ltb (find (get_or s i 0) ds) 5 ≡ y → r ≡ fails k i → Lays ds s c t d r t' d'
          by false a y b h = walk_fault k r (rest_stop formatted_text ds s i k within (step_unprintable formatted_text ds (get_or s i 0) (drop (i + 1) s) q a ∙ ap stop (sym (g ∙ ap (λ (v : Bool). cond v Separator NotAllowed) a)))) h
          by true a true b h =
              walk_fault k r
              (rest_stop formatted_text ds s i k within (step_separator formatted_text ds (get_or s i 0) (drop (i + 1) s) q a (ltb-true (find (get_or s i 0) ds) 5 b) ∙ ap stop (sym (g ∙ ap (λ (v : Bool). cond v Separator NotAllowed) a)))) h
          by true a false b h =
              let p = first_past (special ds) s i within (plainly a b) in
              let l : n ≡ first (special ds) (drop i s) = e ∙ ap (first (special ds)) (rest_of s i) in
              absurd (omega arith)
