-- What is formatted is plain lines with the text's own bytes; and what formatting makes of a text that unescaping
-- reads. Rests on RoundTrip, FormattedItems, RuledLines, RuledInk, RuledSame and RuledWords.
use mathlib.Core.Path.{◌≡◌, refl, sym, ap, subst, ◌∙◌}
use mathlib.Core.List.{List, map}
use mathlib.Core.Bool.{Bool, true, false, cond}
use Prim.Native.Nat.{ℕ, ◌≤◌, ◌<◌}
use native.Mathlib.Omega.{arith}
use lib.Dec.{leb, ltb}
use lib.ListN.{length}
use borrow.Author.Tests.{leb-true, lt-ltb, le-ltb, le-leb, lt-leb}
use Rattle.std.specs.Prelude.{Err, Ok}
use Rattle.alphabet.specs.Bytes.{is_null}
use Rattle.alphabet.specs.Delimiters.{first_wrong_delimiter}
use Rattle.alphabet.specs.declared.answers.Refusal.{Refusal}
use Rattle.alphabet.specs.declared.answers.Refusal.TheVariants.{Delimiter, UnknownEscape, NoRoom, NullText, Layout}
use Rattle.escaping.specs.Escape.{escape}
use Rattle.escaping.specs.Outcomes.{Outcome, text, fault, fitting}
use Rattle.text.specs.Unescape.{plain_text, scan, unescaping}
use Rattle.format_commands.specs.Items.{Item, byte, items_of}
use Rattle.formatting.specs.Sheet.{Lines, lines, none, lines_of}
use Rattle.formatting.specs.Formatting.{told, laid_out, formatting}
use Rattle.formatting.specs.Runs.{clear, firm}
use Rattle.laws.specs.Ruled.{Ruled, ink, bytes_of, words, narrow}
use Rattle.laws.proofs.RoundTrip.{AreBytes, plain_back, round_trip}
use Rattle.laws.proofs.FormattedItems.{items_of_text, items_of_fault}
use Rattle.laws.proofs.RuledLines.{laid_ruled}
use Rattle.laws.proofs.RuledInk.{laid_keeps}
use Rattle.laws.proofs.RuledSame.{laid_same}
use Rattle.laws.proofs.RuledWords.{plain_laid, plain_unfit}

laid_told : (xs : List Item) (t : List ℕ) → lines_of xs ≡ lines t → laid_out (text xs) ≡ text t
unfolding laid_out told
laid_told xs t e = rw e

laid_none : (xs : List Item) → lines_of xs ≡ none → laid_out (text xs) ≡ fault Layout 0
unfolding laid_out told
laid_none xs e = rw e

laid_fault : (k : Refusal) (p : ℕ) → laid_out (fault k p) ≡ fault k p
unfolding laid_out
laid_fault k p = refl

-- ---- each outcome, and when it is

module _ (ds s : List ℕ) (room : ℕ) where
  pub formatting_bad : first_wrong_delimiter ds < 5 → formatting ds s room ≡ fault Delimiter (first_wrong_delimiter ds)
  unfolding formatting
  formatting_bad h = rw (lt-ltb (first_wrong_delimiter ds) 5 h)

  module _ (h : 5 ≤ first_wrong_delimiter ds) where
    pub formatting_null : is_null s ≡ true → formatting ds s room ≡ fault NullText 0
    unfolding formatting
    formatting_null e = rw (le-ltb (first_wrong_delimiter ds) 5 h) (rw e)

    module _ (n : is_null s ≡ false) where
      other : formatting ds s room ≡ fitting room (laid_out (items_of ds s))
      unfolding formatting
      other = rw (le-ltb (first_wrong_delimiter ds) 5 h) (rw n)

      pub formatting_fault : (k : Refusal) (p : ℕ) → items_of ds s ≡ fault k p → formatting ds s room ≡ fault k p
      unfolding fitting
      formatting_fault k p e = other ∙ ap (fitting room) (ap laid_out e ∙ laid_fault k p)

      module _ (xs : List Item) (e : items_of ds s ≡ text xs) where
        pub formatting_unfit : lines_of xs ≡ none → formatting ds s room ≡ fault Layout 0
        unfolding fitting
        formatting_unfit f = other ∙ ap (fitting room) (ap laid_out e ∙ laid_none xs f)

        module _ (t : List ℕ) (f : lines_of xs ≡ lines t) where
          pub formatting_laid : formatting ds s room ≡ fitting room (text t)
          formatting_laid = other ∙ ap (fitting room) (ap laid_out e ∙ laid_told xs t f)

          pub formatting_long : room < length t → formatting ds s room ≡ fault NoRoom 0
          unfolding fitting
          formatting_long l = formatting_laid ∙ rw (lt-leb (length t) room l)

          pub formatting_fits : length t ≤ room → formatting ds s room ≡ text t
          unfolding fitting
          formatting_fits l = formatting_laid ∙ rw (le-leb (length t) room l)

-- ---- a text that came out

-- its items, their lines, and that these go into the room
record Formatted (ds s : List ℕ) (room : ℕ) (t : List ℕ) : Type 0 where
  items : List Item
  read : items_of ds s ≡ text items
  laid : lines_of items ≡ lines t
  fits : length t ≤ room

not_text : {A : Type 0} {k : Refusal} {p : ℕ} {t : List ℕ} → ◌≡◌ {A = Outcome ℕ} (fault k p) (text t) → A
not_text e = absurd (let z : ◌≡◌ {A = ℕ} 0 1 = cc in omega arith)

formatted : (ds s : List ℕ) (room : ℕ) (t : List ℕ) → formatting ds s room ≡ text t → Formatted ds s room t
unfolding formatting laid_out told fitting
formatted ds s room t e = at (ltb (first_wrong_delimiter ds) 5) (is_null s) e
  where
    fitted : (b : Bool) (xs : List Item) (u : List ℕ) → items_of ds s ≡ text xs → lines_of xs ≡ lines u → leb (length u) room ≡ b → cond b (text u) (fault NoRoom 0) ≡ text t → Formatted ds s room t
    fitted true xs u p q f g =
        let z : u ≡ t = cc in
        record { items = xs; read = p; laid = q ∙ ap lines z; fits = subst (λ (k : List ℕ). length k ≤ room) z (leb-true (length u) room f) }
    fitted false xs u p q f g = not_text g

    line : (xs : List Item) (q : Lines) → items_of ds s ≡ text xs → lines_of xs ≡ q → fitting room (told q) ≡ text t → Formatted ds s room t
    line xs (lines u) p q f = fitted (leb (length u) room) xs u p q refl f
    line xs none p q f = not_text f

    item : (o : Outcome Item) → items_of ds s ≡ o → fitting room (laid_out o) ≡ text t → Formatted ds s room t
    item (Ok xs) p f = line xs (lines_of xs) p refl f
    item (Err _) p f = not_text f

    at : (a b : Bool) → cond a (fault Delimiter (first_wrong_delimiter ds)) (cond b (fault NullText 0) (fitting room (laid_out (items_of ds s)))) ≡ text t → Formatted ds s room t
    at true b f = not_text f
    at false true f = not_text f
    at false false f = item (items_of ds s) refl f

-- "Every line is at most 200 bytes. No line ends in a blank. There is no CR in the result."
pub formatting_ruled : (ds s : List ℕ) (room : ℕ) (t : List ℕ) → formatting ds s room ≡ text t → Ruled t
formatting_ruled ds s room t e = let f = formatted ds s room t e in laid_ruled f.items t f.laid

-- "The bytes of the result other than blank and LF are, in order, those of the text's bytes other than blank, CR and
-- LF."
pub formatting_keeps : (ds s : List ℕ) (room : ℕ) (t : List ℕ) → formatting ds s room ≡ text t
    → (xs : List Item) × (items_of ds s ≡ text xs) × (ink t ≡ ink (bytes_of xs))
formatting_keeps ds s room t e = let f = formatted ds s room t e in (f.items, f.read, laid_keeps f.items t f.laid)

-- ---- beside unescaping

laid_alike : (ds s : List ℕ) (room : ℕ) → laid_out (items_of ds s) ≡ scan plain_text ds 0 0 s → formatting ds s room ≡ unescaping ds s room
unfolding formatting unescaping
laid_alike ds s room e = rw e

-- "Text of at most 200 bytes with no command, CR or LF, not ending in a blank, comes out as unescaping gives it": the
-- same outcome, whatever the delimiters and the room
pub formatting_same : (ds s t : List ℕ) (room : ℕ) → scan plain_text ds 0 0 s ≡ text t → length t ≤ 200 → clear t ≡ true → firm t ≡ true
    → formatting ds s room ≡ unescaping ds s room
formatting_same ds s t room e h c f =
    laid_alike ds s room (ap laid_out (items_of_text ds s t e) ∙ laid_told (map byte t) t (laid_same t h c f) ∙ sym e)

-- "`format(escape(t)) = t`"
pub formatting_escape : (ds : List ℕ) → length ds ≡ 5 → first_wrong_delimiter ds ≡ 5 → (t : List ℕ) (room : ℕ) → AreBytes t → length t ≤ 200 → clear t ≡ true → firm t ≡ true
    → length t ≤ room → formatting ds (escape ds t) room ≡ text t
unfolding fitting
formatting_escape ds five fine t room small h c f l =
    formatting_same ds (escape ds t) t room (plain_back ds five fine t small) h c f ∙ round_trip ds five fine t room small ∙ rw (le-leb (length t) room l)

-- whatever unescaping refuses with 4, 11 or 13 is refused so, at the same place; 3, 15 and 14 are not of the scan
pub formatting_refuses : (ds s : List ℕ) (room : ℕ) (k : Refusal) (p : ℕ) → scan plain_text ds 0 0 s ≡ fault k p → (k ≡ UnknownEscape → ⊥)
    → formatting ds s room ≡ unescaping ds s room
formatting_refuses ds s room k p e n = laid_alike ds s room (ap laid_out (items_of_fault ds s k p e n) ∙ laid_fault k p ∙ sym e)

module _ (ds s u : List ℕ) (room : ℕ) (h : 5 ≤ first_wrong_delimiter ds) (n : is_null s ≡ false) (e : scan plain_text ds 0 0 s ≡ text u) where
  -- a text with no command, of words of at most 200 bytes, is lines with these words, if there is room for them
  pub formatting_words : narrow (words u) ≡ true → (t : List ℕ) × (formatting ds s room ≡ fitting room (text t)) × (words t ≡ words u)
  formatting_words w =
      let z = plain_laid u w in
      (z.0, formatting_laid ds s room h n (map byte u) (items_of_text ds s u e) z.0 z.1, z.2)

  -- and with a longer one it is 42
  pub formatting_wide : narrow (words u) ≡ false → formatting ds s room ≡ fault Layout 0
  formatting_wide w = formatting_unfit ds s room h n (map byte u) (items_of_text ds s u e) (plain_unfit u w)
