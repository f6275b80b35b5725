-- The items of a text are those that the grammar reads, its faults those that the grammar refuses; the outcome of
-- formatting is the one that `Formats` says, and no other; and a command behind anything that unescaping reads is 12
-- there. Rests on Grammar, FormattedItems and FormattedOutcomes.
use mathlib.Core.Path.{◌≡◌, refl, sym, ap, subst}
use mathlib.Core.Logic.{◌↔◌}
use mathlib.Core.List.{List, ◌∷◌, ◌++◌}
use mathlib.Core.Bool.{Bool, true, false}
use Prim.Native.Nat.{ℕ, ◌≤◌}
use lib.Dec.{leb, ltb}
use lib.ListN.{length}
use borrow.Author.Tests.{ltb-true, ltb-false, leb-true, leb-false}
use Rattle.alphabet.proofs.NullLaws.{two_quotes_lem, not_quotes, other_quotes}
use Rattle.alphabet.specs.Bytes.{is_null}
use Rattle.alphabet.specs.Delimiters.{first_wrong_delimiter}
use Rattle.alphabet.specs.Lists.{find}
use Rattle.alphabet.specs.declared.answers.Refusal.{Refusal}
use Rattle.alphabet.specs.declared.answers.Refusal.TheVariants.{UnknownEscape}
use Rattle.escaping.specs.Escape.{escape_of}
use Rattle.escaping.specs.Outcomes.{Outcome, text, fault}
use Rattle.text.specs.Unescape.{plain_text, scan, unescaping}
use Rattle.text.specs.Reads.{Reads, Refuses, unknown}
use Rattle.text.proofs.OutcomeLaws.{unescaping_fault}
use Rattle.format_commands.specs.Commands.{command}
use Rattle.format_commands.specs.Items.{Item, formatted_text, items_of}
use Rattle.formatting.specs.Sheet.{Lines, lines, none, lines_of}
use Rattle.formatting.specs.Formatting.{formatting}
use Rattle.laws.specs.Formats.{Asked, Formats, delimiter, null, refused, unfit, long, written}
use Rattle.laws.proofs.Grammar.{Said, says, refuses, either, reads_scan, refuses_scan, scan_reads, scan_refuses}
use Rattle.laws.proofs.FormattedItems.{plain_refuses}
use Rattle.laws.proofs.FormattedOutcomes.{formatting_bad, formatting_null, formatting_fault, formatting_unfit, formatting_long, formatting_fits}

module _ (ds : List ℕ) (five : length ds ≡ 5) where
  pub items_read : (s : List ℕ) (xs : List Item) → Reads formatted_text ds s xs ↔ (items_of ds s ≡ text xs)
  items_read s xs = (reads_scan formatted_text ds five s xs, scan_reads formatted_text ds five s xs)

  pub items_refused : (s : List ℕ) (k : Refusal) (p : ℕ) → Refuses formatted_text ds s k p ↔ (items_of ds s ≡ fault k p)
  items_refused s k p = (refuses_scan formatted_text ds five s k p, scan_refuses formatted_text ds five s k p)

  -- ---- the outcome

  pub formats_only : (s : List ℕ) (room : ℕ) (o : Outcome ℕ) → Formats ds s room o → formatting ds s room ≡ o
  formats_only s room o (delimiter h) = formatting_bad ds s room h
  formats_only s room o (null h q) = formatting_null ds s room h (ap is_null q)
  formats_only s room o (refused a k p f) = formatting_fault ds s room a.permitted (other_quotes s a.some) k p ((items_refused s k p).0 f)
  formats_only s room o (unfit a xs m e) = formatting_unfit ds s room a.permitted (other_quotes s a.some) xs ((items_read s xs).0 m) e
  formats_only s room o (long a xs m t e l) = formatting_long ds s room a.permitted (other_quotes s a.some) xs ((items_read s xs).0 m) t e l
  formats_only s room o (written a xs m t e l) = formatting_fits ds s room a.permitted (other_quotes s a.some) xs ((items_read s xs).0 m) t e l

  pub formats : (s : List ℕ) (room : ℕ) → Formats ds s room (formatting ds s room)
  formats s room = by (ltb (first_wrong_delimiter ds) 5) refl (is_null s) refl (either formatted_text ds s)
    where
      is : (o : Outcome ℕ) → Formats ds s room o → Formats ds s room (formatting ds s room)
      is o m = subst (Formats ds s room) (sym (formats_only s room o m)) m

      fits : (b : Bool) (xs : List Item) (t : List ℕ) → leb (length t) room ≡ b → Asked ds s → Reads formatted_text ds s xs → lines_of xs ≡ lines t → Formats ds s room (formatting ds s room)
      fits true xs t e a m f = is (text t) (written a xs m t f (leb-true (length t) room e))
      fits false xs t e a m f = is _ (long a xs m t f (leb-false (length t) room e))

      line : (xs : List Item) (q : Lines) → lines_of xs ≡ q → Asked ds s → Reads formatted_text ds s xs → Formats ds s room (formatting ds s room)
      line xs (lines t) e a m = fits (leb (length t) room) xs t refl a m e
      line xs none e a m = is _ (unfit a xs m e)

      by : (a : Bool) → ltb (first_wrong_delimiter ds) 5 ≡ a → (b : Bool) → is_null s ≡ b → Said formatted_text ds s → Formats ds s room (formatting ds s room)
      by true e b f d = is _ (delimiter (ltb-true (first_wrong_delimiter ds) 5 e))
      by false e true f d = is _ (null (ltb-false (first_wrong_delimiter ds) 5 e) (two_quotes_lem s f))
      by false e false f (says xs m) = line xs (lines_of xs) refl (record { permitted = ltb-false (first_wrong_delimiter ds) 5 e; some = not_quotes s f }) m
      by false e false f (refuses k p m) = is (fault k p) (refused (record { permitted = ltb-false (first_wrong_delimiter ds) 5 e; some = not_quotes s f }) k p m)

  -- ---- "Unescaping itself is unchanged: there every sequence below is 12", behind whatever it reads

  module _ (u t c r : List ℕ) (m : Reads plain_text ds u t) (f : find (escape_of ds) c ≡ length c) (k : command c ≡ true) where
    abbrev commanded : List ℕ
    commanded = u ++ escape_of ds ∷ (c ++ escape_of ds ∷ r)

    pub command_unread : scan plain_text ds 0 0 (u ++ escape_of ds ∷ (c ++ escape_of ds ∷ r)) ≡ fault UnknownEscape (length u)
    command_unread =
        refuses_scan plain_text ds five commanded UnknownEscape (length u)
        (record { front = u; rest = escape_of ds ∷ (c ++ escape_of ds ∷ r); said = t; made_of = refl; reads = m; stops = unknown c r f (plain_refuses c k); there = refl })

    pub command_twelve : (room : ℕ) → 5 ≤ first_wrong_delimiter ds → is_null (u ++ escape_of ds ∷ (c ++ escape_of ds ∷ r)) ≡ false
        → unescaping ds (u ++ escape_of ds ∷ (c ++ escape_of ds ∷ r)) room ≡ fault UnknownEscape (length u)
    command_twelve room h n = unescaping_fault ds commanded room h n UnknownEscape (length u) command_unread
