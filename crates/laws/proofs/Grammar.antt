-- The scan gives a text exactly where the grammar reads one, and the same; and a fault exactly where the grammar refuses, the same and at the same
-- place. Each list of bytes either reads or is refused. So it is for any set of sequences; and so unescaping's outcomes are. Assumes nothing.
use mathlib.Core.Path.{◌≡◌, refl, sym, ap, subst, ◌∙◌}
use mathlib.Core.List.{List, [], ◌∷◌, ◌++◌, append_assoc}
use mathlib.Core.Bool.{Bool, true, false, cond}
use Prim.Native.Nat.{ℕ, zero, suc, ◌+◌, ◌≤◌, ◌<◌}
use native.Mathlib.Nat.{add-zero, zero-add}
use native.Mathlib.Omega.{arith}
use lib.Dec.{leb, ltb, eqb}
use lib.ListN.{length, take, drop, length-append, length-drop}
use lib.Seq.{split_at, take-append_seam}
use borrow.Author.Tests.{eqb-true, eqb-false, ltb-true, ltb-false, leb-true, leb-false}
use Rattle.alphabet.proofs.CheckLaws.{fails_same}
use Rattle.alphabet.proofs.ListLaws.{find_is, first_le}
use Rattle.alphabet.proofs.NullLaws.{two_quotes_lem, not_quotes, other_quotes}
use Rattle.alphabet.proofs.PartLaws.{free_find}
use Rattle.alphabet.specs.Lists.{first, find}
use Rattle.alphabet.specs.Bytes.{printable, is_null}
use Rattle.alphabet.specs.Delimiters.{first_wrong_delimiter}
use Rattle.alphabet.specs.declared.answers.Refusal.{Refusal}
use Rattle.alphabet.specs.declared.answers.Refusal.TheVariants.{NotAllowed, Separator, UnknownEscape, UnclosedEscape}
use Rattle.escaping.specs.Escape.{escape_of, escape}
use Rattle.text.specs.Unescape.{Sequences, plain_text, before, scan}
use Rattle.escaping.specs.Outcomes.{Outcome, text, fault}
use Rattle.text.specs.Unescape.{unescaping}
use Rattle.text.specs.Reads.{Reads, done, plain, escaped, Stops, unprintable, separator, unknown, unclosed, Refuses, Unescapes, delimiter, null, refused, long, written}
use Rattle.text.proofs.StepLaws.{step_unknown, step_unclosed, step_unprintable, step_separator, step_plain, scan_emit, scan_stop, before_before, before_none}
use Rattle.text.proofs.OutcomeLaws.{unescaping_bad, unescaping_null, unescaping_fault, unescaping_fits, unescaping_long}
use Rattle.laws.proofs.RoundTrip.{no_delimiter, AreBytes, sequence_back, plain_back}

find_take : (b : ℕ) (l : List ℕ) → find b (take (find b l) l) ≡ length (take (find b l) l)
unfolding first
find_take b [] = refl
find_take b (x ∷ l) = at (eqb b x) refl (find_take b l)
  where
    at : (t : Bool) → eqb b x ≡ t → find b (take (find b l) l) ≡ length (take (find b l) l)
        → find b (take (cond t 0 (suc (find b l))) (x ∷ l)) ≡ length (take (cond t 0 (suc (find b l))) (x ∷ l))
    at true e ih = refl
    at false e ih = rw e (ap suc ih)

-- ---- from the grammar to the scan

module _ {A : Type 0} (q : Sequences A) (ds : List ℕ) where
  module _ (five : length ds ≡ 5) where
    -- what is read passes, whatever follows
    reads_before : {u : List ℕ} {t : List A} → Reads q ds u t → (v : List ℕ) (at : ℕ) → scan q ds at 0 (u ++ v) ≡ before t (scan q ds (at + length u) 0 v)
    reads_before done v at = before_none (scan q ds at 0 v) ∙ ap (λ (n : ℕ). before [] (scan q ds n 0 v)) (sym (add-zero at))
    reads_before (plain {r} {t} b a h m) v at =
        let e : (at + 1) + length r ≡ at + suc (length r) = omega arith in
        scan_emit q ds at b (r ++ v) (q.plain b ∷ []) 0 (step_plain q ds b (r ++ v) (no_delimiter ds five b h) a h)
        ∙ ap (before (q.plain b ∷ [])) (reads_before m v (at + 1))
        ∙ before_before (q.plain b ∷ []) t (scan q ds ((at + 1) + length r) 0 v) ∙ ap (λ (n : ℕ). before (q.plain b ∷ t) (scan q ds n 0 v)) e
    reads_before (escaped {r} {t} c f k m) v at =
        let n : length (c ++ escape_of ds ∷ r) ≡ length c + suc (length r) = length-append c (escape_of ds ∷ r) in
        let e : (at + (length c + 2)) + length r ≡ at + suc (length (c ++ escape_of ds ∷ r)) = omega arith in
        ap (λ (l : List ℕ). scan q ds at 0 (escape_of ds ∷ l)) (append_assoc c (escape_of ds ∷ r) v)
        ∙ sequence_back q ds at c (r ++ v) (q.meaning ds c) (free_find (escape_of ds) c (r ++ v) f) k refl
        ∙ ap (before (q.meaning ds c)) (reads_before m v (at + (length c + 2)))
        ∙ before_before (q.meaning ds c) t (scan q ds ((at + (length c + 2)) + length r) 0 v) ∙ ap (λ (n : ℕ). before (q.meaning ds c ++ t) (scan q ds n 0 v)) e

    reads_from : {s : List ℕ} {t : List A} → Reads q ds s t → (at : ℕ) → scan q ds at 0 s ≡ text t
    unfolding scan
    reads_from done at = refl
    reads_from (plain {r} {t} b a h m) at =
        scan_emit q ds at b r (q.plain b ∷ []) 0 (step_plain q ds b r (no_delimiter ds five b h) a h) ∙ ap (before (q.plain b ∷ [])) (reads_from m (at + 1))
    reads_from (escaped {r} {t} c f k m) at =
        sequence_back q ds at c r (q.meaning ds c) (free_find (escape_of ds) c r f) k refl ∙ ap (before (q.meaning ds c)) (reads_from m (at + (length c + 2)))

    stops_at : {v : List ℕ} {k : Refusal} → Stops q ds v k → (at : ℕ) → scan q ds at 0 v ≡ fault k at
    stops_at (unprintable b r n a) at = scan_stop q ds at b r NotAllowed (step_unprintable q ds b r n a)
    stops_at (separator b r n a h) at = scan_stop q ds at b r Separator (step_separator q ds b r n a h)
    stops_at (unknown c r f k) at =
        let e = escape_of ds in
        let n : length (c ++ e ∷ r) ≡ length c + suc (length r) = length-append c (e ∷ r) in
        scan_stop q ds at e (c ++ e ∷ r) UnknownEscape (step_unknown q ds e (c ++ e ∷ r) (length c) refl (free_find e c r f) (omega arith) (ap q.known (take-append_seam c (e ∷ r)) ∙ k))
    stops_at (unclosed r f) at = scan_stop q ds at (escape_of ds) r UnclosedEscape (step_unclosed q ds (escape_of ds) r refl (omega arith))

    pub reads_scan : (s : List ℕ) (t : List A) → Reads q ds s t → scan q ds 0 0 s ≡ text t
    reads_scan s t m = reads_from m 0

    pub refuses_scan : (s : List ℕ) (k : Refusal) (p : ℕ) → Refuses q ds s k p → scan q ds 0 0 s ≡ fault k p
    refuses_scan s k p f =
        ap (scan q ds 0 0) f.made_of ∙ reads_before f.reads f.rest 0 ∙ ap (before f.said) (stops_at f.stops (0 + length f.front))
        ∙ ap (fault k) (zero-add (length f.front) ∙ f.there)

  -- ---- each list of bytes either reads or is refused

  pub data Said (s : List ℕ) : Type 0 where
    says : (t : List A) → Reads q ds s t → Said s
    refuses : (k : Refusal) (p : ℕ) → Refuses q ds s k p → Said s

  stopped : (v : List ℕ) (k : Refusal) → Stops q ds v k → Said v
  stopped v k m = refuses k 0 (record { front = []; rest = v; said = []; made_of = refl; reads = done; stops = m; there = refl })

  past_plain : (b : ℕ) (r : List ℕ) → printable b ≡ true → 5 ≤ find b ds → Said r → Said (b ∷ r)
  past_plain b r a h (says t m) = says (q.plain b ∷ t) (plain b a h m)
  past_plain b r a h (refuses k p f) =
      refuses k (suc p) (record {
        front = b ∷ f.front;
        rest = f.rest;
        said = q.plain b ∷ f.said;
        made_of = ap (λ (l : List ℕ). b ∷ l) f.made_of;
        reads = plain b a h f.reads;
        stops = f.stops;
        there = ap suc f.there;
      })

  past_escaped : (c r : List ℕ) → find (escape_of ds) c ≡ length c → q.known c ≡ true → Said r → Said (escape_of ds ∷ (c ++ escape_of ds ∷ r))
  past_escaped c r e k (says t m) = says (q.meaning ds c ++ t) (escaped c e k m)
  past_escaped c r e k (refuses j p f) =
      refuses j (length (escape_of ds ∷ (c ++ escape_of ds ∷ f.front))) (record {
        front = escape_of ds ∷ (c ++ escape_of ds ∷ f.front);
        rest = f.rest;
        said = q.meaning ds c ++ f.said;
        made_of = ap (λ (l : List ℕ). escape_of ds ∷ (c ++ escape_of ds ∷ l)) f.made_of ∙ ap (λ (l : List ℕ). escape_of ds ∷ l) (sym (append_assoc c (escape_of ds ∷ f.front) f.rest));
        reads = escaped c e k f.reads;
        stops = f.stops;
        there = refl;
      })

  -- at an escape delimiter
  opened : (r : List ℕ) → ((v : List ℕ) → length v ≤ length r → Said v) → Said (escape_of ds ∷ r)
  opened r more = at (ltb n (length r)) refl (q.known (take n r)) refl
    where
      e : ℕ
      e = escape_of ds

      n : ℕ
      n = find e r

      apart : n < length r → take n r ++ e ∷ drop (suc n) r ≡ r
      apart h = ap (λ (x : ℕ). take n r ++ x ∷ drop (suc n) r) (sym (find_is e r h)) ∙ sym (split_at r n 0 h)

      at : (t : Bool) → ltb n (length r) ≡ t → (u : Bool) → q.known (take n r) ≡ u → Said (e ∷ r)
      at true h true k =
          subst (λ (l : List ℕ). Said (e ∷ l)) (apart (ltb-true n (length r) h))
          (past_escaped (take n r) (drop (suc n) r) (find_take e r) k (more (drop (suc n) r) (let d = length-drop (suc n) r in omega arith)))
      at true h false k =
          subst (λ (l : List ℕ). Said (e ∷ l)) (apart (ltb-true n (length r) h))
          (stopped _ UnknownEscape (unknown (take n r) (drop (suc n) r) (find_take e r) k))
      at false h u k =
          let l = ltb-false n (length r) h in
          let m = first_le (eqb e) r in
          stopped (e ∷ r) UnclosedEscape (unclosed r (omega arith))

  -- at any other byte
  other : (b : ℕ) (r : List ℕ) → (b ≡ escape_of ds → ⊥) → Said r → Said (b ∷ r)
  other b r n more = at (printable b) refl (ltb (find b ds) 5) refl
    where
      at : (t : Bool) → printable b ≡ t → (u : Bool) → ltb (find b ds) 5 ≡ u → Said (b ∷ r)
      at true e true f = stopped (b ∷ r) Separator (separator b r n e (ltb-true (find b ds) 5 f))
      at true e false f = past_plain b r e (ltb-false (find b ds) 5 f) more
      at false e u f = stopped (b ∷ r) NotAllowed (unprintable b r n e)

  turn : (s : List ℕ) → ((v : List ℕ) → length v < length s → Said v) → Said s
  turn [] more = says [] done
  turn (b ∷ r) more = at (eqb b (escape_of ds)) refl
    where
      at : (t : Bool) → eqb b (escape_of ds) ≡ t → Said (b ∷ r)
      at true e = subst (λ (x : ℕ). Said (x ∷ r)) (sym (eqb-true b (escape_of ds) e)) (opened r (λ (v : List ℕ) (l : length v ≤ length r). more v (omega arith)))
      at false e = other b r (eqb-false b (escape_of ds) e) (more r (omega arith))

  either_below : (n : ℕ) (s : List ℕ) → length s < n → Said s
  either_below zero s h = absurd (omega arith)
  either_below (suc n) s h = turn s (λ (v : List ℕ) (l : length v < length s). either_below n v (omega arith))

  pub either : (s : List ℕ) → Said s
  either s = either_below (suc (length s)) s (omega arith)

  -- ---- from the scan to the grammar

  module _ (five : length ds ≡ 5) where
    pub scan_reads : (s : List ℕ) (t : List A) → scan q ds 0 0 s ≡ text t → Reads q ds s t
    scan_reads s t e = by (either s)
      where
        by : Said s → Reads q ds s t
        by (says t' m) = let w : text t' ≡ text t = sym (reads_scan five s t' m) ∙ e in let z : t' ≡ t = cc in subst (Reads q ds s) z m
        by (refuses k p f) = let w : fault k p ≡ text t = sym (refuses_scan five s k p f) ∙ e in absurd (let z : ◌≡◌ {A = ℕ} 0 1 = cc in omega arith)

    pub scan_refuses : (s : List ℕ) (k : Refusal) (p : ℕ) → scan q ds 0 0 s ≡ fault k p → Refuses q ds s k p
    scan_refuses s k p e = by (either s)
      where
        by : Said s → Refuses q ds s k p
        by (says t m) = let w : text t ≡ fault k p = sym (reads_scan five s t m) ∙ e in absurd (let z : ◌≡◌ {A = ℕ} 0 1 = cc in omega arith)
        by (refuses k' p' f) =
            let w : fault k' p' ≡ fault k p = sym (refuses_scan five s k' p' f) ∙ e in
            let same = fails_same w in
            let z : k' ≡ k = same.0 in
            let r : p' ≡ p = same.1 in
            subst (Refuses q ds s k) r (subst (λ (j : Refusal). Refuses q ds s j p') z f)

-- ---- plain text

module _ (ds : List ℕ) (five : length ds ≡ 5) where
  -- what is written reads as the text that it was written for
  pub escape_reads : first_wrong_delimiter ds ≡ 5 → (t : List ℕ) → AreBytes t → Reads plain_text ds (escape ds t) t
  escape_reads fine t small = scan_reads plain_text ds five (escape ds t) t (plain_back ds five fine t small)

  -- ---- the outcome of unescaping is the one that the grammar says, and no other

  pub unescapes_only : (s : List ℕ) (room : ℕ) (o : Outcome ℕ) → Unescapes ds s room o → unescaping ds s room ≡ o
  unescapes_only s room o (delimiter h) = unescaping_bad ds s room h
  unescapes_only s room o (null h q) = unescaping_null ds s room h (ap is_null q)
  unescapes_only s room o (refused h n k p f) = unescaping_fault ds s room h (other_quotes s n) k p (refuses_scan plain_text ds five s k p f)
  unescapes_only s room o (long h n t m l) = unescaping_long ds s room h (other_quotes s n) t (reads_scan plain_text ds five s t m) l
  unescapes_only s room o (written h n t m l) = unescaping_fits ds s room h (other_quotes s n) t (reads_scan plain_text ds five s t m) l

  pub unescapes : (s : List ℕ) (room : ℕ) → Unescapes ds s room (unescaping ds s room)
  unescapes s room = by (ltb (first_wrong_delimiter ds) 5) refl (is_null s) refl (either plain_text ds s)
    where
      is : (o : Outcome ℕ) → Unescapes ds s room o → Unescapes ds s room (unescaping ds s room)
      is o m = subst (Unescapes ds s room) (sym (unescapes_only s room o m)) m

      fits : (b : Bool) (t : List ℕ) → leb (length t) room ≡ b → 5 ≤ first_wrong_delimiter ds → (s ≡ 34 ∷ 34 ∷ [] → ⊥) → Reads plain_text ds s t → Unescapes ds s room (unescaping ds s room)
      fits true t e h n m = is (text t) (written h n t m (leb-true (length t) room e))
      fits false t e h n m = is _ (long h n t m (leb-false (length t) room e))

      by : (a : Bool) → ltb (first_wrong_delimiter ds) 5 ≡ a → (b : Bool) → is_null s ≡ b → Said plain_text ds s → Unescapes ds s room (unescaping ds s room)
      by true e b f d = is _ (delimiter (ltb-true (first_wrong_delimiter ds) 5 e))
      by false e true f d = is _ (null (ltb-false (first_wrong_delimiter ds) 5 e) (two_quotes_lem s f))
      by false e false f (says t m) = fits (leb (length t) room) t refl (ltb-false (first_wrong_delimiter ds) 5 e) (not_quotes s f) m
      by false e false f (refuses k p m) = is (fault k p) (refused (ltb-false (first_wrong_delimiter ds) 5 e) (not_quotes s f) k p m)
