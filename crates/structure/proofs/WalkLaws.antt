-- The walk over the names of a message is the grammar: what it comes to is what `Refused` and `Yields` ask, for every structure that the tables fit.
-- Assumes nothing.
use mathlib.Core.Path.{◌≡◌, refl, sym, ap, ◌∙◌, subst}
use mathlib.Core.Logic.{◌⊎◌, inl, inr, ◌↔◌}
use mathlib.Core.Bool.{Bool, true, false, cond, not, ◌&&◌}
use mathlib.Core.List.{List, [], ◌∷◌, ◌++◌, append-nil}
use Prim.Native.Nat.{ℕ, ◌+◌, ◌<◌}
use native.Mathlib.Omega.{arith}
use lib.Dec.{T, eqb}
use lib.ListN.{length, take, length-append}
use lib.Seq.{take-append_seam, append_snoc}
use borrow.Author.Tests.{eqb-true, eqb-false}
use Rattle.std.specs.Prelude.{Ok, Err}
use Rattle.alphabet.proofs.BoolLaws.{false_true}
use Rattle.structure.specs.Shapes.{Shape, Yields, Viable, Possible, names, name_at, numbered}
use Rattle.structure.specs.SegmentNames.{passed_over, kept}
use Rattle.structure.specs.Judged.{front, Refused}
use Rattle.structure.specs.Engine.{has, Entry, entry_at, stepped, stuck_at, Walked, misplaced, early, ended_with, walked, listing, stop, Fits, Tables}
use Rattle.structure.specs.declared.walking.Stop.TheVariants.{Misplaced, Early}
use Rattle.structure.proofs.Going.{Going, begun, onward, halted, yielded, standing, placed}
use Rattle.structure.proofs.ListingLaws.{listing_is}

-- ---- what is left of some names

module _ (ns : List ℕ) where
  pub kept_append : (xs ys : List ℕ) → kept ns (xs ++ ys) ≡ kept ns xs ++ kept ns ys
  unfolding kept
  kept_append [] ys = refl
  kept_append (x ∷ xs) ys = at (passed_over ns x) (kept_append xs ys)
    where
      at : (t : Bool) → kept ns (xs ++ ys) ≡ kept ns xs ++ kept ns ys
          → cond t (kept ns (xs ++ ys)) (x ∷ kept ns (xs ++ ys)) ≡ cond t (kept ns xs) (x ∷ kept ns xs) ++ kept ns ys
      at true e = e
      at false e = ap (λ (l : List ℕ). x ∷ l) e

  kept_over : (xs : List ℕ) (n : ℕ) → passed_over ns n ≡ true → kept ns (xs ++ (n ∷ [])) ≡ kept ns xs
  unfolding kept
  kept_over xs n e = kept_append xs (n ∷ []) ∙ ap (λ (t : Bool). kept ns xs ++ cond t [] (n ∷ [])) e ∙ append-nil (kept ns xs)

  kept_on : (xs : List ℕ) (n : ℕ) → passed_over ns n ≡ false → kept ns (xs ++ (n ∷ [])) ≡ kept ns xs ++ (n ∷ [])
  unfolding kept
  kept_on xs n e = kept_append xs (n ∷ []) ∙ ap (λ (t : Bool). kept ns xs ++ cond t [] (n ∷ [])) e

-- where nothing can come next
stuck_both : (e : Entry) → stuck_at e ≡ true → (e.next ≡ 0) × (e.ends ≡ false)
stuck_both e q = at (eqb e.next 0) refl e.ends refl q
  where
    at : (t : Bool) → eqb e.next 0 ≡ t → (u : Bool) → e.ends ≡ u → (t && not u) ≡ true → (e.next ≡ 0) × (e.ends ≡ false)
    at true f false g h = (eqb-true e.next 0 f, g)
    at true f true g h = false_true h
    at false f u g h = false_true h

stuck_not : (e : Entry) → stuck_at e ≡ false → (e.next ≡ 0 → ⊥) ⊎ T e.ends
stuck_not e q = at (eqb e.next 0) refl e.ends refl q
  where
    at : (t : Bool) → eqb e.next 0 ≡ t → (u : Bool) → e.ends ≡ u → (t && not u) ≡ false → (e.next ≡ 0 → ⊥) ⊎ T e.ends
    at false f u g h = inl (eqb-false e.next 0 f)
    at true f true g h = inr (subst T (sym g) tt)
    at true f false g h = false_true (sym h)

module _ (s : Shape) (follow : List ℕ) (last : ℕ) (fits : Fits (entry_at follow last) (numbered 0 s) stop) where
  abbrev ns : List ℕ
  ns = names s

  abbrev Goes : List ℕ → Entry → Type 0
  Goes before e = Going s (names s) follow last refl fits (kept (names s) before) e

  -- the names that are listed for a set
  abbrev listed : ℕ → List ℕ
  listed places = listing ns places (length ns)

  -- what a walk over all names comes to
  abbrev pub Walks : List ℕ → Walked → Type 0
  Walks all (Ok _) = Yields s (kept (names s) all)
  Walks all (Err (Misplaced stuck)) = (stuck.place < length all) × Refused s all stuck.place stuck.next.ends (listing (names s) stuck.next.places (length (names s)))
  Walks all (Err (Early place places)) = (place ≡ length all) × Refused s all place false (listing (names s) places (length (names s)))

  module _ (before : List ℕ) (e : Entry) (g : Goes before e) where
    -- at a segment that cannot stand
    at_name : (n : ℕ) (l : List ℕ) → passed_over ns n ≡ false → stuck_at (stepped ns follow last e.next n) ≡ true
        → Refused s (before ++ n ∷ l) (length before) e.ends (listed e.next)
    unfolding kept
    at_name n l p q =
        let b = stuck_both (stepped ns follow last e.next n) q in
        let dead = halted s ns follow last refl fits (kept ns before) n e g b.0 b.1 in
        let here : take (length before) (before ++ n ∷ l) ≡ before = take-append_seam before (n ∷ l) in
        let split : before ++ n ∷ l ≡ (before ++ (n ∷ [])) ++ l = sym (append_snoc before n l) in
        let size : length before + 1 ≡ length (before ++ (n ∷ [])) = sym (length-append before (n ∷ [])) in
        let behind : take (length before + 1) (before ++ n ∷ l) ≡ before ++ (n ∷ []) =
        ap (λ (i : ℕ). take i (before ++ n ∷ l)) size ∙ ap (take (length (before ++ (n ∷ [])))) split ∙ take-append_seam (before ++ (n ∷ [])) l in
        let whole : kept ns (before ++ n ∷ l) ≡ (kept ns before ++ (n ∷ [])) ++ kept ns l =
        ap (kept ns) split ∙ kept_append ns (before ++ (n ∷ [])) l ∙ ap (λ (x : List ℕ). x ++ kept ns l) (kept_on ns before n p) in
        record {
          not_yielded = λ y. dead (kept ns l, subst (Yields s) whole y);
          within = omega (arith, length-append before (n ∷ l));
          begun = subst (λ (x : List ℕ). Viable s (kept ns x)) (sym here) g.viable;
          stuck = λ _ v. dead (subst (Viable s) (ap (kept ns) behind ∙ kept_on ns before n p) v);
          could_end = subst (λ (x : List ℕ). T e.ends ↔ Yields s (kept ns x)) (sym here) (yielded s ns follow last refl fits (kept ns before) e g);
          could_stand =
              listing_is ns e.next (Possible s (front s (length before) (before ++ n ∷ l))) (name_at s) (length ns)
              (subst (λ (x : List ℕ). (q : ℕ) → has e.next q ↔ Possible s (kept ns x) q) (sym here) (standing s ns follow last refl fits (kept ns before) e g))
              (λ p. refl) (placed s ns follow last refl fits (kept ns before) e g);
        }

    -- at the end, where more are missing
    at_end : e.ends ≡ false → Refused s (before ++ []) (length before) false (listed e.next)
    at_end f =
        let here : take (length before) (before ++ []) ≡ before = take-append_seam before [] in
        let ends = yielded s ns follow last refl fits (kept ns before) e g in
        let none : Yields s (kept ns before) → ⊥ = λ y. subst T f (ends.1 y) in
        record {
          not_yielded = λ y. none (subst (λ (x : List ℕ). Yields s (kept ns x)) (append-nil before) y);
          within = omega (arith, length-append before []);
          begun = subst (λ (x : List ℕ). Viable s (kept ns x)) (sym here) g.viable;
          stuck = λ h _. absurd (omega (arith, length-append before []));
          could_end = (λ t. absurd t, λ y. none (subst (λ (x : List ℕ). Yields s (kept ns x)) here y));
          could_stand =
              listing_is ns e.next (Possible s (front s (length before) (before ++ []))) (name_at s) (length ns)
              (subst (λ (x : List ℕ). (q : ℕ) → has e.next q ↔ Possible s (kept ns x) q) (sym here) (standing s ns follow last refl fits (kept ns before) e g))
              (λ p. refl) (placed s ns follow last refl fits (kept ns before) e g);
        }

    ended_is : Walks (before ++ []) (ended_with e (length before))
    unfolding ended_with
    ended_is = at e.ends refl
      where
        at : (t : Bool) → e.ends ≡ t → Walks (before ++ []) (cond t (Ok tt) (early (length before) e.next))
        at true f =
            subst (λ (x : List ℕ). Yields s (kept ns x)) (sym (append-nil before))
            ((yielded s ns follow last refl fits (kept ns before) e g).0 (subst T (sym f) tt))
        at false f = (omega (arith, length-append before []), at_end f)

  -- the names before, and the walk over the others from what is known after them
  walk_from : (before l : List ℕ) (e : Entry) → Goes before e → Walks (before ++ l) (walked ns follow last e (length before) l)
  unfolding walked
  walk_from before [] e g = ended_is before e g
  walk_from before (n ∷ l) e g =
      at (passed_over ns n) refl (stuck_at (stepped ns follow last e.next n)) refl
      (λ (g' : Goes (before ++ (n ∷ [])) e). more e (walk_from (before ++ (n ∷ [])) l e g'))
      (λ (g' : Goes (before ++ (n ∷ [])) (stepped ns follow last e.next n)).
      more (stepped ns follow last e.next n) (walk_from (before ++ (n ∷ [])) l (stepped ns follow last e.next n) g'))
    where
      -- the same walk, one name on
      more : (e' : Entry) → Walks ((before ++ (n ∷ [])) ++ l) (walked ns follow last e' (length (before ++ (n ∷ []))) l) → Walks (before ++ n ∷ l) (walked ns follow last e' (length before + 1) l)
      more e' w =
          subst (λ (i : ℕ). Walks (before ++ n ∷ l) (walked ns follow last e' i l)) (length-append before (n ∷ []))
          (subst (λ (x : List ℕ). Walks x (walked ns follow last e' (length (before ++ (n ∷ []))) l)) (append_snoc before n l) w)

      at : (t : Bool) → passed_over ns n ≡ t → (u : Bool) → stuck_at (stepped ns follow last e.next n) ≡ u
          → (Goes (before ++ (n ∷ [])) e → Walks (before ++ n ∷ l) (walked ns follow last e (length before + 1) l))
          → (Goes (before ++ (n ∷ [])) (stepped ns follow last e.next n) → Walks (before ++ n ∷ l) (walked ns follow last (stepped ns follow last e.next n) (length before + 1) l))
          → Walks (before ++ n ∷ l)
          (cond t (walked ns follow last e (length before + 1) l)
          (cond u (misplaced (length before) e.next e.ends) (walked ns follow last (stepped ns follow last e.next n) (length before + 1) l)))
      at true p u q over on = over (subst (λ (x : List ℕ). Going s ns follow last refl fits x e) (sym (kept_over ns before n p)) g)
      at false p true q over on = (omega (arith, length-append before (n ∷ l)), at_name before e g n l p q)
      at false p false q over on =
          on (subst (λ (x : List ℕ). Going s ns follow last refl fits x (stepped ns follow last e.next n)) (sym (kept_on ns before n p))
          (onward s ns follow last refl fits (kept ns before) n e g (stuck_not (stepped ns follow last e.next n) q)))

-- the whole walk, with 'the tables are the structure's' as its only premise
pub walk_is : (s : Shape) (ns follow : List ℕ) (last : ℕ) (begin : Entry) (t : Tables s ns follow last begin) (all : List ℕ)
    → Walks s follow last t.fits all (walked ns follow last begin 0 all)
unfolding kept
walk_is s ns follow last begin t all =
    subst (λ (x : List ℕ). Walks s follow last t.fits all (walked x follow last begin 0 all)) (sym t.named)
    (walk_from s follow last t.fits [] all begin (begun s (names s) follow last refl t.fits begin t.begins))
