-- The list that names the places of a set, each name once, is the one that the grammar's words ask for; and there is no second such list. Assumes nothing.
use mathlib.Core.Path.{◌≡◌, refl, sym, ap, ◌∙◌, subst}
use mathlib.Core.Logic.{◌⊎◌, inl, inr, ⊎_elim, ◌↔◌}
use mathlib.Core.Bool.{Bool, true, false, cond, not, ◌&&◌, ◌||◌}
use mathlib.Core.List.{List, [], ◌∷◌, ◌++◌, map}
use Prim.Native.Nat.{ℕ, zero, suc, ◌+◌, ◌/◌, ◌^◌, ◌≤◌, ◌<◌}
use native.Mathlib.Numerals.{add-one}
use lib.Bits.{bit_and}
use lib.ListN.{length, get_or, length-append}
use native.Mathlib.Decide.{dec_lt}
use native.Mathlib.Omega.{arith}
use lib.Dec.{eqb}
use borrow.Author.Tests.{eqb-true, eqb-false, eq-eqb}
use Rattle.alphabet.proofs.BoolLaws.{false_true}
use Rattle.structure.specs.SegmentNames.{among}
use Rattle.structure.specs.Listed.{In, here, there, Rising, Earliest, Listed}
use Rattle.structure.specs.Engine.{bit, has, hasb, name_in, listing}
use Rattle.structure.proofs.RunLaws.{snoc_map}
use Rattle.structure.proofs.GatherLaws.{low_bit}

-- ---- one of a list

in_none : {x : ℕ} {l : List ℕ} → In x l → l ≡ [] → ⊥
in_none here e = let z : ◌≡◌ {A = ℕ} 0 1 = cc in omega arith
in_none (there i) e = let z : ◌≡◌ {A = ℕ} 0 1 = cc in omega arith

in_left : {x : ℕ} (l r : List ℕ) → In x l → In x (l ++ r)
in_left [] r i = elim i [ ]
in_left (y ∷ l) r here = here
in_left (y ∷ l) r (there i) = there (in_left l r i)

in_last : (l : List ℕ) (x : ℕ) → In x (l ++ (x ∷ []))
in_last [] x = here
in_last (y ∷ l) x = there (in_last l x)

in_snoc : {x : ℕ} (l : List ℕ) (y : ℕ) → In x (l ++ (y ∷ [])) → In x l ⊎ (x ≡ y)
in_snoc [] y here = inr refl
in_snoc [] y (there i) = absurd (in_none i refl)
in_snoc (z ∷ l) y here = inl here
in_snoc (z ∷ l) y (there i) = ⊎_elim (λ a. inl (there a)) (λ b. inr b) (in_snoc l y i)

in_map : (f : ℕ → ℕ) {x : ℕ} {l : List ℕ} → In x l → In (f x) (map f l)
in_map f here = here
in_map f (there i) = there (in_map f i)

map_in : (f : ℕ → ℕ) (y : ℕ) (l : List ℕ) → In y (map f l) → (x : ℕ) × In x l × (f x ≡ y)
map_in f y [] i = elim i [ ]
map_in f y (x ∷ l) here = (x, here, refl)
map_in f y (x ∷ l) (there i) = let k = map_in f y l i in (k.0, there k.1, k.2)

pub among_in : (n : ℕ) (l : List ℕ) → among n l ≡ true → In n l
unfolding among
among_in n [] e = false_true e
among_in n (x ∷ l) e = at (eqb n x) refl e (among_in n l)
  where
    at : (t : Bool) → eqb n x ≡ t → (t || among n l) ≡ true → (among n l ≡ true → In n l) → In n (x ∷ l)
    at true q e r = subst (λ (y : ℕ). In n (y ∷ l)) (eqb-true n x q) here
    at false q e r = there (r e)

pub in_among : {n : ℕ} {l : List ℕ} → In n l → among n l ≡ true
unfolding among
in_among {n} here = rw (eq-eqb n n refl)
in_among {n} (there {y} {l} i) = at (eqb n y) (in_among i)
  where
    at : (t : Bool) → among n l ≡ true → (t || among n l) ≡ true
    at true e = refl
    at false e = e

-- ---- rising lists

rising_snoc : (j k : ℕ) (ps : List ℕ) → Rising j ps → ((p : ℕ) → In p ps → p < k) → j ≤ k → Rising j (ps ++ (k ∷ []))
rising_snoc j k [] r h l = (l, tt)
rising_snoc j k (p ∷ ps) r h l = (r.0, rising_snoc (suc p) k ps r.1 (λ q i. h q (there i)) (h p here))

rising_least : (j x : ℕ) (ps : List ℕ) → Rising j ps → In x ps → j ≤ x
rising_least j x [] r i = elim i [ ]
rising_least j x (p ∷ ps) r here = r.0
rising_least j x (p ∷ ps) r (there i) = let h = rising_least (suc p) x ps r.1 i in let g = r.0 in omega arith

-- rising lists of the same numbers are the same
pub rising_one : (j k : ℕ) (ps qs : List ℕ) → Rising j ps → Rising k qs → ((x : ℕ) → In x ps → In x qs) → ((x : ℕ) → In x qs → In x ps) → ps ≡ qs
rising_one j k [] [] r t f g = refl
rising_one j k [] (q ∷ qs) r t f g = absurd (in_none (g q here) refl)
rising_one j k (p ∷ ps) [] r t f g = absurd (in_none (f p here) refl)
rising_one j k (p ∷ ps) (q ∷ qs) r t f g =
    let low = rising_least q p (q ∷ qs) (omega arith, t.1) (f p here) in
    let high = rising_least p q (p ∷ ps) (omega arith, r.1) (g q here) in
    let e : p ≡ q = omega arith in
    let rest = rising_one (suc p) (suc q) ps qs r.1 t.1
    (λ x i. let h = rising_least (suc p) x ps r.1 i in tail x q qs (λ z. omega arith) (f x (there i)))
    (λ x i. let h = rising_least (suc q) x qs t.1 i in tail x p ps (λ z. omega arith) (g x (there i))) in
    cc
  where
    tail : (x y : ℕ) (l : List ℕ) → (x ≡ y → ⊥) → In x (y ∷ l) → In x l
    tail x y l n here = absurd (n refl)
    tail x y l n (there i) = i

-- ---- the listing

module _ (ns : List ℕ) (set : ℕ) where
  abbrev First : ℕ → Type 0
  First = Earliest (has set) (name_in ns)

  -- l lists the places below k
  record Upto (k : ℕ) (l : List ℕ) : Type 0 where
    pub places : List ℕ
    pub rising : Rising 0 places
    pub each : (p : ℕ) → In p places → (p < k) × First p
    pub all : (p : ℕ) → p < k → First p → In p places
    pub named : l ≡ map (name_in ns) places
    pub every : (q : ℕ) → q < k → has set q → In (name_in ns q) l

  below_or : (p k : ℕ) → p < suc k → (p < k) ⊎ (p ≡ k)
  below_or p k h = go (dec_lt p k)
    where
      go : Dec (p < k) → (p < k) ⊎ (p ≡ k)
      go (yes d) = inl d
      go (no d) = inr (omega arith)

  -- k is not listed: it is not in the set, or its name stands already
  passed : (k : ℕ) (l : List ℕ) → Upto k l → (First k → ⊥) → (has set k → In (name_in ns k) l) → Upto (suc k) l
  passed k l u n i = record {
    places = u.places;
    rising = u.rising;
    each = λ p h. let e = u.each p h in let b = e.0 in (omega arith, e.1);
    all = λ p h f. ⊎_elim (λ b. u.all p b f) (λ e. absurd (n (subst First e f))) (below_or p k h);
    named = u.named;
    every = λ q h m. ⊎_elim (λ b. u.every q b m) (λ e. subst (λ (x : ℕ). In (name_in ns x) l) (sym e) (i (subst (has set) e m))) (below_or q k h);
  }

  -- k is listed
  taken : (k : ℕ) (l : List ℕ) → Upto k l → First k → Upto (suc k) (l ++ (name_in ns k ∷ []))
  taken k l u f = record {
    places = u.places ++ (k ∷ []);
    rising = rising_snoc 0 k u.places u.rising (λ p h. (u.each p h).0) (omega arith);
    each = λ p h. ⊎_elim (λ i. let e = u.each p i in let b = e.0 in (omega arith, e.1)) (λ e. (omega arith, subst First (sym e) f)) (in_snoc u.places k h);
    all = λ p h g. ⊎_elim (λ b. in_left u.places (k ∷ []) (u.all p b g)) (λ e. subst (λ (x : ℕ). In x (u.places ++ (k ∷ []))) (sym e) (in_last u.places k)) (below_or p k h);
    named = ap (λ (x : List ℕ). x ++ (name_in ns k ∷ [])) u.named ∙ sym (snoc_map (name_in ns) u.places k);
    every = λ q h m. ⊎_elim (λ b. in_left l (name_in ns k ∷ []) (u.every q b m))
        (λ e. subst (λ (x : ℕ). In (name_in ns x) (l ++ (name_in ns k ∷ []))) (sym e) (in_last l (name_in ns k))) (below_or q k h);
  }

  upto : (k : ℕ) → Upto k (listing ns set k)
  unfolding listing
  upto zero = record {
    places = [];
    rising = tt;
    each = λ p h. absurd (in_none h refl);
    all = λ p h f. absurd (omega arith);
    named = refl;
    every = λ q h m. absurd (omega arith);
  }
  upto (suc k) = at (hasb set k) refl (among (name_in ns k) (listing ns set k)) refl (upto k)
    where
      l : List ℕ
      l = listing ns set k

      known : Upto k l → In (name_in ns k) l → First k → ⊥
      known u i f =
          let m = map_in (name_in ns) (name_in ns k) u.places (subst (In (name_in ns k)) u.named i) in
          let e = u.each m.0 m.1 in
          f.no_earlier m.0 e.0 e.1.possible m.2

      at : (t : Bool) → hasb set k ≡ t → (a : Bool) → among (name_in ns k) l ≡ a → Upto k l → Upto (suc k) (cond (t && not a) (l ++ (name_in ns k ∷ [])) l)
      at true e true f u = passed k l u (known u (among_in (name_in ns k) l f)) (λ m. among_in (name_in ns k) l f)
      at true e false f u =
          taken k l u
          (record {
            possible = eqb-true (bit set k) 1 e;
            no_earlier = λ q h m s. false_true (sym f ∙ in_among (subst (λ (x : ℕ). In x l) s (u.every q h m)));
          })
      at false e a f u = passed k l u (λ g. eqb-false (bit set k) 1 e g.possible) (λ m. absurd (eqb-false (bit set k) 1 e m))

  -- the whole listing, for places that are those of the set
  pub listing_is : (Possible : ℕ → Type 0) (name_at : ℕ → ℕ) (k : ℕ) → ((q : ℕ) → has set q ↔ Possible q) → ((p : ℕ) → name_in ns p ≡ name_at p)
      → ((q : ℕ) → has set q → q < k) → Listed Possible name_at (listing ns set k)
  listing_is Possible name_at k pos same below =
      let u = upto k in
      record {
        places = u.places;
        rising = u.rising;
        exactly = λ p. (λ i. to p (u.each p i).1, λ e. u.all p (below p ((pos p).1 e.possible)) (from p e));
        named = u.named ∙ map_same u.places;
        every = λ q m. let h = (pos q).1 m in subst (λ (x : ℕ). In x (listing ns set k)) (same q) (u.every q (below q h) h);
      }
    where
      to : (p : ℕ) → First p → Earliest Possible name_at p
      to p f = record { possible = (pos p).0 f.possible; no_earlier = λ q h m s. f.no_earlier q h ((pos q).1 m) (same q ∙ s ∙ sym (same p)) }

      from : (p : ℕ) → Earliest Possible name_at p → First p
      from p f = record { possible = (pos p).1 f.possible; no_earlier = λ q h m s. f.no_earlier q h ((pos q).0 m) (sym (same q) ∙ s ∙ same p) }

      map_same : (l : List ℕ) → map (name_in ns) l ≡ map name_at l
      map_same [] = refl
      map_same (x ∷ l) = let h = same x in let t = map_same l in cc

-- ---- there is no second list

pub one_list : (Possible : ℕ → Type 0) (name_at : ℕ → ℕ) (k l : List ℕ) → Listed Possible name_at k → Listed Possible name_at l → k ≡ l
one_list Possible name_at k l a b =
    let e = rising_one 0 0 a.places b.places a.rising b.rising
    (λ x i. (b.exactly x).1 ((a.exactly x).0 i)) (λ x i. (a.exactly x).1 ((b.exactly x).0 i)) in
    a.named ∙ ap (map name_at) e ∙ sym b.named

-- ---- a name is listed exactly where a possible place has it

pub in_list : (Possible : ℕ → Type 0) (name_at : ℕ → ℕ) (l : List ℕ) → Listed Possible name_at l → (n : ℕ) → In n l → (p : ℕ) × Possible p × (name_at p ≡ n)
in_list Possible name_at l a n i =
    let m = map_in name_at n a.places (subst (In n) a.named i) in
    (m.0, ((a.exactly m.0).0 m.1).possible, m.2)

-- ---- one turn of the listing, as the code has it: the names so far stand at the front of an array, and zeros behind them

module _ (ns : List ℕ) (set : ℕ) where
  pub listing_short : (k : ℕ) → length (listing ns set k) ≤ k
  unfolding listing
  listing_short zero = omega arith
  listing_short (suc k) = at (hasb set k && not (among (name_in ns k) (listing ns set k))) (listing_short k)
    where
      at : (t : Bool) → length (listing ns set k) ≤ k → length (cond t (listing ns set k ++ (name_in ns k ∷ [])) (listing ns set k)) ≤ suc k
      at true h = let n = length-append (listing ns set k) (name_in ns k ∷ []) in omega arith
      at false h = omega arith

  pub listing_taken : (k : ℕ) → (eqb (bit_and (set / 2 ^ k) 1) 1 && not (among (get_or ns k 0) (listing ns set k))) ≡ true
      → listing ns set (k + 1) ≡ listing ns set k ++ (get_or ns k 0 ∷ [])
  unfolding listing
  listing_taken k t = rw add-one (rw (rw (low_bit (set / 2 ^ k)) at t))

  pub listing_passed : (k : ℕ) → (eqb (bit_and (set / 2 ^ k) 1) 1 && not (among (get_or ns k 0) (listing ns set k))) ≡ false
      → listing ns set (k + 1) ≡ listing ns set k
  unfolding listing
  listing_passed k t = rw add-one (rw (rw (low_bit (set / 2 ^ k)) at t))

  pub listing_none : listing ns set 0 ≡ []
  unfolding listing
  listing_none = refl
