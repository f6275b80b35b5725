-- The theorem: a list of places goes from set to set by a table exactly where the structure, by its brackets and braces alone, spans it. It holds for
-- every structure that the table fits; and from each of its places on, a message can be completed. Assumes nothing.
use mathlib.Core.Path.{◌≡◌, sym, ap, ◌∙◌, subst}
use mathlib.Core.Logic.{◌⊎◌, inl, inr, ⊎_elim}
use mathlib.Core.Bool.{Bool, true, false, ◌&&◌, ◌||◌}
use mathlib.Core.List.{List, [], ◌∷◌}
use Prim.Native.Nat.{ℕ, zero, suc, ◌^◌, ◌≤◌, ◌<◌}
use native.Mathlib.Omega.{arith}
use lib.Bits.{bit_or}
use lib.Dec.{T}
use lib.ListN.{length}
use Rattle.structure.specs.Shapes.{Shape, Spans}
use Rattle.structure.specs.Shapes.Shape.{end, seg, opt, rep}
use Rattle.structure.specs.Shapes.Spans.{ended, stand, skip, once, last, more}
use Rattle.structure.specs.Engine.{has, Entry, into, join, gate, only, nullable, first, via, enter, again, Fits}
use Rattle.structure.proofs.SetLaws.{or_left, or_right, or_cases, has_zero, has_one, one_has}

-- a list of places goes from set to set, and the message can end after it
abbrev pub Acc : (ℕ → Entry) → Entry → List ℕ → Type 0
Acc tab e [] = T e.ends
Acc tab e (q ∷ ws) = has e.next q × Acc tab (tab q) ws

pub T_left : (a b : Bool) → T a → T (a || b)
T_left true b t = tt
T_left false b t = absurd t

pub T_right : (a b : Bool) → T b → T (a || b)
T_right true b t = tt
T_right false b t = t

pub T_cases : (a b : Bool) → T (a || b) → T a ⊎ T b
T_cases true b t = inl tt
T_cases false b t = inr t

module _ (tab : ℕ → Entry) where
  pub acc_left : (a b : Entry) (ws : List ℕ) → Acc tab a ws → Acc tab (join a b) ws
  acc_left a b [] h = T_left a.ends b.ends h
  acc_left a b (q ∷ ws) h = (or_left a.next b.next q h.0, h.1)

  pub acc_right : (a b : Entry) (ws : List ℕ) → Acc tab b ws → Acc tab (join a b) ws
  acc_right a b [] h = T_right a.ends b.ends h
  acc_right a b (q ∷ ws) h = (or_right a.next b.next q h.0, h.1)

  pub acc_cases : (a b : Entry) (ws : List ℕ) → Acc tab (join a b) ws → Acc tab a ws ⊎ Acc tab b ws
  acc_cases a b [] h = T_cases a.ends b.ends h
  acc_cases a b (q ∷ ws) h = ⊎_elim (λ l. inl (l, h.1)) (λ r. inr (r, h.1)) (or_cases a.next b.next q h.0)

  acc_none : (ws : List ℕ) → Acc tab (into 0) ws → ⊥
  acc_none [] h = h
  acc_none (q ∷ ws) h = has_zero q h.0

  -- the same for the sets of places alone
  in_left : (m n : ℕ) (ws : List ℕ) → Acc tab (into m) ws → Acc tab (into (bit_or m n)) ws
  in_left m n ws h = acc_left (into m) (into n) ws h

  in_right : (m n : ℕ) (ws : List ℕ) → Acc tab (into n) ws → Acc tab (into (bit_or m n)) ws
  in_right m n ws h = acc_right (into m) (into n) ws h

  in_cases : (m n : ℕ) (ws : List ℕ) → Acc tab (into (bit_or m n)) ws → Acc tab (into m) ws ⊎ Acc tab (into n) ws
  in_cases m n ws h = acc_cases (into m) (into n) ws h

  -- through an optional group
  past : (fb fs : ℕ) (ns : Bool) (c : Entry) (ws : List ℕ) → Acc tab (via fs ns c) ws → Acc tab (via (bit_or fb fs) ns c) ws
  past fb fs ns c ws h =
      ⊎_elim (λ l. acc_left (into (bit_or fb fs)) (gate ns c) ws (in_right fb fs ws l))
      (λ r. acc_right (into (bit_or fb fs)) (gate ns c) ws r)
      (acc_cases (into fs) (gate ns c) ws h)

  through : (fb fs : ℕ) (nb ns : Bool) (c : Entry) (ws : List ℕ) → Acc tab (via fb nb (via fs ns c)) ws → Acc tab (via (bit_or fb fs) ns c) ws
  through fb fs true ns c ws h =
      ⊎_elim (λ l. acc_left (into (bit_or fb fs)) (gate ns c) ws (in_left fb fs ws l))
      (λ r. past fb fs ns c ws r)
      (acc_cases (into fb) (via fs ns c) ws h)
  through fb fs false ns c ws h =
      ⊎_elim (λ l. acc_left (into (bit_or fb fs)) (gate ns c) ws (in_left fb fs ws l))
      (λ r. absurd (acc_none ws r))
      (acc_cases (into fb) (into 0) ws h)

  -- into a repeated group again
  loop_in : (fb fs : ℕ) (nb ns : Bool) (c : Entry) (ws : List ℕ) → Acc tab (via (bit_or fb (only nb fs)) (nb && ns) c) ws → Acc tab (join (into fb) (via fs ns c)) ws
  loop_in fb fs true ns c ws h =
      ⊎_elim (λ l. ⊎_elim (λ p. acc_left (into fb) (via fs ns c) ws p)
      (λ p. acc_right (into fb) (via fs ns c) ws (acc_left (into fs) (gate ns c) ws p)) (in_cases fb fs ws l))
      (λ r. acc_right (into fb) (via fs ns c) ws (acc_right (into fs) (gate ns c) ws r))
      (acc_cases (into (bit_or fb fs)) (gate ns c) ws h)
  loop_in fb fs false ns c ws h =
      ⊎_elim (λ l. ⊎_elim (λ p. acc_left (into fb) (via fs ns c) ws p) (λ p. absurd (acc_none ws p)) (in_cases fb 0 ws l))
      (λ r. absurd (acc_none ws r))
      (acc_cases (into (bit_or fb 0)) (into 0) ws h)

  loop_out : (fb fs : ℕ) (nb ns : Bool) (c : Entry) (ws : List ℕ) → Acc tab (via fb nb (join (into fb) (via fs ns c))) ws → Acc tab (via (bit_or fb (only nb fs)) (nb && ns) c) ws
  loop_out fb fs true ns c ws h =
      ⊎_elim (λ l. acc_left (into (bit_or fb fs)) (gate ns c) ws (in_left fb fs ws l))
      (λ r. ⊎_elim (λ l. acc_left (into (bit_or fb fs)) (gate ns c) ws (in_left fb fs ws l)) (λ p. past fb fs ns c ws p) (acc_cases (into fb) (via fs ns c) ws r))
      (acc_cases (into fb) (join (into fb) (via fs ns c)) ws h)
  loop_out fb fs false ns c ws h =
      ⊎_elim (λ l. acc_left (into (bit_or fb 0)) (into 0) ws (in_left fb 0 ws l))
      (λ r. absurd (acc_none ws r))
      (acc_cases (into fb) (into 0) ws h)

  -- what a structure spans goes from set to set
  pub complete : {s : Shape} {ws us : List ℕ} → Spans s ws us → (c : Entry) → Fits tab s c → Acc tab c us → Acc tab (enter s c) ws
  complete (ended {us = us}) c f a = acc_right (into 0) c us a
  complete (stand {n = n} {s = s} {ws = ws} d) c f a =
      (or_left (2 ^ n) 0 n (has_one n), subst (λ (e : Entry). Acc tab e ws) (sym f.0) (complete d c f.1 a))
  complete (skip {b = b} {s = s} {ws = ws} d) c f a = past (first b) (first s) (nullable s) c ws (complete d c f.1 a)
  complete (once {b = b} {s = s} {ws = ws} d e) c f a =
      through (first b) (first s) (nullable b) (nullable s) c ws (complete d (enter s c) f.0 (complete e c f.1 a))
  complete (last {b = b} {s = s} {ws = ws} {vs = vs} d e) c f a =
      loop_out (first b) (first s) (nullable b) (nullable s) c ws
      (complete d (again b (enter s c)) f.0 (acc_right (into (first b)) (enter s c) vs (complete e c f.1 a)))
  complete (more {b = b} {s = s} {ws = ws} {vs = vs} d e) c f a =
      loop_out (first b) (first s) (nullable b) (nullable s) c ws
      (complete d (again b (enter s c)) f.0 (loop_in (first b) (first s) (nullable b) (nullable s) c vs (complete e c f a)))

T_both : (a b : Bool) → T (a && b) → T a × T b
T_both true b t = (tt, t)
T_both false b t = absurd t

pub empty : (s : Shape) (ws : List ℕ) → T (nullable s) → Spans s ws ws
empty end ws t = ended
empty (seg n s) ws t = absurd t
empty (opt b s) ws t = skip (empty s ws t)
empty (rep b s) ws t = last (empty b ws (T_both (nullable b) (nullable s) t).0) (empty s ws (T_both (nullable b) (nullable s) t).1)

module _ (tab : ℕ → Entry) where
  -- s spans a front part of ws, c takes the rest, and the rest is no longer than m
  pub record Cut (s : Shape) (c : Entry) (ws : List ℕ) (m : ℕ) : Type 0 where
    pub rest : List ℕ
    pub spans : Spans s ws rest
    pub goes : Acc tab c rest
    pub short : length rest ≤ m

  -- what holds where a first place of s is filled
  Proper : Shape → Entry → Type 0
  Proper s c = (q : ℕ) (vs : List ℕ) → has (first s) q → Acc tab (tab q) vs → Cut s c (q ∷ vs) (length vs)

  from_gate : (s : Shape) (c : Entry) (ws : List ℕ) (n : Bool) → (T n → Spans s ws ws) → Acc tab (gate n c) ws → Cut s c ws (length ws)
  from_gate s c ws true e a = record { rest = ws; spans = e tt; goes = a; short = omega arith }
  from_gate s c ws false e a = absurd (acc_none tab ws a)

  from_first : (s : Shape) (c : Entry) (ws : List ℕ) → Proper s c → Acc tab (into (first s)) ws → Cut s c ws (length ws)
  unfolding Proper
  from_first s c [] p a = absurd a
  from_first s c (q ∷ vs) p a =
      let k = p q vs a.0 a.1 in
      let h = k.short in
      record { rest = k.rest; spans = k.spans; goes = k.goes; short = omega arith }

  enters : (s : Shape) (c : Entry) → Proper s c → (ws : List ℕ) → Acc tab (enter s c) ws → Cut s c ws (length ws)
  enters s c p ws a =
      ⊎_elim (λ l. from_first s c ws p l) (λ r. from_gate s c ws (nullable s) (empty s ws) r)
      (acc_cases tab (into (first s)) (gate (nullable s) c) ws a)

  -- after the body of a repeated group: once more, where the turns from there on are in hand
  round : (b s : Shape) (c : Entry) (ws rest : List ℕ) (m : ℕ) → Spans b ws rest → length rest ≤ m → Acc tab (into (first b)) rest
      → ((q : ℕ) (vs : List ℕ) → length vs < m → has (first b) q → Acc tab (tab q) vs → Cut (rep b s) c (q ∷ vs) (length vs))
      → Cut (rep b s) c ws m
  round b s c ws [] m d l a rec = absurd a
  round b s c ws (q ∷ vs) m d l a rec =
      let k = rec q vs (omega arith) a.0 a.1 in
      let h = k.short in
      record { rest = k.rest; spans = more d k.spans; goes = k.goes; short = omega arith }

  -- or the last time
  leave : (b s : Shape) (c : Entry) (ws rest : List ℕ) (m : ℕ) → Spans b ws rest → length rest ≤ m → Cut s c rest (length rest) → Cut (rep b s) c ws m
  leave b s c ws rest m d l k =
      let h = k.short in
      record { rest = k.rest; spans = last d k.spans; goes = k.goes; short = omega arith }

  turn : (b s : Shape) (c : Entry) → Proper s c → (ws : List ℕ) (m : ℕ) → Cut b (again b (enter s c)) ws m
      → ((q : ℕ) (vs : List ℕ) → length vs < m → has (first b) q → Acc tab (tab q) vs → Cut (rep b s) c (q ∷ vs) (length vs))
      → Cut (rep b s) c ws m
  turn b s c ps ws m k rec =
      ⊎_elim (λ l. round b s c ws k.rest m k.spans k.short l rec)
      (λ r. leave b s c ws k.rest m k.spans k.short (enters s c ps k.rest r))
      (acc_cases tab (into (first b)) (enter s c) k.rest k.goes)

  -- the turns of a repeated group: m bounds how many are left
  turns : (b s : Shape) (c : Entry) → Proper b (again b (enter s c)) → Proper s c → (m q : ℕ) (vs : List ℕ) → length vs ≤ m
      → has (first b) q → Acc tab (tab q) vs → Cut (rep b s) c (q ∷ vs) (length vs)
  unfolding Proper
  turns b s c pb ps zero q vs l h a =
      turn b s c ps (q ∷ vs) (length vs) (pb q vs h a) (λ q' vs' l' h' a'. absurd (omega arith))
  turns b s c pb ps (suc m) q vs l h a =
      turn b s c ps (q ∷ vs) (length vs) (pb q vs h a) (λ q' vs' l' h' a'. turns b s c pb ps m q' vs' (omega arith) h' a')

  -- a repeated group whose body is empty, and then the rest
  hollow : (b s : Shape) (c : Entry) (n : Bool) → (T n → (ws : List ℕ) → Spans b ws ws) → Proper s c
      → (q : ℕ) (vs : List ℕ) → has (only n (first s)) q → Acc tab (tab q) vs → Cut (rep b s) c (q ∷ vs) (length vs)
  unfolding Proper
  hollow b s c true e ps q vs h a =
      let k = ps q vs h a in
      record { rest = k.rest; spans = last (e tt (q ∷ vs)) k.spans; goes = k.goes; short = k.short }
  hollow b s c false e ps q vs h a = absurd (has_zero q h)

  -- an optional group that is there, and then the rest
  group : (b s : Shape) (c : Entry) (ws : List ℕ) (m : ℕ) → Proper s c → Cut b (enter s c) ws m → Cut (opt b s) c ws m
  group b s c ws m ps k =
      let e = enters s c ps k.rest k.goes in
      let h = e.short in
      let l = k.short in
      record { rest = e.rest; spans = once k.spans e.spans; goes = e.goes; short = omega arith }

  past_group : (b s : Shape) (c : Entry) (ws : List ℕ) (m : ℕ) → Cut s c ws m → Cut (opt b s) c ws m
  past_group b s c ws m k = record { rest = k.rest; spans = skip k.spans; goes = k.goes; short = k.short }

  proper : (s : Shape) (c : Entry) → Fits tab s c → Proper s c
  unfolding Proper
  proper end c f q vs h a = absurd (has_zero q h)
  proper (seg n s) c f q vs h a =
      let e = one_has n q h in
      let k = enters s c (proper s c f.1) vs (subst (λ (e : Entry). Acc tab e vs) (ap tab e ∙ f.0) a) in
      record { rest = k.rest; spans = subst (λ (x : ℕ). Spans (seg n s) (x ∷ vs) k.rest) (sym e) (stand k.spans); goes = k.goes; short = k.short }
  proper (opt b s) c f q vs h a =
      ⊎_elim (λ l. group b s c (q ∷ vs) (length vs) (proper s c f.1) (proper b (enter s c) f.0 q vs l a))
      (λ r. past_group b s c (q ∷ vs) (length vs) (proper s c f.1 q vs r a))
      (or_cases (first b) (first s) q h)
  proper (rep b s) c f q vs h a =
      ⊎_elim (λ l. turns b s c (proper b (again b (enter s c)) f.0) (proper s c f.1) (length vs) q vs (omega arith) l a)
      (λ r. hollow b s c (nullable b) (λ t ws. empty b ws t) (proper s c f.1) q vs r a)
      (or_cases (first b) (only (nullable b) (first s)) q h)

  -- what goes from set to set is spanned by the structure, up to a rest that goes on from c
  pub sound : (s : Shape) (c : Entry) → Fits tab s c → (ws : List ℕ) → Acc tab (enter s c) ws → Cut s c ws (length ws)
  sound s c f ws a = enters s c (proper s c f) ws a

-- every structure yields something
pub some : (s : Shape) (us : List ℕ) → (ws : List ℕ) × Spans s ws us
some end us = (us, ended)
some (seg n s) us = let k = some s us in (n ∷ k.0, stand k.1)
some (opt b s) us = let k = some s us in (k.0, skip k.1)
some (rep b s) us = let k = some s us in let j = some b k.0 in (j.0, last j.1 k.1)

-- p is the label of a segment of s
abbrev pub Label : Shape → ℕ → Type 0
Label end p = ⊥
Label (seg n s) p = (p ≡ n) ⊎ Label s p
Label (opt b s) p = Label b p ⊎ Label s p
Label (rep b s) p = Label b p ⊎ Label s p

pub first_label : (s : Shape) (q : ℕ) → has (first s) q → Label s q
first_label end q h = has_zero q h
first_label (seg n s) q h = inl (one_has n q h)
first_label (opt b s) q h = ⊎_elim (λ l. inl (first_label b q l)) (λ r. inr (first_label s q r)) (or_cases (first b) (first s) q h)
first_label (rep b s) q h = ⊎_elim (λ l. inl (first_label b q l)) (λ r. inr (pick (nullable b) (first_label s q) r)) (or_cases (first b) (only (nullable b) (first s)) q h)
  where
    pick : (n : Bool) → (has (first s) q → Label s q) → has (only n (first s)) q → Label s q
    pick true f r = f r
    pick false f r = absurd (has_zero q r)

pub enter_label : (s : Shape) (c : Entry) (q : ℕ) → has (enter s c).next q → Label s q ⊎ has c.next q
enter_label s c q h = ⊎_elim (λ l. inl (first_label s q l)) (λ r. inr (pick (nullable s) r)) (or_cases (first s) (gate (nullable s) c).next q h)
  where
    pick : (n : Bool) → has (gate n c).next q → has c.next q
    pick true r = r
    pick false r = absurd (has_zero q r)

module _ (tab : ℕ → Entry) where
  -- from every place the message can be completed
  pub live : (s : Shape) (c : Entry) → Fits tab s c → (us : List ℕ) → Acc tab c us → (p : ℕ) → Label s p → (ws : List ℕ) × Acc tab (tab p) ws
  live end c f us a p l = absurd l
  live (seg n s) c f us a p (inl e) =
      let k = some s us in
      (k.0, subst (λ (e : Entry). Acc tab e k.0) (sym (ap tab e ∙ f.0)) (complete tab k.1 c f.1 a))
  live (seg n s) c f us a p (inr l) = live s c f.1 us a p l
  live (opt b s) c f us a p (inl l) =
      let k = some s us in
      live b (enter s c) f.0 k.0 (complete tab k.1 c f.1 a) p l
  live (opt b s) c f us a p (inr l) = live s c f.1 us a p l
  live (rep b s) c f us a p (inl l) =
      let k = some s us in
      live b (again b (enter s c)) f.0 k.0 (acc_right tab (into (first b)) (enter s c) k.0 (complete tab k.1 c f.1 a)) p l
  live (rep b s) c f us a p (inr l) = live s c f.1 us a p l

  -- what comes next after a place is a place, or comes next after the structure
  pub next_label : (s : Shape) (c : Entry) → Fits tab s c → (p q : ℕ) → Label s p → has (tab p).next q → Label s q ⊎ has c.next q
  next_label end c f p q l h = absurd l
  next_label (seg n s) c f p q (inl e) h =
      ⊎_elim (λ x. inl (inr x)) (λ x. inr x) (enter_label s c q (subst (λ (e : Entry). has e.next q) (ap tab e ∙ f.0) h))
  next_label (seg n s) c f p q (inr l) h = ⊎_elim (λ x. inl (inr x)) (λ x. inr x) (next_label s c f.1 p q l h)
  next_label (opt b s) c f p q (inl l) h =
      ⊎_elim (λ x. inl (inl x)) (λ x. ⊎_elim (λ y. inl (inr y)) (λ y. inr y) (enter_label s c q x)) (next_label b (enter s c) f.0 p q l h)
  next_label (opt b s) c f p q (inr l) h = ⊎_elim (λ x. inl (inr x)) (λ x. inr x) (next_label s c f.1 p q l h)
  next_label (rep b s) c f p q (inl l) h =
      ⊎_elim (λ x. inl (inl x))
      (λ x. ⊎_elim (λ y. inl (inl (first_label b q y))) (λ y. ⊎_elim (λ z. inl (inr z)) (λ z. inr z) (enter_label s c q y))
      (or_cases (first b) (enter s c).next q x))
      (next_label b (again b (enter s c)) f.0 p q l h)
  next_label (rep b s) c f p q (inr l) h = ⊎_elim (λ x. inl (inr x)) (λ x. inr x) (next_label s c f.1 p q l h)
