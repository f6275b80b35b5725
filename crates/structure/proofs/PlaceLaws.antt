-- Places and names: filling places, and reading off their names, yields just what the structure yields. Assumes nothing.
use mathlib.Core.Path.{◌≡◌, refl, sym, ap, ap₂, ◌∙◌, subst}
use mathlib.Core.Logic.{◌↔◌}
use mathlib.Core.List.{List, [], ◌∷◌, ◌++◌, map}
use Prim.Native.Nat.{ℕ, suc, ◌+◌, ◌<◌}
use native.Mathlib.Nat.{zero-add, add-zero, add-suc, suc-add, add_assoc}
use native.Mathlib.Omega.{arith}
use lib.ListN.{length, get_or, length-append, get_or-append}
use lib.Seq.{get_or-append-add}
use Rattle.structure.specs.Shapes.{Shape, Spans, Yields, Fills, names, size, name_at, numbered}
use Rattle.structure.specs.Shapes.Shape.{end, seg, opt, rep}
use Rattle.structure.specs.Shapes.Spans.{ended, stand, skip, once, last, more}

-- after the names ns, the message could end
abbrev pub CouldEnd : Shape → List ℕ → Type 0
CouldEnd s ns = (ps : List ℕ) × (map (name_at s) ps ≡ ns) × Fills s ps

-- each label replaced
abbrev relabel : (ℕ → ℕ) → Shape → Shape
relabel f end = end
relabel f (seg n s) = seg (f n) (relabel f s)
relabel f (opt b s) = opt (relabel f b) (relabel f s)
relabel f (rep b s) = rep (relabel f b) (relabel f s)

spans_map : (f : ℕ → ℕ) {s : Shape} {ps qs : List ℕ} → Spans s ps qs → Spans (relabel f s) (map f ps) (map f qs)
spans_map f ended = ended
spans_map f (stand d) = stand (spans_map f d)
spans_map f (skip d) = skip (spans_map f d)
spans_map f (once d e) = once (spans_map f d) (spans_map f e)
spans_map f (last d e) = last (spans_map f d) (spans_map f e)
spans_map f (more d e) = more (spans_map f d) (spans_map f e)

pub size_is : (s : Shape) → size s ≡ length (names s)
size_is end = refl
size_is (seg n s) = ap suc (size_is s)
size_is (opt b s) = ap₂ (λ (x y : ℕ). x + y) (size_is b) (size_is s) ∙ sym (length-append (names b) (names s))
size_is (rep b s) = ap₂ (λ (x y : ℕ). x + y) (size_is b) (size_is s) ∙ sym (length-append (names b) (names s))

-- f gives the names of the places from k on
Reads : (ℕ → ℕ) → ℕ → List ℕ → Type 0
Reads f k ns = (i : ℕ) → i < length ns → f (k + i) ≡ get_or ns i 0

reads_left : (f : ℕ → ℕ) (k : ℕ) (b s : Shape) → Reads f k (names b ++ names s) → Reads f k (names b)
unfolding Reads
reads_left f k b s h i l = h i (rw length-append (omega arith)) ∙ get_or-append (names b) (names s) 0 i l

reads_right : (f : ℕ → ℕ) (k : ℕ) (b s : Shape) → Reads f k (names b ++ names s) → Reads f (k + size b) (names s)
unfolding Reads
reads_right f k b s h i l =
    ap f (add_assoc k (size b) i) ∙ ap (λ (x : ℕ). f (k + (x + i))) (size_is b)
    ∙ h (length (names b) + i) (rw length-append (omega arith)) ∙ get_or-append-add (names b) (names s) i 0

named : (f : ℕ → ℕ) (s : Shape) (k : ℕ) → Reads f k (names s) → relabel f (numbered k s) ≡ s
unfolding Reads
named f end k h = refl
named f (seg n s) k h =
    ap₂ seg (ap f (sym (add-zero k)) ∙ h 0 (omega arith))
    (named f s (suc k) (λ i l. ap f (suc-add k i ∙ sym (add-suc k i)) ∙ h (suc i) (omega arith)))
named f (opt b s) k h = ap₂ opt (named f b k (reads_left f k b s h)) (named f s (k + size b) (reads_right f k b s h))
named f (rep b s) k h = ap₂ rep (named f b k (reads_left f k b s h)) (named f s (k + size b) (reads_right f k b s h))

pub relabelled : (s : Shape) → relabel (name_at s) (numbered 0 s) ≡ s
unfolding Reads
relabelled s = named (name_at s) s 0 (λ i l. ap (name_at s) (zero-add i))

-- what a relabelled structure spans comes from what the structure spans
Back : (ℕ → ℕ) → Shape → List ℕ → List ℕ → Type 0
Back f t ns qs = (ps : List ℕ) × Spans t ps qs × (map f ps ≡ ns)

Backs : (ℕ → ℕ) → Shape → Shape → Type 0
Backs f s t = (ns ms : List ℕ) → Spans s ns ms → (qs : List ℕ) → map f qs ≡ ms → Back f t ns qs

back_rep : (f : ℕ → ℕ) {b' s' : Shape} (b s : Shape) → Backs f b' b → Backs f s' s → {ns ms : List ℕ} → Spans (rep b' s') ns ms → (qs : List ℕ) → map f qs ≡ ms → Back f (rep b s) ns qs
unfolding Back Backs
back_rep f b s hb hs (last {ws = ws} {vs = vs} {us = us} d e) qs q =
    let k = hs vs us e qs q in
    let j = hb ws vs d k.0 k.2 in
    (j.0, last j.1 k.1, j.2)
back_rep f b s hb hs (more {ws = ws} {vs = vs} {us = us} d e) qs q =
    let k = back_rep f b s hb hs e qs q in
    let j = hb ws vs d k.0 k.2 in
    (j.0, more j.1 k.1, j.2)

back_seg : (f : ℕ → ℕ) {s' : Shape} (n : ℕ) (s : Shape) → Backs f s' s → {ns ms : List ℕ} → Spans (seg (f n) s') ns ms → (qs : List ℕ) → map f qs ≡ ms → Back f (seg n s) ns qs
unfolding Back Backs
back_seg f n s hs (stand {ws = ws} {us = us} d) qs q =
    let k = hs ws us d qs q in
    (n ∷ k.0, stand k.1, ap (λ (l : List ℕ). f n ∷ l) k.2)

back_opt : (f : ℕ → ℕ) {b' s' : Shape} (b s : Shape) → Backs f b' b → Backs f s' s → {ns ms : List ℕ} → Spans (opt b' s') ns ms → (qs : List ℕ) → map f qs ≡ ms → Back f (opt b s) ns qs
unfolding Back Backs
back_opt f b s hb hs (skip {ws = ws} {us = us} d) qs q =
    let k = hs ws us d qs q in
    (k.0, skip k.1, k.2)
back_opt f b s hb hs (once {ws = ws} {vs = vs} {us = us} d e) qs q =
    let k = hs vs us e qs q in
    let j = hb ws vs d k.0 k.2 in
    (j.0, once j.1 k.1, j.2)

back_end : (f : ℕ → ℕ) {ns ms : List ℕ} → Spans end ns ms → (qs : List ℕ) → map f qs ≡ ms → Back f end ns qs
unfolding Back
back_end f ended qs q = (qs, ended, q)

backs : (f : ℕ → ℕ) (t : Shape) → Backs f (relabel f t) t
unfolding Backs
backs f end ns ms d qs q = back_end f d qs q
backs f (seg n s) ns ms d qs q = back_seg f n s (backs f s) d qs q
backs f (opt b s) ns ms d qs q = back_opt f b s (backs f b) (backs f s) d qs q
backs f (rep b s) ns ms d qs q = back_rep f b s (backs f b) (backs f s) d qs q

-- to yield names is to fill places of those names
pub yields_is : (s : Shape) (ns : List ℕ) → Yields s ns ↔ CouldEnd s ns
unfolding Back Backs
yields_is s ns = (
  λ y. let k = backs (name_at s) (numbered 0 s) ns [] (subst (λ (t : Shape). Spans t ns []) (sym (relabelled s)) y) [] refl in (k.0, k.2, k.1),
  λ c. subst (λ (l : List ℕ). Spans s l []) c.1 (subst (λ (t : Shape). Spans t (map (name_at s) c.0) []) (relabelled s) (spans_map (name_at s) c.2)),
)
