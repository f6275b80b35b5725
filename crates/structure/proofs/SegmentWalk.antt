-- The names of the segments from a place of a message on, as a walk meets them, and one turn of the walk over them, on its way or stuck. Assumes nothing.
use mathlib.Core.Path.{◌≡◌, refl, sym, ap, ◌∙◌}
use mathlib.Core.Bool.{true, false}
use mathlib.Core.List.{List, [], ◌∷◌, map}
use Prim.Native.Nat.{ℕ, ◌+◌, ◌-◌, ◌≤◌, ◌<◌}
use lib.ListN.{length, take, drop}
use Rattle.std.specs.Prelude.{Ok, Err}
use Rattle.std.specs.Result.{is_err}
use Rattle.alphabet.proofs.BoolLaws.{false_true}
use Rattle.alphabet.specs.Bytes.{carriage_return}
use Rattle.alphabet.specs.Lists.{find}
use Rattle.alphabet.specs.Parts.{split}
use Rattle.reading.specs.Segments.{all_but_last, segments, name_of}
use Rattle.reading.proofs.SegmentLaws.{segments_walk, segments_over}
use Rattle.structure.specs.SegmentNames.{segment_names, passed_over}
use Rattle.structure.specs.Engine.{Entry, entry, stepped, stuck_at, misplaced, early, ended_with, walked, Course, resumed}
use Rattle.structure.specs.declared.walking.Next.{Next}
use Rattle.structure.specs.declared.walking.Stuck.{Stuck}
use Rattle.structure.specs.declared.walking.Stop.TheVariants.{Misplaced}

-- the names from `start` on
abbrev pub names_from : List ℕ → ℕ → List ℕ
names_from m start = map name_of (all_but_last (split carriage_return (drop start m)))

pub names_all : (m : List ℕ) → segment_names m ≡ names_from m 0
unfolding segment_names segments
names_all m = refl

pub names_walk : (m : List ℕ) (start end : ℕ) → end ≡ start + find carriage_return (drop start m) → end < length m
    → names_from m start ≡ name_of (take (end - start) (drop start m)) ∷ names_from m (end + 1)
names_walk m start end e h = ap (map name_of) (segments_walk m start end e h)

pub names_over : (m : List ℕ) (start : ℕ) → length m ≤ start + find carriage_return (drop start m) → names_from m start ≡ []
names_over m start h = ap (map name_of) (segments_over m start h)

-- ---- one turn

module _ (ns follow : List ℕ) (last : ℕ) (e : Entry) (i : ℕ) (n : ℕ) (l : List ℕ) where
  walked_over : passed_over ns n ≡ true → walked ns follow last e i (n ∷ l) ≡ walked ns follow last e (i + 1) l
  unfolding walked
  walked_over p = rw p

  module _ (p : passed_over ns n ≡ false) where
    walked_stuck : stuck_at (stepped ns follow last e.next n) ≡ true → walked ns follow last e i (n ∷ l) ≡ misplaced i e.next e.ends
    unfolding walked
    walked_stuck q = rw p (rw q)

    walked_on : stuck_at (stepped ns follow last e.next n) ≡ false → walked ns follow last e i (n ∷ l) ≡ walked ns follow last (stepped ns follow last e.next n) (i + 1) l
    unfolding walked
    walked_on q = rw p (rw q)

module _ (ns follow : List ℕ) (last : ℕ) {c : Course} where
  -- a walk that is stuck stays so, whatever comes
  pub stuck_stays : {d : Course} → d ≡ c → is_err c ≡ true → (i j : ℕ) (l k : List ℕ) → resumed ns follow last d i l ≡ resumed ns follow last c j k
  stuck_stays e h i j l k = ap (λ (x : Course). resumed ns follow last x i l) e ∙ at c h
    where
      at : (x : Course) → is_err x ≡ true → resumed ns follow last x i l ≡ resumed ns follow last x j k
      at (Ok next) q = absurd (false_true q)
      at (Err stuck) q = refl

  pub stuck_comes_to : {stuck : Stuck} → c ≡ Err stuck → (i : ℕ) (l : List ℕ) → resumed ns follow last c i l ≡ Err (Misplaced stuck)
  stuck_comes_to e i l = rw e

  -- a walk on its way
  module _ {next : Next} (g : c ≡ Ok next) (i : ℕ) where
    on_its_way : (l : List ℕ) → resumed ns follow last c i l ≡ walked ns follow last (entry next.places next.ends) i l
    on_its_way l = ap (λ (x : Course). resumed ns follow last x i l) g

    pub comes_to_end : next.ends ≡ true → resumed ns follow last c i [] ≡ Ok tt
    unfolding walked ended_with
    comes_to_end e = on_its_way [] ∙ rw e

    pub ends_early : next.ends ≡ false → resumed ns follow last c i [] ≡ early i next.places
    unfolding walked ended_with
    ends_early e = on_its_way [] ∙ rw e

    module _ (n : ℕ) (l : List ℕ) where
      pub passes_over : passed_over ns n ≡ true → walked ns follow last (entry next.places next.ends) (i + 1) l ≡ resumed ns follow last c i (n ∷ l)
      passes_over p = sym (on_its_way (n ∷ l) ∙ walked_over ns follow last (entry next.places next.ends) i n l p)

      module _ (p : passed_over ns n ≡ false) {e : Entry} (s : e ≡ stepped ns follow last next.places n) where
        pub gets_stuck : stuck_at e ≡ true → misplaced i next.places next.ends ≡ resumed ns follow last c i (n ∷ l)
        gets_stuck q = sym (on_its_way (n ∷ l) ∙ walked_stuck ns follow last (entry next.places next.ends) i n l p (ap stuck_at (sym s) ∙ q))

        pub goes_on : stuck_at e ≡ false → walked ns follow last e (i + 1) l ≡ resumed ns follow last c i (n ∷ l)
        goes_on q = sym (on_its_way (n ∷ l) ∙ walked_on ns follow last (entry next.places next.ends) i n l p (ap stuck_at (sym s) ∙ q) ∙ ap (λ (x : Entry). walked ns follow last x (i + 1) l) (sym s))
