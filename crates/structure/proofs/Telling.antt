-- What a walk comes to, told as a judgement: each case of the walk is a case of `Judged`. Assumes nothing.
use mathlib.Core.Path.{◌≡◌, refl, sym, ap, subst}
use mathlib.Core.Bool.{Bool, false}
use mathlib.Core.List.{List}
use Prim.Native.Nat.{ℕ}
use native.Mathlib.Omega.{arith}
use lib.ListN.{length}
use Rattle.std.specs.Prelude.{Ok, Err}
use Rattle.std.specs.Result.{MatchResult, IsErrAnd}
use borrow.Author.Tests.{lt-ltb, le-ltb}
use Rattle.alphabet.specs.declared.answers.Refusal.{Refusal}
use Rattle.alphabet.specs.declared.answers.Refusal.TheVariants.{SegmentMisplaced, EndedEarly}
use Rattle.structure.specs.Shapes.{Shape, names}
use Rattle.structure.specs.Judged.{Refused, refused_as, Judged, accepted, refused}
use Rattle.structure.specs.Engine.{Entry, Walked, walked, listing, Tables, recorded, Tells}
use Rattle.structure.specs.declared.walking.Stop.{Stop}
use Rattle.structure.specs.declared.walking.Stop.TheVariants.{Misplaced, Early}
use Rattle.fault.specs.Faults.{Judgement, at_place}
use Rattle.fault.specs.declared.FaultRecord.{FaultRecord}
use Rattle.structure.proofs.WalkLaws.{Walks, walk_is}

module _ (s : Shape) (ns follow : List ℕ) (last : ℕ) (begin : Entry) (t : Tables s ns follow last begin) (all : List ℕ) where
  -- the walk's own case
  came_to : (w : Walked) → w ≡ walked ns follow last begin 0 all → Walks s follow last t.fits all w
  came_to w e = subst (Walks s follow last t.fits all) (sym e) (walk_is s ns follow last begin t all)

  abbrev listed : ℕ → List ℕ
  listed places = listing ns places (length ns)

  listed_is : (places : ℕ) → listing (names s) places (length (names s)) ≡ listed places
  listed_is places = ap (λ (x : List ℕ). listing x places (length x)) (sym t.named)

  -- refused, of a kind that is the place's
  told_as : (place places : ℕ) (ends : Bool) (kind : Refusal) → (refused_as (length all) place ends (listed places)).kind ≡ kind → Refused s all place ends (listing (names s) places (length (names s)))
      → Judged s all (Err (at_place kind place ends (listed places)))
  told_as place places ends kind k r =
      subst (λ (x : Refusal). Judged s all (Err (at_place x place ends (listed places)))) k
      (refused place ends (listed places) (subst (Refused s all place ends) (listed_is places) r))

  -- why the walk stopped, as it is recorded
  pub told_stop : (stop : Stop) → Err stop ≡ walked ns follow last begin 0 all → Judged s all (Err (recorded stop ns))
  told_stop (Misplaced stuck) e =
      let c = came_to (Err (Misplaced stuck)) e in
      told_as stuck.place stuck.next.places stuck.next.ends SegmentMisplaced (rw (lt-ltb stuck.place (length all) c.0)) c.1
  told_stop (Early place places) e =
      let c = came_to (Err (Early place places)) e in
      let p = c.0 in
      told_as place places false EndedEarly (rw (le-ltb place (length all) (omega arith))) c.1

  pub told_accepted : Ok tt ≡ walked ns follow last begin 0 all → Judged s all (Ok tt)
  told_accepted e = accepted (came_to (Ok tt) e)

-- what a walk came to, with the record of why it stopped in place of that
pub told : (w : Walked) (ns : List ℕ) (r : Judgement) → MatchResult w (λ x. r ≡ Ok x) (λ (e : Stop). IsErrAnd r (λ (x : FaultRecord). x ≡ recorded e ns)) → Tells w ns r
told (Ok _) ns r m = record {
  judges = λ s follow last begin all t e. subst (Judged s all) (sym m) (told_accepted s ns follow last begin t all e);
  refuses = λ k. refl;
}
told (Err stop) ns (Ok _) m = absurd m
told (Err stop) ns (Err x) m = record {
  judges = λ s follow last begin all t e. subst (λ (y : FaultRecord). Judged s all (Err y)) (sym m) (told_stop s ns follow last begin t all stop e);
  refuses = λ k. absurd (let z : ◌≡◌ {A = ℕ} 0 1 = cc in omega arith);
}
