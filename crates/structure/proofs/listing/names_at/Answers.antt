-- Rests on the laws of the listing: the names of the places before this one are listed, each once, at each turn.
use mathlib.Core.Path.{◌≡◌, sym, ap, ◌∙◌}
use mathlib.Core.Bool.{Bool, not, ◌&&◌}
use Prim.Native.Nat.{◌/◌, ◌^◌}
use lib.Bits.{bit_and}
use lib.Dec.{eqb}
use lib.ListN.{length, get_or, take}
use native.Mathlib.Omega.{arith}
use Rattle.fault.specs.Faults.{name_list}
use Rattle.fault.specs.declared.Names.{Names}
use Rattle.fault.proofs.NameLists.{filled_front}
use Rattle.structure.specs.SegmentNames.{among}
use Rattle.structure.specs.Engine.{listing}
use Rattle.structure.proofs.ListingLaws.{listing_short, listing_taken, listing_passed, listing_none}
use Rattle.structure.proofs.listing.names_at.Goals.{After-is_among-known, then-places-place, else-places-place}
use Rattle.structure.proofs.listing.names_at.Goals as goal

pub loop-place-init : goal.loop-place-init
loop-place-init c = c.none-listed.ensures ∙ ap name_list (sym (listing_none c.args.names.now c.args.places))

-- what was asked: whether the name is among those so far
known : (c : After-is_among-known)
    → let a = c.args in
    c.is_among-known.result ≡ among (get_or a.names.now c.loop-place.place 0) (listing a.names.now a.places c.loop-place.place)
known c =
    let a = c.args in
    let so_far = listing a.names.now a.places c.loop-place.place in
    let front = c.as_slice.ensures ∙ ap (λ (x : Names). take x.count x.list) c.loop-place.invariant ∙ filled_front so_far in
    c.is_among-known.ensures ∙ ap (among (get_or a.names.now c.loop-place.place 0)) front

-- whether it is listed
asked : (c : After-is_among-known) (t : Bool)
    → let a = c.args in
    (eqb (bit_and (a.places / 2 ^ c.loop-place.place) 1) 1 && not c.is_among-known.result) ≡ t
    → (eqb (bit_and (a.places / 2 ^ c.loop-place.place) 1) 1 && not (among (get_or a.names.now c.loop-place.place 0) (listing a.names.now a.places c.loop-place.place))) ≡ t
asked c t e = ap (λ (k : Bool). eqb (bit_and (c.args.places / 2 ^ c.loop-place.place) 1) 1 && not k) (sym (known c)) ∙ e

pub push-requires : goal.push-requires
push-requires c =
    let a = c.args in
    let n : c.loop-place.listed.count ≡ length (listing a.names.now a.places c.loop-place.place) = ap (λ (x : Names). x.count) c.loop-place.invariant in
    let s = listing_short a.names.now a.places c.loop-place.place in
    let h = c.loop-place-test.true in
    let m = c.requires in
    omega arith

pub loop-place-preserved : goal.loop-place-preserved
loop-place-preserved c =
    let a = c.args in
    let p = c.loop-place.place in
    elim c.if-places-place.branch [
      | then-places-place w ↦ w.listed-is ∙ w.push.ensures (listing a.names.now a.places p) c.loop-place.invariant
          ∙ ap name_list (sym (listing_taken a.names.now a.places p (asked (goal.at.loop-place-preserved c).After-is_among-known _ w.if-places-place.true)))
      | else-places-place w ↦ w.listed-is ∙ c.loop-place.invariant
          ∙ ap name_list (sym (listing_passed a.names.now a.places p (asked (goal.at.loop-place-preserved c).After-is_among-known _ w.if-places-place.false)))
    ]
