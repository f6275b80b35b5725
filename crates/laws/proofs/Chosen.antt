-- Which structure a type chooses, line by line of document 01, and what is answered where a message was not read or its type is not listed. Assumes nothing.
use mathlib.Core.Path.{◌≡◌, refl, sym, ap, subst, ◌∙◌}
use mathlib.Core.Logic.{◌↔◌}
use mathlib.Core.Bool.{Bool, true, false, cond}
use mathlib.Core.List.{List}
use Prim.Native.Nat.{ℕ}
use native.Mathlib.Omega.{arith}
use Rattle.alphabet.proofs.CheckLaws.{fails_same}
use Rattle.std.specs.Prelude.{Err}
use Rattle.alphabet.specs.Answers.{passes, fails}
use Rattle.alphabet.specs.Bytes.{ascii}
use Rattle.alphabet.specs.Lists.{same}
use Rattle.alphabet.specs.declared.answers.Refusal.{Refusal}
use Rattle.alphabet.specs.declared.answers.Refusal.TheVariants.{NoStructure}
use Rattle.alphabet.proofs.BoolLaws.{and_both}
use Rattle.alphabet.proofs.ListLaws.{same_is, same_own}
use Rattle.reading.specs.Reading.{reading}
use Rattle.element.specs.Finding.{found, lookup_check, raw_bytes}
use Rattle.element.specs.declared.address.Address.{Address}
use Rattle.structure.specs.Shapes.{Shape}
use Rattle.laws.specs.Types.{ListedAs, oru, acknowledged, merged, admitted, transferred, cancelled}
use Rattle.element.specs.Addresses.{type_address}
use Rattle.structure.specs.Structures.{ListedStructure, Choice, chosen, unlisted, meets, choose, structure_for, Lists, built_in, observation_report, acknowledgement, merge, admission, transfer, cancel}
use Rattle.fault.specs.Faults.{plain, Judgement}
use Rattle.structure.specs.Judged.{AnswersBy, unread, read, no_structure, by}

-- ---- the type chooses the structure that is listed for it, and no other

module _ (type event : List ℕ) where
  -- a row of the table, told of other bytes that are the same
  told : (a b : List ℕ) {s : Shape} → same type a ≡ true → same event b ≡ true → ListedAs a b s → ListedAs type event s
  told a b {s} e f r =
      subst (λ (x : List ℕ). ListedAs type x s) (sym (same_is event b f)) (subst (λ (x : List ℕ). ListedAs x b s) (sym (same_is type a e)) r)

  chosen_as : (x : ListedStructure) → choose built_in type event ≡ chosen x → ListedAs type event x.shape
  unfolding choose built_in
  chosen_as x =
      row observation_report _ (λ m. let b = and_both _ _ m in told (ascii "ORU") (ascii "R01") b.0 b.1 oru)
      (row acknowledgement _ (λ m. let b = and_both _ _ m in told (ascii "ACK") event b.0 (same_own event) (acknowledged event))
      (row merge _ (λ m. let b = and_both _ _ m in told (ascii "ADT") (ascii "A40") b.0 b.1 merged)
      (row admission _ (λ m. let b = and_both _ _ m in told (ascii "ADT") (ascii "A01") b.0 b.1 admitted)
      (row transfer _ (λ m. let b = and_both _ _ m in told (ascii "ADT") (ascii "A02") b.0 b.1 transferred)
      (row cancel _ (λ m. let b = and_both _ _ m in told (ascii "ADT") (ascii "A12") b.0 b.1 cancelled)
      (λ q. absurd (let z : ◌≡◌ {A = ℕ} 0 1 = cc in omega arith)))))))
    where
      row : (y : ListedStructure) (rest : Choice) → (meets type event y ≡ true → ListedAs type event y.shape)
          → (rest ≡ chosen x → ListedAs type event x.shape) → cond (meets type event y) (chosen y) rest ≡ chosen x → ListedAs type event x.shape
      row y rest f g = at (meets type event y) refl
        where
          at : (t : Bool) → meets type event y ≡ t → cond t (chosen y) rest ≡ chosen x → ListedAs type event x.shape
          at true m q = let e : y ≡ x = cc in subst (λ (z : ListedStructure). ListedAs type event z.shape) e (f m)
          at false m q = g q

is_chosen : {type event : List ℕ} {s : Shape} → ListedAs type event s → (x : ListedStructure) × (choose built_in type event ≡ chosen x) × (x.shape ≡ s)
unfolding choose built_in same
is_chosen oru = (observation_report, refl, refl)
is_chosen (acknowledged event) = (acknowledgement, refl, refl)
is_chosen merged = (merge, refl, refl)
is_chosen admitted = (admission, refl, refl)
is_chosen transferred = (transfer, refl, refl)
is_chosen cancelled = (cancel, refl, refl)

pub listed_exactly : (m : List ℕ) (s : Shape) → Lists built_in m s ↔ ListedAs (raw_bytes m (type_address 1)) (raw_bytes m (type_address 2)) s
unfolding structure_for
listed_exactly m s = (
  λ l. subst (ListedAs _ _) l.2 (chosen_as (raw_bytes m (type_address 1)) (raw_bytes m (type_address 2)) l.0 l.1),
  is_chosen,
)

-- ---- a message that was not read, and one whose type is not listed

pub find_unread : (m : List ℕ) (a : Address) (kind : Refusal) (place : ℕ) → reading m ≡ fails kind place
    → found m a ≡ fails kind place
unfolding found lookup_check
find_unread m a kind place e = rw e

pub judge_unread : (book : List ListedStructure) (m : List ℕ) (kind : Refusal) (place : ℕ) {j : Judgement} → reading m ≡ fails kind place → AnswersBy book m j
    → j ≡ Err (plain kind place)
judge_unread book m kind place e (unread k p f) =
    let g : fails k p ≡ fails kind place = sym f ∙ e in
    let same = fails_same g in
    ap (λ (x : Refusal). Err (plain x p)) same.0 ∙ ap (λ (n : ℕ). Err (plain kind n)) same.1
judge_unread book m kind place e (read f s) = absurd (let z : ◌≡◌ {A = ℕ} 0 1 = cc in omega arith)

pub judge_unlisted : (book : List ListedStructure) (m : List ℕ) {j : Judgement} → reading m ≡ passes → structure_for book m ≡ unlisted → AnswersBy book m j → j ≡ Err (plain NoStructure 0)
judge_unlisted book m e g (unread k p f) = absurd (let z : ◌≡◌ {A = ℕ} 0 1 = cc in omega arith)
judge_unlisted book m e g (read f (no_structure h)) = refl
judge_unlisted book m e g (read f (by s h k)) = absurd (let z : ◌≡◌ {A = ℕ} 0 1 = cc in omega arith)
