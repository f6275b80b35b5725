-- Laws of a word that a family knows. Assumes nothing.
use Prim.Native.Nat.{ℕ}
use mathlib.Core.Path.{◌≡◌, sym, ap, subst, ◌∙◌}
use mathlib.Core.Bool.{Bool, true, false}
use mathlib.Core.List.{List}
use Rattle.std.specs.Prelude.{Option, Some, None}
use Rattle.alphabet.specs.Lists.{same}
use Rattle.alphabet.proofs.BoolLaws.{false_true}
use Rattle.alphabet.proofs.ListLaws.{same_is, same_own}
use Rattle.questions.specs.Verbs.{Verb}

-- a word that is the same as a verb is one
pub same_verb : {X : Type 0} {word verb : List ℕ} {found : Bool} → Verb verb → found ≡ same word verb → found ≡ true → (Verb word → ⊥) → X
same_verb {word = word} {verb = verb} v s t n = absurd (n (subst Verb (sym (same_is word verb (sym s ∙ t))) v))

-- one that is not the same is another
pub other_verb : {X : Type 0} {word verb : List ℕ} {found : Bool} → found ≡ same word verb → found ≡ false → word ≡ verb → X
other_verb {verb = verb} s f e = false_true (sym f ∙ s ∙ ap (λ w. same w verb) e ∙ same_own verb)

-- a word that means something to a family whose verbs are verbs is a verb
pub of_family : {X M Own : Type 0} {word : List ℕ} {meaning : Option M} {m : M} → (Own → Verb word) → ((Own → ⊥) → meaning ≡ None) → meaning ≡ Some m → (Verb word → ⊥) → X
of_family i u k n = let e = u (λ v. n (i v)) in cc
