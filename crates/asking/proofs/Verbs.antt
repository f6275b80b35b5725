-- A law of a question's verb, for the verbs of any family. Assumes nothing.
use Prim.Native.Nat.{ℕ}
use mathlib.Core.Path.{◌≡◌, sym, subst}
use mathlib.Core.List.{List}
use lib.ListN.{length}
use Rattle.std.proofs.lemmas.Slice.Eq.{HasBytesAt, text_from_reads}

-- a word that has as many bytes as a verb, and the same, is one
pub same_verb : {X : Type 0} (Verb : List ℕ → Type 0) {word : List ℕ} (verb : List ℕ) → Verb verb → length word ≡ length verb → HasBytesAt word 0 verb → (Verb word → ⊥) → X
same_verb Verb {word = word} verb v s b n = absurd (n (subst Verb (sym (text_from_reads word verb s b)) v))
