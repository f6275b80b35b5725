-- Laws of the verdict from its first check on: what the opening, the end and the rows of a structure come to. Assumes nothing.
use mathlib.Core.Path.{◌≡◌, subst}
use Prim.Native.Nat.{ℕ}
use mathlib.Core.List.{List}
use Rattle.std.specs.Prelude.{Some, None, Err}
use Rattle.alphabet.specs.Answers.{passes, fails}
use Rattle.alphabet.specs.declared.answers.Refusal.{Refusal}
use Rattle.reading.specs.Reading.{opening, end_check, segments_check, reading}
use Rattle.fault.specs.Faults.{Judgement, plain}
use Rattle.structure.specs.Shapes.{Shape}
use Rattle.structure.specs.Structures.{ListedStructure, Choice, structure_for}
use Rattle.structure.specs.Engine.{RowsAre, RowsOf}
use Rattle.structure.specs.OneWalk.{unlisted_answer}
use Rattle.structure.specs.declared.rows.Rows.{Rows}
use Rattle.structure.proofs.OneWalk.{opening_fails as opening_read, end_fails as end_read, left_to_read as read_on}
use Rattle.verdict.specs.Verdicts.{VerdictsBy}
use Rattle.verdict.specs.Walk.{Decides}
use Rattle.verdict.proofs.OneWalk.{unread_verdict, without_rows as no_rows, with_rows as some_rows}

module _ (book : List ListedStructure) (m : List ℕ) where
  pub opening_fails : {kind : Refusal} {place : ℕ} → opening m ≡ fails kind place → VerdictsBy book m (Err (plain kind place))
  opening_fails e = unread_verdict book m (opening_read m e)

  module _ (o : opening m ≡ passes) where
    pub end_fails : {kind : Refusal} {place : ℕ} → end_check m ≡ fails kind place → VerdictsBy book m (Err (plain kind place))
    end_fails e = unread_verdict book m (end_read m o e)

    module _ (d : end_check m ≡ passes) where
      left_to_read : reading m ≡ segments_check m
      left_to_read = read_on m o d

      -- by the rows of the structure that is chosen, or where there are none
      pub without_rows : (choice : Choice) → choice ≡ structure_for book m → RowsOf choice None → VerdictsBy book m (unlisted_answer (segments_check m))
      without_rows choice e h = no_rows book m left_to_read (subst (λ (x : Choice). RowsOf x None) e h)

      pub with_rows : (choice : Choice) (r : Rows) {j : Judgement} → choice ≡ structure_for book m → RowsOf choice (Some r) → ((s : Shape) → RowsAre s r → Decides s m j) → VerdictsBy book m j
      with_rows choice r e h judge = some_rows book m left_to_read r (subst (λ (x : Choice). RowsOf x (Some r)) e h) judge
