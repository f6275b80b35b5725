-- A text of at most 200 bytes with no command, CR or LF, that does not end in a blank, comes out as it is. Rests on
-- formatting's SheetLaws.
use mathlib.Core.Path.{◌≡◌, refl, sym, ap, subst, ◌∙◌}
use mathlib.Core.List.{List, [], ◌∷◌, ◌++◌, map, append_assoc}
use mathlib.Core.Bool.{true}
use Prim.Native.Nat.{ℕ, ◌+◌, ◌≤◌}
use native.Mathlib.Omega.{arith}
use lib.ListN.{length, length-append}
use Rattle.alphabet.proofs.BoolLaws.{both_and}
use Rattle.format_commands.specs.Items.{byte}
use Rattle.formatting.specs.Sheet.{Sheet, at_first, Laid, then_laid, blanks, is_empty, shown, lead, put, end_word, moves, lines, written, lines_from, lines_of}
use Rattle.formatting.specs.Runs.{clear, firm, inked}
use Rattle.formatting.proofs.SheetLaws.{on, lead_at, content, end_some, snoc_some, Words, last, inner, blank, words_of, ink_moves, blank_moves, some_content, none_content, runs_words}

-- the lines of what was moved to
ended : (s t : Sheet) (p q : List ℕ) → moves s (map byte p) ≡ moves t (map byte q) → lines_from s (map byte p) ≡ lines_from t (map byte q)
unfolding lines_from
ended s t p q e = ap (λ (m : Laid). written (then_laid m end_word)) e

-- words on the first line
same_words : {p : List ℕ} → Words p → (l w : List ℕ) (o : ℕ) → length (content at_first l o (w ++ p)) ≤ 200 → lines_from (on at_first l o w) (map byte p) ≡ lines (content at_first l o (w ++ p))
unfolding lines_from moves is_empty put lead written shown inked clear firm
same_words (last b e) l w o h =
    ended (on at_first l o w) (on at_first l o (w ++ b ∷ [])) (b ∷ []) [] (ink_moves at_first (b ∷ []) l w o [] (both_and e refl))
    ∙ ap written (end_some (on at_first l o (w ++ b ∷ [])) (snoc_some w b) h)
same_words (inner {p} b e m) l w o h =
    let a = append_assoc w (b ∷ []) p in
    ended (on at_first l o w) (on at_first l o (w ++ b ∷ [])) (b ∷ p) p (ink_moves at_first (b ∷ []) l w o (map byte p) (both_and e refl))
    ∙ same_words m l (w ++ b ∷ []) o (subst (λ (v : List ℕ). length (content at_first l o v) ≤ 200) (sym a) h)
    ∙ ap (λ (v : List ℕ). lines (content at_first l o v)) a
same_words (blank {p} m) l [] o h =
    let a = none_content at_first l p o 1 in
    ended (on at_first l o []) (on at_first l (o + 1) []) (32 ∷ p) p (blank_moves at_first 1 l o (map byte p))
    ∙ same_words m l [] (o + 1) (subst (λ (v : List ℕ). length v ≤ 200) (sym a) h) ∙ ap lines a
same_words (blank {p} m) l (x ∷ w) o h =
    let v = (x ∷ w) ++ [] in
    let c = content at_first l o v in
    let a : content at_first c 1 p ≡ content at_first l o ((x ∷ w) ++ 32 ∷ p) = some_content at_first l v p o 1 refl ∙ ap (content at_first l o) (append_assoc (x ∷ w) [] (32 ∷ p)) in
    let n = length-append (l ++ blanks (lead_at at_first l o)) v in
    let k = length-append (l ++ blanks (lead_at at_first l o)) ((x ∷ w) ++ 32 ∷ p) in
    let i = length-append (x ∷ w) [] in
    let j = length-append (x ∷ w) (32 ∷ p) in
    ended (on at_first l o (x ∷ w)) (on at_first c 1 []) (32 ∷ p) p ((runs_words at_first [] l (x ∷ w) [] o 0 refl refl refl refl (omega arith)).moved (map byte p))
    ∙ same_words m c [] 1 (subst (λ (u : List ℕ). length u ≤ 200) (sym a) h) ∙ ap lines a

-- "Text of at most 200 bytes with no command, CR or LF, not ending in a blank, comes out as unescaping gives it"
pub laid_same : (t : List ℕ) → length t ≤ 200 → clear t ≡ true → firm t ≡ true → lines_of (map byte t) ≡ lines t
unfolding lines_from moves end_word is_empty written shown
laid_same [] h c f = refl
laid_same (b ∷ r) h c f = same_words (words_of (b ∷ r) refl c f) [] [] 0 h
