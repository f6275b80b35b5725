-- Laws of the pieces of an acknowledgement, of their room, and that together they are it. Assumes nothing.
use mathlib.Core.Path.{◌≡◌, refl, sym, ap, ◌∙◌}
use mathlib.Core.Bool.{Bool, true, false, cond, ◌&&◌}
use mathlib.Core.List.{List, [], ◌∷◌, ◌++◌, append_assoc, append-nil}
use Prim.Native.Nat.{ℕ, ◌≤◌, ◌<◌}
use native.Mathlib.Omega.{arith}
use lib.ListN.{length, get_or, take, drop, drop_of_length-le}
use lib.Seq.{take-length}
use lib.Dec.{leb, ltb, eqb}
use borrow.Author.Tests.{eqb-true, ne_eqb, le-leb, lt-leb}
use Rattle.alphabet.proofs.BoolLaws.{false_true, and_both}
use Rattle.alphabet.proofs.LimitLaws.{id_limit_small}
use Rattle.alphabet.proofs.ListLaws.{drop_next}
use Rattle.alphabet.proofs.HexLaws.{drop_two}
use Rattle.alphabet.specs.Bytes.{carriage_return, ascii, is_null}
use Rattle.alphabet.specs.Delimiters.{first_wrong_delimiter}
use Rattle.alphabet.specs.Limits.{message_limit, id_limit}
use Rattle.alphabet.specs.Lists.{first}
use Rattle.alphabet.specs.Parts.{join}
use Rattle.alphabet.specs.declared.answers.Refusal.TheVariants.{AcknowledgementTooLong, Delimiter, NoRoom}
use Rattle.alphabet.specs.Answers.{fails_if}
use Rattle.reading.specs.Segments.{is_header, delimiters_of, field_separator}
use Rattle.reading.specs.Message.{ended}
use Rattle.element.specs.States.{state_of}
use Rattle.plain.specs.Plain.{special}
use Rattle.escaping.specs.Escape.{escape_bytes, escape}
use Rattle.escaping.proofs.RunLaws.{bytes_run}
use Rattle.escaping.specs.Outcomes.{text, fault}
use Rattle.escaping.specs.Outcomes.{fitting, escaping}
use Rattle.escaping.proofs.OutcomeLaws.{escape_other, escape_most, escaping_goes}
use Rattle.acknowledgement.specs.Acknowledgement.{sent, type_part, present, encoding, type_sent, version, header_parts, answer_parts, acknowledgement, roomy}
use Rattle.together.specs.Together.{together, least}
use Rattle.together.proofs.PieceLaws.{least_both}
use Rattle.acknowledgement.specs.Fields.{pair, event}
use Rattle.acknowledgement.specs.Pieces.{event_mark, fixed_text, pieces}
use Rattle.acknowledgement_code.specs.declared.Code.{Code}
use Rattle.acknowledgement_code.specs.declared.Code.TheVariants.{Accept, Error, Reject}

-- ---- parts of the header

-- a part of one byte is that byte
pub one_byte : (l : List ℕ) (i : ℕ) → i < length l → take 1 (drop i l) ≡ get_or l i 0 ∷ []
one_byte l i h = ap (take 1) (drop_next l i h)

-- the front of a header is MSH and its delimiters
pub front_bytes : (h : List ℕ) → 8 ≤ length h → is_header h ≡ true → take 8 h ≡ ascii "MSH" ++ field_separator h ∷ encoding h
front_bytes h l is =
    let a = and_both (eqb (get_or h 0 0) 77) _ is in
    let b = and_both (eqb (get_or h 1 0) 83) _ a.1 in
    ap (take 8) (drop_two h 0 (omega arith))
    ∙ ap (λ (r : List ℕ). get_or h 0 0 ∷ get_or h 1 0 ∷ take 6 r) (drop_two h 2 (omega arith))
    ∙ ap (λ (r : List ℕ). get_or h 0 0 ∷ get_or h 1 0 ∷ get_or h 2 0 ∷ get_or h 3 0 ∷ take 4 r) (drop_two h 4 (omega arith))
    ∙ ap (λ (r : List ℕ). get_or h 0 0 ∷ get_or h 1 0 ∷ get_or h 2 0 ∷ get_or h 3 0 ∷ get_or h 4 0 ∷ get_or h 5 0 ∷ take 2 r) (drop_two h 6 (omega arith))
    ∙ (λ i. eqb-true (get_or h 0 0) 77 a.0 i ∷ eqb-true (get_or h 1 0) 83 b.0 i ∷ eqb-true (get_or h 2 0) 72 b.1 i ∷ field_separator h ∷ encoding h)

-- ---- room

and_false : (t : Bool) → (t && false) ≡ false
and_false true = refl
and_false false = refl

least_over : (a b n : ℕ) → least a b < n → (leb n a && leb n b) ≡ false
least_over a b n h = at (ltb a b) refl h
  where
    at : (t : Bool) → ltb a b ≡ t → cond t a b < n → (leb n a && leb n b) ≡ false
    at true e l = rw (lt-leb n a (omega arith))
    at false e l = ap (λ (t : Bool). leb n a && t) (lt-leb n b (omega arith)) ∙ and_false (leb n a)

pub roomy_takes : (room : ℕ) (w : List ℕ) → length w ≤ least room message_limit → roomy room w ≡ text w
unfolding roomy
roomy_takes room w h =
    let l = least_both room message_limit in
    rw (le-leb (length w) room (omega arith)) (rw (le-leb (length w) message_limit (omega arith)))

pub roomy_short : (room : ℕ) (w : List ℕ) → least room message_limit < length w → roomy room w ≡ fault AcknowledgementTooLong 0
unfolding roomy
roomy_short room w h = rw (least_over room message_limit (length w) h)

-- the caller's ID, written as text, goes into a buffer of five times the longest
pub id_fits : (ds id : List ℕ) (room : ℕ) → first_wrong_delimiter ds ≡ 5 → length id ≤ id_limit → room ≡ 1000 → escaping ds id room ≡ text (escape ds id)
unfolding fitting
id_fits ds id room d l e =
    let fits : length (escape ds id) ≤ room = omega (arith, escape_most ds id, id_limit_small) in
    escaping_goes ds id room (ap (λ (n : ℕ). fails_if (ltb n 5) Delimiter n) d) ∙ ap (λ (t : Bool). cond t (text (escape ds id)) (fault NoRoom 0)) (le-leb (length (escape ds id)) room fits)

-- one that is plain is written as it is
pub id_plain : (ds id : List ℕ) → first (special ds) id ≡ length id → is_null id ≡ false → escape ds id ≡ id
unfolding escape_bytes
id_plain ds id e n =
    let gone : length id ≤ length id = omega arith in
    escape_other ds id n ∙ bytes_run ds id (length id) (omega arith)
    ∙ ap (λ (x : List ℕ). take (length id) id ++ escape_bytes ds x) (drop_of_length-le id gone) ∙ append-nil (take (length id) id) ∙ take-length id

-- ---- the acknowledgement

-- parts with the separator between them, and more behind them
unfoldable spread : ℕ → List (List ℕ) → List ℕ → List ℕ
spread sep [] w = w
spread sep (p ∷ []) w = p ++ w
spread sep (p ∷ q ∷ ps) w = p ++ sep ∷ spread sep (q ∷ ps) w

join_spread : (sep : ℕ) (ps : List (List ℕ)) (w : List ℕ) → join sep ps ++ w ≡ spread sep ps w
unfolding join spread
join_spread sep [] w = refl
join_spread sep (p ∷ []) w = refl
join_spread sep (p ∷ q ∷ ps) w = append_assoc p (sep ∷ join sep (q ∷ ps)) w ∙ ap (λ (z : List ℕ). p ++ sep ∷ z) (join_spread sep (q ∷ ps) w)

-- the event and the separator before it are there or not together: what is present has a byte
event_whole : (h z : List ℕ) → event_mark h (event h) ++ (event h ++ z) ≡ cond (present h (type_part h 2)) (get_or h 4 0 ∷ type_part h 2) [] ++ z
unfolding state_of first
event_whole h z = at (type_part h 2) (present h (type_part h 2)) refl
  where
    at : (e : List ℕ) (t : Bool) → present h e ≡ t → event_mark h (cond t e []) ++ (cond t e [] ++ z) ≡ cond t (get_or h 4 0 ∷ e) [] ++ z
    at e false p = refl
    at [] true p = absurd (false_true p)
    at (b ∷ r) true p = rw (ne_eqb (length (b ∷ r)) 0 (λ e. omega arith))

module _ (h time id : List ℕ) where
  abbrev sep : ℕ
  sep = field_separator h

  -- what stands between the delimiters and the type, and more behind it
  abbrev names : List ℕ → List ℕ
  names z = sep ∷ (sent h 5 ++ sep ∷ (sent h 6 ++ sep ∷ (sent h 3 ++ sep ∷ (sent h 4 ++ sep ∷ (time ++ sep ∷ sep ∷ z)))))

  -- what stands behind the type, with e behind MSA
  abbrev second : Code → List ℕ → List ℕ
  second code e = spread sep (answer_parts h code) (carriage_return ∷ e)

  abbrev rest : Code → List ℕ → List ℕ
  rest code e = sep ∷ (escape (delimiters_of h) id ++ sep ∷ (sent h 11 ++ sep ∷ (version ++ carriage_return ∷ second code e)))

  spread_is : (code : Code) (e : List ℕ) → spread sep (header_parts h time id) (carriage_return ∷ second code e) ≡ acknowledgement h time id code [] ++ e
  unfolding acknowledgement ended
  spread_is code e =
      sym
      (append_assoc (join sep (header_parts h time id)) (carriage_return ∷ (join sep (answer_parts h code) ++ (carriage_return ∷ []))) e
      ∙ join_spread sep (header_parts h time id) _
      ∙ ap (λ (z : List ℕ). spread sep (header_parts h time id) (carriage_return ∷ z))
      (append_assoc (join sep (answer_parts h code)) (carriage_return ∷ []) e ∙ join_spread sep (answer_parts h code) (carriage_return ∷ e)))

  -- two fields with a separator behind each, and more behind them
  pair_behind : (a b z : List ℕ) → (a ++ sep ∷ (b ++ sep ∷ [])) ++ z ≡ a ++ sep ∷ (b ++ sep ∷ z)
  pair_behind a b z = append_assoc a (sep ∷ (b ++ sep ∷ [])) z ∙ ap (λ (y : List ℕ). a ++ sep ∷ y) (append_assoc b (sep ∷ []) z)

  -- the pieces one behind another, with the fixed texts where they stand
  cut : (code : Code) (e : List ℕ)
      → together (pieces h time (escape (delimiters_of h) id) (fixed_text sep code) e)
      ≡ take 8 h ++ sep ∷ (pair h 5 ++ (pair h 3
      ++ (time ++ sep ∷ sep ∷ (ascii "ACK" ++ (event_mark h (event h) ++ (event h ++ rest code (e ++ [])))))))
  unfolding together pieces answer_parts spread
  cut Accept e = refl
  cut Error e = refl
  cut Reject e = refl

  pub pieces_together : (code : Code) (e : List ℕ) → 8 ≤ length h → is_header h ≡ true
      → together (pieces h time (escape (delimiters_of h) id) (fixed_text sep code) e) ≡ acknowledgement h time id code [] ++ e
  unfolding header_parts type_sent spread
  pieces_together code e l is =
      cut code e
      ∙ ap (λ (y : List ℕ). take 8 h ++ sep ∷ y) (pair_behind (sent h 5) (sent h 6) _)
      ∙ ap (λ (y : List ℕ). take 8 h ++ sep ∷ (sent h 5 ++ sep ∷ (sent h 6 ++ sep ∷ y))) (pair_behind (sent h 3) (sent h 4) _)
      ∙ ap (λ (z : List ℕ). z ++ names (ascii "ACK" ++ (event_mark h (event h) ++ (event h ++ rest code (e ++ []))))) (front_bytes h l is)
      ∙ ap (λ (z : List ℕ). (ascii "MSH" ++ sep ∷ encoding h) ++ names (ascii "ACK" ++ z)) (event_whole h (rest code (e ++ [])))
      ∙ spread_is code (e ++ []) ∙ ap (λ (z : List ℕ). acknowledgement h time id code [] ++ z) (append-nil e)

  -- lines behind MSA stand behind what is written without them
  pub lines_behind : (code : Code) (es : List (List ℕ)) → acknowledgement h time id code [] ++ ended es ≡ acknowledgement h time id code es
  unfolding acknowledgement ended
  lines_behind code es =
      append_assoc (join sep (header_parts h time id)) (carriage_return ∷ (join sep (answer_parts h code) ++ (carriage_return ∷ []))) (ended es)
      ∙ ap (λ (z : List ℕ). join sep (header_parts h time id) ++ (carriage_return ∷ z)) (append_assoc (join sep (answer_parts h code)) (carriage_return ∷ []) (ended es))
