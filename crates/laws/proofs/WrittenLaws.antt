-- What holds of every acknowledgement that is written, with no line behind MSA or with one: it is a message, it fits ACK, and its fields are the sender's
-- and the caller's. Assumes nothing.
use mathlib.Core.Path.{◌≡◌, refl, sym, ap, ap₂, ◌∙◌, subst}
use mathlib.Core.Logic.{◌⊎◌, ⊎_elim}
use mathlib.Core.Bool.{Bool, true, false, cond}
use mathlib.Core.List.{List, [], ◌∷◌, ◌++◌, map}
use Prim.Native.Nat.{ℕ, ◌+◌, ◌-◌, ◌≤◌, ◌<◌}
use native.Mathlib.Omega.{arith}
use lib.Dec.{eqb}
use lib.ListN.{length, get_or}
use borrow.Author.Tests.{eq-eqb, le-leb}
use Rattle.std.specs.Prelude.{Ok}
use Rattle.alphabet.specs.Answers.{passes}
use Rattle.alphabet.specs.Bytes.{carriage_return, digit, ascii}
use Rattle.alphabet.specs.Delimiters.{permitted}
use Rattle.alphabet.specs.Limits.{message_limit}
use Rattle.alphabet.specs.Lists.{find, same}
use Rattle.alphabet.specs.Parts.{split, join}
use Rattle.alphabet.proofs.BoolLaws.{from_to_lem}
use Rattle.alphabet.proofs.DelimiterLaws.{delimiter_own}
use Rattle.alphabet.proofs.LimitLaws.{segment_limit_three}
use Rattle.laws.proofs.EachLaws.{Each, Every, each_append, at_each, each_weaken, each_free}
use Rattle.alphabet.proofs.PartLaws.{split_cons, split_last}
use Rattle.reading.specs.Segments.{segments, delimiters_of, field_separator, named, is_header, name, name_of}
use Rattle.reading.specs.Reading.{reading}
use Rattle.reading.specs.Message.{ended, Opened, Message}
use Rattle.reading.proofs.Accepted.{accepting}
use Rattle.element.specs.Finding.{raw_bytes}
use Rattle.element.proofs.RawLaws.{raw_component, raw_component_other}
use Rattle.forms.specs.declared.layouts.Form.TheVariants.{Ts}
use Rattle.times.specs.Times.{is_ts}
use Rattle.laws.proofs.ValueBytes.{time_each, digit_none}
use Rattle.escaping.specs.Escape.{escape}
use Rattle.laws.proofs.RoundTrip.{AreBytes}
use Rattle.laws.proofs.Clean.{MayStand, never_separator}
use Rattle.structure.specs.Shapes.{Yields, names}
use Rattle.structure.specs.Shapes.Spans.{stand, skip, once, ended as ended-shape}
use Rattle.structure.specs.SegmentNames.{segment_names, among, passed_over, kept}
use Rattle.element.specs.Addresses.{type_address}
use Rattle.structure.specs.Structures.{ack, chosen, structure_for, built_in, acknowledgement as ackListed}
use Rattle.structure.specs.Judged.{Judged, accepted, by, Answers, read}
use Rattle.structure.proofs.ChoiceLaws.{is_acknowledgement}
use Rattle.acknowledgement.specs.Acknowledgement.{field_address, sent, type_part, present, encoding, type_sent, header_parts, answer_parts, acknowledgement, version}
use Rattle.acknowledgement_code.specs.Codes.{letters_of}
use Rattle.acknowledgement_code.specs.declared.Code.{Code}
use Rattle.acknowledgement_code.specs.declared.Code.TheVariants.{Accept, Error, Reject}
use Rattle.laws.proofs.LineLaws.{or_true, Printable, Not, Clean, Lines, lines_segments, lines_message, lines_header_field, lines_field, joined_printable, joined_parts}
use Rattle.laws.proofs.SenderLaws.{field_clean, event_clean, delimiter_printable, delimiters_apart, no_delimiter, sign_clean}

-- what the lines behind MSA are: none, or one of the name ERR; they are printable and have good names
pub record Behind (sep : ℕ) (es : List (List ℕ)) : Type 0 where
  pub told : (map name_of es ≡ []) ⊎ (map name_of es ≡ name "ERR" ∷ [])
  pub printed : Every (Each Printable) es
  pub named_well : Every (λ (l : List ℕ). named sep l ≡ true) es
  pub no_other : Every (λ (l : List ℕ). is_header l ≡ false) es

few : {sep : ℕ} {es : List (List ℕ)} → Behind sep es → length es ≤ 1
few {sep = sep} {es = []} b = omega arith
few {sep = sep} {es = e ∷ []} b = omega arith
few {sep = sep} {es = e ∷ f ∷ rest} b =
    ⊎_elim (λ q. absurd (let n = ap length q in omega arith)) (λ q. absurd (let n = ap length q in omega arith)) b.told

module _ (h : List ℕ) (o : Opened h) (one : find carriage_return h + 1 ≡ length h) where
  abbrev ds : List ℕ
  ds = delimiters_of h

  abbrev sep : ℕ
  sep = field_separator h

  abbrev Fine : ℕ → Type 0
  Fine = Clean sep

  abbrev sign : (x : ℕ) → Printable x → permitted x ≡ false → Fine x
  sign = sign_clean h o one

  -- ---- each part

  delimiter_fine : (i : ℕ) → i < 5 → (i ≡ 0 → ⊥) → Fine (get_or ds i 0)
  delimiter_fine i l n = (delimiter_printable h o one i l, delimiters_apart h o one i 0 l (omega arith) n)

  encoding_fine : Each Fine (encoding h)
  unfolding Each
  encoding_fine = (
    delimiter_fine 1 (omega arith) (λ e. omega arith),
    (
      delimiter_fine 2 (omega arith) (λ e. omega arith),
      (
        delimiter_fine 3 (omega arith) (λ e. omega arith),
        (delimiter_fine 4 (omega arith) (λ e. omega arith), tt),
      ),
    ),
  )

  digit_fine : (b : ℕ) → digit b ≡ true → Fine b
  digit_fine b e =
      let d = from_to_lem 48 57 b e in
      let p : Printable b = rw (le-leb 32 b (omega arith)) (rw (le-leb b 126 (omega arith))) in
      sign b p (digit_none b e)

  time_fine : (time : List ℕ) → is_ts time ≡ true → Each Fine time
  time_fine time e = time_each Fine digit_fine (sign 43 refl refl) (sign 45 refl refl) (sign 46 refl refl) Ts time e

  id_fine : (id : List ℕ) → AreBytes id → Each Fine (escape ds id)
  id_fine id small = at_each Fine (escape ds id) (λ i l. stands (get_or (escape ds id) i 0) (never_separator ds refl o.delimiters_right id small i l))
    where
      stands : (b : ℕ) → MayStand ds b → Fine b
      stands b s = (
        s.0,
        λ e.
            let own = delimiter_own ds refl o.delimiters_right 0 (omega arith) in
            let here : find b ds ≡ 0 = ap (λ (x : ℕ). find x ds) e ∙ own in
            delimiters_apart h o one 0 3 (omega arith) (omega arith) (λ z. omega arith) (sym e ∙ s.1 (omega arith)),
      )

  ack_letters : Each (λ (b : ℕ). Fine b × Not (get_or ds 2 0) b) (ascii "ACK")
  unfolding Each
  ack_letters = (letter 65 refl refl, (letter 67 refl refl, (letter 75 refl refl, tt)))
    where
      letter : (x : ℕ) → Printable x → permitted x ≡ false → Fine x × Not (get_or ds 2 0) x
      letter x p f = (sign x p f, no_delimiter h o one x 2 (omega arith) f)

  type_fine : Each (λ (b : ℕ). Fine b × Not (get_or ds 2 0) b) (type_sent h)
  unfolding type_sent Each
  type_fine = at (present h (type_part h 2))
    where
      at : (t : Bool) → Each (λ (b : ℕ). Fine b × Not (get_or ds 2 0) b) (ascii "ACK" ++ cond t (get_or h 4 0 ∷ type_part h 2) [])
      at true =
          each_append (λ (b : ℕ). Fine b × Not (get_or ds 2 0) b) (ascii "ACK") (get_or h 4 0 ∷ type_part h 2) ack_letters
          ((delimiter_fine 1 (omega arith) (λ e. omega arith), delimiters_apart h o one 1 2 (omega arith) (omega arith) (λ e. omega arith)), event_clean h o one)
      at false = each_append (λ (b : ℕ). Fine b × Not (get_or ds 2 0) b) (ascii "ACK") [] ack_letters tt

  field : (f : ℕ) → (f ≡ 1 → ⊥) → Each Fine (sent h f)
  field = field_clean h o one

  module _ (time id : List ℕ) (timed : is_ts time ≡ true) (small : AreBytes id) (letters : Code) (es : List (List ℕ)) (behind : Behind sep es) where
    pub header_fine : Every (Each Fine) (header_parts h time id)
    unfolding Each Every header_parts
    header_fine = (
      (sign 77 refl refl, (sign 83 refl refl, (sign 72 refl refl, tt))),
      (
        encoding_fine,
        (
          field 5 (λ e. omega arith),
          (
            field 6 (λ e. omega arith),
            (
              field 3 (λ e. omega arith),
              (
                field 4 (λ e. omega arith),
                (
                  time_fine time timed,
                  (
                    tt,
                    (
                      each_weaken (λ (b : ℕ). Fine b × Not (get_or ds 2 0) b) Fine (λ b p. p.0) (type_sent h) type_fine,
                      (
                        id_fine id small,
                        (
                          field 11 (λ e. omega arith),
                          ((sign 50 refl refl, (sign 46 refl refl, (sign 52 refl refl, tt))), tt),
                        ),
                      ),
                    ),
                  ),
                ),
              ),
            ),
          ),
        ),
      ),
    )

    code_fine : (c : Code) → Each Fine (letters_of c)
    unfolding Each
    code_fine Accept = (sign 65 refl refl, (sign 65 refl refl, tt))
    code_fine Error = (sign 65 refl refl, (sign 69 refl refl, tt))
    code_fine Reject = (sign 65 refl refl, (sign 82 refl refl, tt))

    pub answer_fine : Every (Each Fine) (answer_parts h letters)
    unfolding Each Every answer_parts
    answer_fine = ((sign 77 refl refl, (sign 83 refl refl, (sign 65 refl refl, tt))), (code_fine letters, (field 10 (λ e. omega arith), tt)))

    -- ---- the lines

    abbrev first : List ℕ
    first = join sep (header_parts h time id)

    abbrev second : List ℕ
    second = join sep (answer_parts h letters)

    abbrev pub written : List ℕ
    written = acknowledgement h time id letters es

    first_parts : split sep first ≡ header_parts h time id
    unfolding header_parts
    first_parts = joined_parts sep (header_parts h time id) (omega arith) header_fine

    second_parts : split sep second ≡ answer_parts h letters
    unfolding answer_parts
    second_parts = joined_parts sep (answer_parts h letters) (omega arith) answer_fine

    first_named : named sep first ≡ true
    unfolding header_parts join
    first_named = rw (eq-eqb sep sep refl) (or_true (eqb (length first) 3))

    second_named : named sep second ≡ true
    unfolding answer_parts join
    second_named = rw (eq-eqb sep sep refl) (or_true (eqb (length second) 3))

    -- they are the lines of a message with the sender's delimiters
    all_lines : Lines ds (first ∷ second ∷ es)
    unfolding header_parts answer_parts join Every
    all_lines = record {
      some = omega arith;
      most = let n = few behind in omega (arith, segment_limit_three);
      printed = (
        joined_printable sep (delimiter_printable h o one 0 (omega arith)) (header_parts h time id) header_fine,
        (joined_printable sep (delimiter_printable h o one 0 (omega arith)) (answer_parts h letters) answer_fine, behind.printed),
      );
      named_well = (first_named, (second_named, behind.named_well));
      long = omega arith;
      header = refl;
      delimiters = refl;
      behind = rw (eq-eqb sep sep refl) (or_true (eqb (length first) 8));
      no_other = (refl, behind.no_other);
      right = o.delimiters_right;
    }

    pub segments_written : segments written ≡ first ∷ second ∷ es
    unfolding acknowledgement
    segments_written = lines_segments all_lines

    -- ---- it begins as the sender's does

    pub same_delimiters : delimiters_of written ≡ ds
    unfolding acknowledgement header_parts ended join
    same_delimiters = refl

    is_long : 9 ≤ length written
    unfolding acknowledgement header_parts ended join
    is_long = omega arith

    -- ---- it reads back

    module _ (fits : length written ≤ message_limit) where
      pub message_written : Message written
      unfolding acknowledgement
      message_written = lines_message all_lines fits

      -- "reads back through our reader"
      pub reads_back : reading written ≡ passes
      reads_back = accepting written message_written

    -- ---- its fields

    -- "fields 3, 4, 5, 6 are the sender's 5, 6, 3, 4": field f of its MSH is the part of that number
    pub header_field : (f : ℕ) → (f ≡ 1 → ⊥) → raw_bytes written (field_address f) ≡ get_or (header_parts h time id) (f - 1) []
    unfolding acknowledgement
    header_field f n = lines_header_field all_lines f n ∙ ap (λ (ps : List (List ℕ)). get_or ps (f - 1) []) first_parts

    answer_field : (f : ℕ) → raw_bytes written (record { segment = 1; field = f; repetition = 0; component = 0; subcomponent = 0 }) ≡ get_or (answer_parts h letters) f []
    unfolding acknowledgement
    answer_field f = lines_field all_lines 1 f (λ e. omega arith) ∙ ap (λ (ps : List (List ℕ)). get_or ps f []) second_parts

    -- field 1 of the line behind MSA, and component c of its first repetition
    pub error_field : raw_bytes written (record { segment = 2; field = 1; repetition = 0; component = 0; subcomponent = 0 }) ≡ get_or (split sep (get_or es 0 [])) 1 []
    unfolding acknowledgement
    error_field = lines_field all_lines 2 1 (λ e. omega arith)

    pub error_component : (c : ℕ) → 1 ≤ c
        → raw_bytes written (record { segment = 2; field = 1; repetition = 1; component = c; subcomponent = 0 }) ≡ get_or (split (get_or ds 1 0) (get_or (split (get_or ds 2 0) (get_or (split sep (get_or es 0 [])) 1 [])) 0 [])) (c - 1) []
    error_component c l =
        raw_component_other written (let n = is_long in omega arith) 2 1 c (λ e. omega arith) l
        ∙ ap₂ (λ (d x : List ℕ). get_or (split (get_or d 1 0) (get_or (split (get_or d 2 0) x) 0 [])) (c - 1) []) same_delimiters error_field

    -- "carries the sender's own control ID": MSA-2 is the sender's MSH-10, byte for byte
    pub carries_id : raw_bytes written (record { segment = 1; field = 2; repetition = 0; component = 0; subcomponent = 0 }) ≡ sent h 10
    unfolding answer_parts
    carries_id = answer_field 2

    -- MSA-1 is the code
    pub carries_code : raw_bytes written (record { segment = 1; field = 1; repetition = 0; component = 0; subcomponent = 0 }) ≡ letters_of letters
    unfolding answer_parts
    carries_code = answer_field 1

    -- its MSH-3 to MSH-6 are the sender's 5, 6, 3, 4
    pub crossed : (raw_bytes written (field_address 3) ≡ sent h 5) × (raw_bytes written (field_address 4) ≡ sent h 6)
        × (raw_bytes written (field_address 5) ≡ sent h 3) × (raw_bytes written (field_address 6) ≡ sent h 4)
    unfolding header_parts
    crossed = (header_field 3 (λ e. omega arith), header_field 4 (λ e. omega arith), header_field 5 (λ e. omega arith), header_field 6 (λ e. omega arith))

    -- its MSH-10 says the caller's ID
    pub own_id : raw_bytes written (field_address 10) ≡ escape (delimiters_of written) id
    unfolding header_parts
    own_id = header_field 10 (λ e. omega arith) ∙ ap (λ (d : List ℕ). escape d id) (sym same_delimiters)

    -- its MSH-7, 8, 11 and 12: the caller's time, nothing, the sender's, and the version; 9 is the type
    pub stamped : (raw_bytes written (field_address 7) ≡ time) × (raw_bytes written (field_address 8) ≡ []) × (raw_bytes written (field_address 9) ≡ type_sent h)
        × (raw_bytes written (field_address 11) ≡ sent h 11) × (raw_bytes written (field_address 12) ≡ version)
    unfolding header_parts
    stamped = (
      header_field 7 (λ e. omega arith),
      header_field 8 (λ e. omega arith),
      header_field 9 (λ e. omega arith),
      header_field 11 (λ e. omega arith),
      header_field 12 (λ e. omega arith),
    )

    -- how many parts its segments have: the name of MSH and 11 fields behind its separator, the name of MSA and two fields
    pub parts_counted : (length (split (field_separator written) (get_or (segments written) 0 [])) ≡ 12) × (length (split (field_separator written) (get_or (segments written) 1 [])) ≡ 3)
    unfolding header_parts answer_parts
    parts_counted =
        let same = ap (λ (l : List ℕ). get_or l 0 0) same_delimiters in (
          ap₂ (λ (x : ℕ) (ss : List (List ℕ)). length (split x (get_or ss 0 []))) same segments_written ∙ ap length first_parts,
          ap₂ (λ (x : ℕ) (ss : List (List ℕ)). length (split x (get_or ss 1 []))) same segments_written ∙ ap length second_parts,
        )

    -- ---- it fits ACK

    type_free : find (get_or ds 2 0) (type_sent h) ≡ length (type_sent h)
    type_free = each_free (get_or ds 2 0) (type_sent h) (each_weaken (λ (b : ℕ). Fine b × Not (get_or ds 2 0) b) (Not (get_or ds 2 0)) (λ b p. p.1) (type_sent h) type_fine)

    ack_free : find (get_or ds 1 0) (ascii "ACK") ≡ 3
    unfolding Each
    ack_free =
        each_free (get_or ds 1 0) (ascii "ACK")
        (no_delimiter h o one 65 1 (omega arith) refl, (no_delimiter h o one 67 1 (omega arith) refl, (no_delimiter h o one 75 1 (omega arith) refl, tt)))

    first_component : get_or (split (get_or ds 1 0) (type_sent h)) 0 [] ≡ ascii "ACK"
    unfolding type_sent
    first_component = at (present h (type_part h 2))
      where
        at : (t : Bool) → get_or (split (get_or ds 1 0) (ascii "ACK" ++ cond t (get_or h 4 0 ∷ type_part h 2) [])) 0 [] ≡ ascii "ACK"
        at true = ap (λ (ps : List (List ℕ)). get_or ps 0 []) (split_cons (get_or ds 1 0) (ascii "ACK") (type_part h 2) ack_free)
        at false = let n = ack_free in ap (λ (ps : List (List ℕ)). get_or ps 0 []) (split_last (get_or ds 1 0) (ascii "ACK") (omega arith))

    type_written : raw_bytes written (type_address 1) ≡ ascii "ACK"
    unfolding header_parts
    type_written =
        let n = type_free in
        raw_component written (let n = is_long in omega arith) 9 1 (omega arith) (omega arith)
        ∙ ap₂ (λ (d x : List ℕ). get_or (split (get_or d 1 0) (get_or (split (get_or d 2 0) x) 0 [])) 0 []) same_delimiters (header_field 9 (λ e. omega arith))
        ∙ ap (λ (ps : List (List ℕ)). get_or (split (get_or ds 1 0) (get_or ps 0 [])) 0 []) (split_last (get_or ds 2 0) (type_sent h) (omega arith)) ∙ first_component

    pub structure_written : structure_for built_in written ≡ chosen ackListed
    unfolding structure_for same
    structure_written = is_acknowledgement (raw_bytes written (type_address 1)) (raw_bytes written (type_address 2)) (ap (λ (x : List ℕ). same x (ascii "ACK")) type_written)

    pub names_written : segment_names written ≡ name "MSH" ∷ name "MSA" ∷ map name_of es
    unfolding segment_names name_of header_parts answer_parts join
    names_written = ap (map name_of) segments_written

    -- "fits the ACK structure": it yields the names
    pub fits_ack : Judged ack (segment_names written) (Ok tt)
    unfolding kept passed_over among
    fits_ack =
        ⊎_elim (λ q. fits q (stand (stand (skip ended-shape)))) (λ q. fits q (stand (stand (once (stand ended-shape) ended-shape)))) behind.told
      where
        fits : {l : List ℕ} → map name_of es ≡ l → Yields ack (kept (names ack) (name "MSH" ∷ name "MSA" ∷ l)) → Judged ack (segment_names written) (Ok tt)
        fits q y = accepted (subst (λ (ns : List ℕ). Yields ack (kept (names ack) ns)) (sym (names_written ∙ ap (λ (l : List ℕ). name "MSH" ∷ name "MSA" ∷ l) q)) y)

    -- the structure judge accepts it
    pub judged_written : length written ≤ message_limit → Answers written (Ok tt)
    judged_written fits = read (reads_back fits) (by ackListed structure_written fits_ack)
