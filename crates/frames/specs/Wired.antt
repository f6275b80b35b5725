-- What a line says, as a grammar over its bytes: nothing of a machine, of a buffer or of pieces, but for the states in
-- which a line ends and the count. That the reader's runs give this and nothing else is shown both ways
-- (crates/laws/proofs/FrameGrammar.antt).
use Rattle.std.specs.Prelude.{ℕ, ◌≤◌, ◌<◌, ◌≡◌, List, [], ◌∷◌, ◌++◌, cond, leb, length, take}
use Rattle.alphabet.specs.Bytes.{carriage_return}
use Rattle.alphabet.specs.declared.answers.Refusal.TheVariants.{BrokenFrame, FrameTooLong}
use Rattle.frames.specs.declared.state.FrameState.{FrameState}
use Rattle.frames.specs.Wire.{opens, closes}
use Rattle.frames.specs.Steps.{outside, inside, ending, skipping, skipping_end, counted}
use Rattle.frames.specs.Runs.{Happening, frame, dropped}

-- a body: bytes that neither open nor close a frame
pub data Plain : List ℕ → Type 0 where
  none : Plain []
  some : {b : ℕ} {c : List ℕ} → (b ≡ opens → ⊥) → (b ≡ closes → ⊥) → Plain c → Plain (b ∷ c)

-- what becomes of a frame with the body c that would be e: "a frame over it is reported once"
abbrev pub or_long : ℕ → List ℕ → Happening → Happening
or_long limit c e = cond (leb (length c) limit) e (dropped FrameTooLong)

abbrev pub broken : Happening
broken = dropped BrokenFrame

-- where the line stands: outside a frame, or behind the 0x0B that opens one
pub data Place : Type 0 where
  out : Place
  opened : Place

-- `Wired limit p n l es cs t`: from p, with n bytes dropped before, the line l gives the happenings es, the bodies cs
-- are gathered, each up to the limit, and it ends in t
pub data Wired (limit : ℕ) : Place → ℕ → List ℕ → List Happening → List (List ℕ) → FrameState → Type 0 where
  -- "Bytes outside a frame are dropped and counted"
  ended : {n : ℕ} → Wired limit out n [] [] [] (outside n)
  stray : {n b : ℕ} {l : List ℕ} {es : List Happening} {cs : List (List ℕ)} {t : FrameState}
      → (b ≡ opens → ⊥)
      → Wired limit out (counted n) l es cs t
      → Wired limit out n (b ∷ l) es cs t
  begins : {n : ℕ} {l : List ℕ} {es : List Happening} {cs : List (List ℕ)} {t : FrameState}
      → Wired limit opened n l es cs t
      → Wired limit out n (opens ∷ l) es cs t
  -- "0x0B, the message, 0x1C, 0x0D"
  whole_frame : {n : ℕ} {c l : List ℕ} {es : List Happening} {cs : List (List ℕ)} {t : FrameState}
      → Plain c
      → Wired limit out n l es cs t
      → Wired limit opened n (c ++ closes ∷ carriage_return ∷ l) (or_long limit c (frame c) ∷ es) (take limit c ∷ cs) t
  -- "0x1C followed by anything but 0x0D drops the frame and that byte, uncounted; a 0x0B there starts the next"
  breaks : {n b : ℕ} {c l : List ℕ} {es : List Happening} {cs : List (List ℕ)} {t : FrameState}
      → Plain c
      → (b ≡ carriage_return → ⊥)
      → (b ≡ opens → ⊥)
      → Wired limit out n l es cs t
      → Wired limit opened n (c ++ closes ∷ b ∷ l) (or_long limit c broken ∷ es) (take limit c ∷ cs) t
  breaks_open : {n : ℕ} {c l : List ℕ} {es : List Happening} {cs : List (List ℕ)} {t : FrameState}
      → Plain c
      → Wired limit opened n l es cs t
      → Wired limit opened n (c ++ closes ∷ opens ∷ l) (or_long limit c broken ∷ es) (take limit c ∷ cs) t
  -- "0x0B inside a frame drops what was gathered and starts again"
  again : {n : ℕ} {c l : List ℕ} {es : List Happening} {cs : List (List ℕ)} {t : FrameState}
      → Plain c
      → Wired limit opened n l es cs t
      → Wired limit opened n (c ++ opens ∷ l) (or_long limit c broken ∷ es) (take limit c ∷ cs) t
  -- the line ends inside a frame: what is gathered is held, or the frame was reported "at the first byte over"
  open_body : {n : ℕ} {c : List ℕ}
      → Plain c
      → length c ≤ limit
      → Wired limit opened n c [] (take limit c ∷ []) (inside (length c) n)
  open_end : {n : ℕ} {c : List ℕ}
      → Plain c
      → length c ≤ limit
      → Wired limit opened n (c ++ closes ∷ []) [] (take limit c ∷ []) (ending (length c) n)
  open_long : {n : ℕ} {c : List ℕ}
      → Plain c
      → limit < length c
      → Wired limit opened n c (dropped FrameTooLong ∷ []) (take limit c ∷ []) (skipping n)
  open_long_end : {n : ℕ} {c : List ℕ}
      → Plain c
      → limit < length c
      → Wired limit opened n (c ++ closes ∷ []) (dropped FrameTooLong ∷ []) (take limit c ∷ []) (skipping_end n)
