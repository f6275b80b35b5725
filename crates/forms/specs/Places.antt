-- For private contracts alone: where the parts of a TM and a TS stand if the bytes are one. The last five bytes are the
-- zone where a sign stands before four of them, and the tail begins behind the seconds where a point stands there. So
-- nothing is sought.
use Rattle.std.specs.Prelude.{ℕ, ◌-◌, List, cond, ◌&&◌, leb, ltb, eqb, length, get_or, take, drop}
use Rattle.alphabet.specs.Bytes.{byte_of}
use Rattle.numbers.specs.Numbers.{is_sign}
use Rattle.forms.specs.Forms.{layout_of}
use Rattle.forms.specs.declared.layouts.Form.{Form}

abbrev pub sign_place : List ℕ → ℕ
sign_place l = cond (leb 5 (length l) && is_sign (get_or l (length l - 5) 0)) (length l - 5) (length l)

abbrev pub point_place : ℕ → List ℕ → ℕ
point_place seconds body = cond (ltb seconds (length body) && eqb (get_or body seconds 0) (byte_of ".")) seconds (length body)

abbrev pub body_at : List ℕ → List ℕ
body_at l = take (sign_place l) l

abbrev pub zone_at : List ℕ → List ℕ
zone_at l = drop (sign_place l) l

abbrev pub front_at : Form → List ℕ → List ℕ
front_at form l = take (point_place (layout_of form).seconds (body_at l)) (body_at l)

abbrev pub tail_at : Form → List ℕ → List ℕ
tail_at form l = drop (point_place (layout_of form).seconds (body_at l)) (body_at l)
