-- For private contracts alone: what is judged of the digits in front of a TM or a TS, and of its zone, by themselves.
use Rattle.std.specs.Prelude.{ℕ, List, [], Bool, ◌&&◌, length}
use Rattle.alphabet.specs.Digits.{all_digits}
use Rattle.calendar.specs.Calendar.{valid_date, valid_clock, valid_offset}
use Rattle.forms.specs.Forms.{layout_of, front_length, zone_form}
use Rattle.forms.specs.declared.layouts.Form.{Form}
use Rattle.times.specs.Times.{date_in, clock_of, offset_of}

abbrev pub front_judged : Form → List ℕ → Bool
front_judged form front =
    (all_digits front && front_length form (length front))
    && (valid_date (date_in form front) && valid_clock (clock_of front (layout_of form).clock []))

abbrev pub zone_judged : List ℕ → Bool
zone_judged zone = zone_form zone && valid_offset (offset_of zone)
