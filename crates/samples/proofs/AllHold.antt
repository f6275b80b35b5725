-- Every row of the table holds: each is computed, and the last three are the structure judge's own samples. Assumes
-- nothing.
use mathlib.Core.Path.{refl}
use mathlib.Core.List.{List, [], ◌∷◌, ◌++◌}
use Rattle.alphabet.specs.Delimiters.{first_wrong_delimiter}
use Rattle.alphabet.specs.Digits.{all_digits, counted}
use Rattle.alphabet.specs.Hex.{all_hex, pairs_of}
use Rattle.alphabet.specs.Limits.{message_limit, segment_limit}
use Rattle.alphabet.specs.Lists.{first}
use Rattle.alphabet.specs.Parts.{split, standing, part_at}
use Rattle.reading.specs.Segments.{all_but_last, segments, segment_at}
use Rattle.reading.specs.Reading.{reading, opening, segments_check, segment_checks}
use Rattle.element.specs.Finding.{found, lookup_check, element_of, bytes_at}
use Rattle.element.specs.Levels.{part_in, field_in, below, repetition_at, component_at, subcomponent_at, unsplit, element_at}
use Rattle.element.specs.States.{state_of}
use Rattle.escaping.specs.Escape.{escape_byte, escape_bytes, escape}
use Rattle.text.specs.Unescape.{known, meaning, sequence, step, scan}
use Rattle.escaping.specs.Outcomes.{fitting, escaping, answer}
use Rattle.text.specs.Unescape.{unescaping}
use Rattle.numbers.specs.Numbers.{nm_form, unsigned, nm_read, nm_check, nm_value}
use Rattle.calendar.specs.Calendar.{valid_date, valid_clock}
use Rattle.forms.specs.Forms.{fraction_form, zone_form, time_form}
use Rattle.times.specs.Times.{figure_at, date_of, fraction_of, clock_of, offset_of, time_of, is_time, time_read}
use Rattle.samples.proofs.Structures.{report_10, report_11, report_12}
use Rattle.samples.specs.Table.{Row, Holds, All, of_text, of_numbers, of_times, of_states, of_structures, samples}

-- two parts of a table make one
both : (a b : List Row) → All a → All b → All (a ++ b)
unfolding All
both [] b p q = q
both (r ∷ rest) b p q = (p.0, both rest b p.1 q)

texts : All of_text
unfolding All of_text Holds first first_wrong_delimiter fitting escaping unescaping answer known meaning sequence step scan escape escape_bytes escape_byte all_hex pairs_of
texts = (refl, (refl, (refl, (refl, (refl, (refl, tt))))))

numbers : All of_numbers
unfolding All of_numbers Holds nm_read nm_check nm_value nm_form unsigned all_digits counted bytes_at found lookup_check reading opening message_limit segment_limit first_wrong_delimiter first segments_check segment_checks segments all_but_last split segment_at standing element_of element_at unsplit subcomponent_at component_at repetition_at below part_in part_at field_in state_of
numbers = (refl, (refl, (((_, refl, refl), refl), (((_, refl, refl), refl), (((_, refl, refl), refl), (refl, (((_, refl, refl), refl), tt)))))))

times : All of_times
unfolding All of_times Holds time_read is_time time_of time_form all_digits fraction_form zone_form valid_date date_of figure_at counted valid_clock clock_of fraction_of offset_of bytes_at found lookup_check reading opening message_limit segment_limit first_wrong_delimiter first segments_check segment_checks segments all_but_last split segment_at standing element_of element_at unsplit subcomponent_at component_at repetition_at below part_in part_at field_in state_of
times = (((_, refl), refl), (((_, refl, refl), refl), (((_, refl), refl), tt)))

states : All of_states
unfolding All of_states Holds found lookup_check reading opening message_limit segment_limit first_wrong_delimiter first segments_check segment_checks segments all_but_last split segment_at standing element_of element_at unsplit subcomponent_at component_at repetition_at below part_in part_at field_in state_of
states = ((refl, refl), ((refl, refl), ((refl, refl), tt)))

structures : All of_structures
unfolding All of_structures Holds
structures = ((refl, report_10), ((refl, report_11), ((refl, report_12), tt)))

-- "★ are proved together"
pub all_hold : All samples
unfolding samples
all_hold = both of_text _ texts (both of_numbers _ numbers (both of_times _ times (both of_states of_structures states structures)))
