-- Every row of the table of formatted text holds: each is computed. Assumes nothing.
use mathlib.Core.Path.{refl}
use mathlib.Core.List.{List, [], ◌∷◌, ◌++◌}
use Rattle.alphabet.specs.Delimiters.{first_wrong_delimiter}
use Rattle.alphabet.specs.Digits.{all_digits, counted}
use Rattle.alphabet.specs.Hex.{all_hex, pairs_of}
use Rattle.alphabet.specs.Lists.{first, same}
use Rattle.escaping.specs.Outcomes.{fitting, answer}
use Rattle.text.specs.Unescape.{known, meaning, sequence, step, scan}
use Rattle.format_commands.specs.Commands.{digits_of, signed_of, number_of, numbered, order_of, command}
use Rattle.formatting.specs.Sheet.{is_empty, shown, end_line, lead, put, end_word, position, down, obey, obeyed, space, move, moves, written, lines_from}
use Rattle.formatting.specs.Formatting.{told, laid_out, formatting}
use Rattle.samples.specs.Formatted.{Row, Holds, All, of_breaks, of_blanks, of_range, of_wraps, of_faults, of_standard, formatted_samples}

-- two parts of a table make one
both : (a b : List Row) → All a → All b → All (a ++ b)
unfolding All
both [] b p q = q
both (r ∷ rest) b p q = (p.0, both rest b p.1 q)

parts : All of_breaks × All of_blanks × All of_range × All of_wraps × All of_faults × All of_standard
unfolding All Holds of_breaks of_blanks of_range of_wraps of_faults of_standard first same all_digits counted all_hex pairs_of first_wrong_delimiter fitting answer known meaning sequence step scan digits_of signed_of number_of numbered order_of command is_empty shown end_line lead put end_word position down obey obeyed space move moves written lines_from told laid_out formatting
parts = (
  (refl, (refl, (refl, (refl, (refl, (refl, tt)))))),
  (refl, (refl, (refl, (refl, (refl, (refl, (refl, (refl, tt)))))))),
  ((refl, refl), ((refl, refl), ((refl, refl), ((refl, refl), ((refl, refl), (refl, ((refl, refl), ((refl, refl), ((refl, refl), ((refl, refl), tt)))))))))),
  (refl, (refl, tt)),
  ((refl, refl), ((refl, refl), ((refl, refl), ((refl, refl), ((refl, refl), ((refl, refl), ((refl, refl), ((refl, refl), ((refl, refl), ((refl, refl), tt)))))))))),
  (refl, tt),
)

pub formatted_samples_hold : All formatted_samples
unfolding formatted_samples
formatted_samples_hold =
    both of_breaks _ parts.0 (both of_blanks _ parts.1 (both of_range _ parts.2 (both of_wraps _ parts.3 (both of_faults of_standard parts.4 parts.5))))
