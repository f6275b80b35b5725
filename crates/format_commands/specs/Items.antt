-- A text with commands in it, as items, by docs/FORMATTED.md, 'From bytes to items'. It is unescaping with more
-- sequences: the scan, its grammar (`Reads`) and its faults are those of the crate `text`.
use Rattle.std.specs.Prelude.{ℕ, List, [], ◌∷◌, map, cond, ◌||◌}
use Rattle.escaping.specs.Outcomes.{Outcome}
use Rattle.text.specs.Unescape.{Sequences, known, meaning, scan}
use Rattle.format_commands.specs.Commands.{command}

-- a byte of text, or a command: what stands between its escape delimiters
pub data Item : Type 0 where
  byte : ℕ → Item
  order : List ℕ → Item

-- what a sequence stands for: a command is itself, and any other says its byte or bytes
abbrev pub saying : List ℕ → List ℕ → List Item
saying ds c = cond (command c) (order c ∷ []) (map byte (meaning ds c))

-- "a plain byte; `\F\ \S\ \T\ \R\ \E\`; `\Xhh..\`: its byte or bytes"; a command is itself; "anything else:
-- refused, 12"
abbrev pub formatted_text : Sequences Item
formatted_text =
    record {
      plain = byte;
      known = λ (c : List ℕ). command c || known c;
      meaning = saying;
    }

-- the items of a whole text, or "the leftmost of 4, 11, 12, 13" and its place
abbrev pub items_of : List ℕ → List ℕ → Outcome Item
items_of ds s = scan formatted_text ds 0 0 s
