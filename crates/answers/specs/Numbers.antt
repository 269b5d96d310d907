-- Decimal numbers, as far as a question takes them.
use Rattle.std.specs.Prelude.{ℕ, min, cond, List, length, None, Option, ◌==◌}
use Rattle.std.specs.Option.{option_map}
use Rattle.questions.specs.Decimal.{value}

abbrev pub capped : ℕ → ℕ
capped n = min n 65535

-- the number that a text is, with all past 65535 taken as one
abbrev pub number : List ℕ → Option ℕ
number text = cond (length text == 0) None (option_map capped (value 0 text))
