-- Decimal numbers.
use Rattle.std.specs.Prelude.{ℕ, ◌+◌, ◌-◌, ◌*◌, min, cond, ◌&&◌, List, [], ◌∷◌, length, Some, None, Option, ◌==◌, nat_le}
use Rattle.std.specs.Option.{option_map}

-- '0' to '9' are 48 to 57
abbrev pub digit : ℕ → Option ℕ
digit b = cond (nat_le 48 b && nat_le b 57) (Some (b - 48)) None

-- the value of the digits ('0' to '9' are 48 to 57) after those that n is the value of
abbrev pub value : ℕ → List ℕ → Option ℕ
value n [] = Some n
value n (b ∷ bs) = cond (nat_le 48 b && nat_le b 57) (value (n * 10 + (b - 48)) bs) None

-- the last number of 64 bits stands for all past it
abbrev pub saturated : ℕ → ℕ
saturated n = min n 18446744073709551615

-- the number that a text is
abbrev pub decimal : List ℕ → Option ℕ
decimal text = cond (length text == 0) None (option_map saturated (value 0 text))
