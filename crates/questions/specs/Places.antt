-- Where a byte stands in a list of bytes.
use Rattle.std.specs.Prelude.{ℕ, suc, cond, List, [], ◌∷◌, ◌==◌}

-- the place of the first w; the length where there is none
abbrev pub place_of : ℕ → List ℕ → ℕ
place_of w [] = 0
place_of w (b ∷ bs) = cond (b == w) 0 (suc (place_of w bs))
