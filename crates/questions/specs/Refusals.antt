-- The text of a refusal.
use Rattle.std.specs.Prelude.{ℕ, List, ◌++◌, Some, None, codes, decimal, Option}

abbrev pub refused_text : ℕ → Option ℕ → List ℕ
refused_text number None = codes "refused " ++ decimal number
refused_text number (Some value) = codes "refused " ++ (decimal number ++ (codes " " ++ decimal value))
