-- Editions: 2015, 2018, 2021 and 2024, and the numbers that they are asked by.
use Rattle.std.specs.Prelude.{◌≡◌, ℕ, ◌<◌, List, ◌++◌, Result, MatchResult, codes}
use Rattle.std.specs.Fmt.{decimal}
use Rattle.syntax_kind.specs.declared.editions.Edition.{Edition}
use Rattle.syntax_kind.specs.declared.editions.Edition.TheVariants.{Edition2015, Edition2018, Edition2021, Edition2024}
use Rattle.syntax_kind.specs.declared.editions.UnknownEdition.{UnknownEdition}

-- the number of each edition
abbrev pub edition_number : Edition → ℕ
edition_number Edition2015 = 0
edition_number Edition2018 = 1
edition_number Edition2021 = 2
edition_number Edition2024 = 3

-- the result is the edition with this number, or an error with a number that no edition has
abbrev pub Decodes : ℕ → Result Edition UnknownEdition → Type 0
Decodes number r = MatchResult r (λ edition. edition_number edition ≡ number) (λ e. (e.0 ≡ number) × (3 < number))

-- what is printed of a number that no edition has
abbrev pub unknown_text : ℕ → List ℕ
unknown_text number = codes "no edition has the number " ++ decimal number
