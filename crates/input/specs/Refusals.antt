-- What a call on an input refuses.
use Rattle.std.specs.Prelude.{ℕ, List, codes}
use Rattle.input.specs.declared.refusal.Refusal.{Refusal}
use Rattle.input.specs.declared.refusal.Refusal.TheVariants.{Edition, Kind, NotThere, Empty, Full}

-- the number of each refusal
abbrev pub number : Refusal → ℕ
number Edition = 3
number Kind = 4
number NotThere = 21
number Empty = 30
number Full = 32

-- what is printed of each refusal
abbrev pub refusal_text : Refusal → List ℕ
refusal_text Edition = codes "no edition has this number"
refusal_text Kind = codes "no kind has this number"
refusal_text NotThere = codes "no entry has this number"
refusal_text Empty = codes "there is no entry yet"
refusal_text Full = codes "a column is full"
