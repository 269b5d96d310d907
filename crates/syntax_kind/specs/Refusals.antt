-- What a call refuses.
use Rattle.std.specs.Prelude.{ℕ, List, codes}
use Rattle.syntax_kind.specs.declared.Refusal.{Refusal}
use Rattle.syntax_kind.specs.declared.Refusal.TheVariants.{Edition, Kind}

-- the number of each refusal: 3 for an edition past the last, 4 for a kind past the last
abbrev pub refusal_number : Refusal → ℕ
refusal_number Edition = 3
refusal_number Kind = 4

-- what `{}` prints of a refusal
abbrev pub refusal_text : Refusal → List ℕ
refusal_text Edition = codes "the edition is past the last one"
refusal_text Kind = codes "the kind is past the last one"
