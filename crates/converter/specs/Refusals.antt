-- When lexing is refused, and what each refusal says.
use Rattle.std.specs.Prelude.{ℕ, cond, ◌||◌, List, codes, Some, None, Option, nat_le, nat_lt}
use Rattle.converter.specs.declared.refusal.Refusal.{Refusal}
use Rattle.converter.specs.declared.refusal.Refusal.TheVariants.{Edition, Columns}

abbrev pub number : Refusal → ℕ
number Edition = 3
number Columns = 20

-- the kind and the start column need an entry for each byte and one for the end, the error column one for each byte
abbrev pub refusal : ℕ → ℕ → ℕ → ℕ → ℕ → Option Refusal
refusal edition len kinds starts errors =
    cond (nat_lt 3 edition) (Some Edition) (cond (nat_le kinds len || (nat_le starts len || nat_lt errors len)) (Some Columns) None)

-- what is printed of a refusal
abbrev pub refusal_text : Refusal → List ℕ
refusal_text Edition = codes "no such edition"
refusal_text Columns = codes "too little room in a column"
