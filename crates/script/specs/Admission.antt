-- Which bytes are a script, and what each refusal says.
use Rattle.std.specs.Prelude.{ℕ, ◌<◌, ◌≤◌, Bool, cond, ◌&&◌, List, ◌++◌, length, Some, None, Option, ◌==◌, nat_le, codes, decimal}
use Rattle.script.specs.declared.refusal.Refusal.{Refusal}
use Rattle.script.specs.declared.refusal.Refusal.TheVariants.{TooLong, NotUtf8}
use Rattle.script.specs.Sequences.{run_end}
use Rattle.script.specs.Utf8Table.{utf8, WellFormed, Longest}

-- the length of the longest script
abbrev pub most : ℕ
most = 4294967295

-- the place of the first ill-formed byte; the length where there is none
abbrev pub ill_formed : List ℕ → ℕ
ill_formed bs = run_end utf8 bs 0

-- the bytes are a script: not too long, and UTF-8
abbrev pub admits : List ℕ → Bool
admits bs = nat_le (length bs) most && ill_formed bs == length bs

-- why bytes are no script
abbrev pub refusal : List ℕ → Option Refusal
refusal bs = cond (nat_le (length bs) most) (cond (ill_formed bs == length bs) None (Some (NotUtf8 (ill_formed bs)))) (Some TooLong)

-- the number of each refusal
abbrev pub number : Refusal → ℕ
number TooLong = 1
number (NotUtf8 at) = 2

-- the value that goes with the number, if one does: the place of the first ill-formed byte
abbrev pub value : Refusal → Option ℕ
value TooLong = None
value (NotUtf8 at) = Some at

-- what `{}` prints of a refusal
abbrev pub refusal_text : Refusal → List ℕ
refusal_text TooLong = codes "longer than 4294967295 bytes"
refusal_text (NotUtf8 at) = codes "not UTF-8, first at byte " ++ decimal at

-- an answer, in the words of the Unicode Standard
abbrev pub Judged : List ℕ → Option Refusal → Type 0
Judged bs None = (length bs ≤ most) × WellFormed bs
Judged bs (Some TooLong) = most < length bs
Judged bs (Some (NotUtf8 at)) = (length bs ≤ most) × (at < length bs) × Longest bs at
