-- What becomes of a recording: why it is refused.
use Rattle.std.specs.Prelude.{◌≡◌, ℕ, ◌+◌, ◌<◌, ◌≤◌, true, false, cond, List, ◌++◌, length, Some, None, Option, ◌==◌, nat_le, slice_index_or, codes, decimal}
use Rattle.script.specs.Admission.{most, ill_formed, Judged as Admits}
use Rattle.script.specs.declared.refusal.Refusal.{Refusal as Unread}
use Rattle.script.specs.declared.refusal.Refusal.TheVariants as script
use Rattle.raw.specs.Answers.{begins}
use Rattle.raw.specs.Laws.{keeps, shebang_keeps}
use Rattle.raw.specs.declared.kinds.RawKind.TheVariants.{Unknown}
use Rattle.raw.specs.declared.kinds.EscapeError.{EscapeError}
use Rattle.tape.specs.declared.mark.Mark.{Mark}
use Rattle.tape.specs.declared.refusal.Refusal.{Refusal}
use Rattle.tape.specs.declared.refusal.Refusal.TheVariants as refused
use Rattle.tape.specs.Rules.{token_of, fault_count, lawful_count}

-- the number of each refusal
abbrev pub number : Refusal → ℕ
number refused.TooLong = 1
number (refused.NotUtf8 at) = 2
number (refused.Mark n) = 5
number (refused.Shebang n) = 5

-- the value that goes with the number, if one does: the place of the first ill-formed byte, the number of the first
-- mark that breaks the rules, the count of the marks
abbrev pub value : Refusal → Option ℕ
value refused.TooLong = None
value (refused.NotUtf8 at) = Some at
value (refused.Mark n) = Some n
value (refused.Shebang n) = Some n

-- what `{}` prints of a refusal
abbrev pub refusal_text : Refusal → List ℕ
refusal_text refused.TooLong = codes "longer than 4294967295 bytes"
refusal_text (refused.NotUtf8 at) = codes "not UTF-8, first at byte " ++ decimal at
refusal_text (refused.Mark n) = codes "mark " ++ (decimal n ++ codes " breaks a rule")
refusal_text (refused.Shebang n) = codes "the shebang length breaks its rule"

-- why bytes that are no script make no tape
abbrev pub unread : Unread → Refusal
unread script.TooLong = refused.TooLong
unread (script.NotUtf8 at) = refused.NotUtf8 at

-- why marks over a script are refused: the first mark that breaks the rules, or else the shebang length
abbrev pub refusal_over : List ℕ → List Mark → List EscapeError → ℕ → Option Refusal
refusal_over bs ms fs shebang =
    cond (lawful_count bs (length fs) ms == length ms)
    (cond (shebang_keeps bs shebang) None (Some (refused.Shebang (length ms))))
    (Some (refused.Mark (lawful_count bs (length fs) ms)))

-- why marks over any bytes are refused: first the bytes, as a script is admitted
abbrev pub refusal : List ℕ → List Mark → List EscapeError → ℕ → Option Refusal
refusal bs ms fs shebang =
    cond (nat_le (length bs) most)
    (cond (ill_formed bs == length bs) (refusal_over bs ms fs shebang) (Some (refused.NotUtf8 (ill_formed bs))))
    (Some refused.TooLong)

-- the mark with the number i of a list that has one
abbrev pub nth : List Mark → ℕ → Mark
nth ms i = slice_index_or ms i (record { place = 0; kind = Unknown; len = 0; faults_from = 0; faults_to = 0 })

-- the mark with the number i keeps the rules
pub record Lawful (bs : List ℕ) (column : ℕ) (ms : List Mark) (i : ℕ) : Type 0 where
  pub there : begins bs (nth ms i).place ≡ true
  pub after : (j : ℕ) → j + 1 ≡ i → (nth ms j).place < (nth ms i).place
  pub part : (nth ms i).faults_from ≤ (nth ms i).faults_to
  pub within : (nth ms i).faults_to ≤ column
  pub kept : keeps bs (nth ms i).place (token_of (nth ms i)) (fault_count (nth ms i)) ≡ true

-- the first n marks keep the rules
abbrev pub Keep : List ℕ → ℕ → List Mark → ℕ → Type 0
Keep bs column ms n = (i : ℕ) → i < n → Lawful bs column ms i

-- each mark stands before the next ones
abbrev pub Ascend : List Mark → Type 0
Ascend ms = (i j : ℕ) → i < j → j < length ms → (nth ms i).place < (nth ms j).place

-- an answer for marks over a script
abbrev pub JudgedOver : List ℕ → List Mark → List EscapeError → ℕ → Option Refusal → Type 0
JudgedOver bs ms fs shebang None = Keep bs (length fs) ms (length ms) × Ascend ms × (shebang_keeps bs shebang ≡ true)
JudgedOver bs ms fs shebang (Some refused.TooLong) = ⊥
JudgedOver bs ms fs shebang (Some (refused.NotUtf8 at)) = ⊥
JudgedOver bs ms fs shebang (Some (refused.Mark n)) = (n < length ms) × Keep bs (length fs) ms n × (Lawful bs (length fs) ms n → ⊥)
JudgedOver bs ms fs shebang (Some (refused.Shebang n)) = Keep bs (length fs) ms (length ms) × (n ≡ length ms) × (shebang_keeps bs shebang ≡ false)

-- an answer for marks over any bytes
abbrev pub Judged : List ℕ → List Mark → List EscapeError → ℕ → Option Refusal → Type 0
Judged bs ms fs shebang None = Admits bs None × JudgedOver bs ms fs shebang None
Judged bs ms fs shebang (Some refused.TooLong) = Admits bs (Some script.TooLong)
Judged bs ms fs shebang (Some (refused.NotUtf8 at)) = Admits bs (Some (script.NotUtf8 at))
Judged bs ms fs shebang (Some (refused.Mark n)) = Admits bs None × JudgedOver bs ms fs shebang (Some (refused.Mark n))
Judged bs ms fs shebang (Some (refused.Shebang n)) = Admits bs None × JudgedOver bs ms fs shebang (Some (refused.Shebang n))
