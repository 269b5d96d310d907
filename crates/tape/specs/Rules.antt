-- Which marks, over which script and beside which fault column, make a tape.
use Rattle.std.specs.Prelude.{ℕ, suc, ◌+◌, ◌-◌, Bool, cond, ◌&&◌, List, [], ◌∷◌, length, ◌==◌, nat_le}
use Rattle.raw.specs.Answers.{begins}
use Rattle.raw.specs.Laws.{keeps, shebang_keeps}
use Rattle.raw.specs.declared.kinds.RawToken.{RawToken}
use Rattle.raw.specs.declared.kinds.EscapeError.{EscapeError}
use Rattle.tape.specs.declared.mark.Mark.{Mark}

-- the token that a mark records
abbrev pub token_of : Mark → RawToken
token_of m = record { kind = m.kind; len = m.len }

-- how many faults it has
abbrev pub fault_count : Mark → ℕ
fault_count m = m.faults_to - m.faults_from

-- its faults are a part of a fault column of that length
abbrev pub has_part : ℕ → Mark → Bool
has_part column m = nat_le m.faults_from m.faults_to && nat_le m.faults_to column

-- a mark keeps the rules, where its place may be no lower than `least`
abbrev pub lawful : List ℕ → ℕ → ℕ → Mark → Bool
lawful bs column least m =
    (begins bs m.place && nat_le least m.place) && (has_part column m && keeps bs m.place (token_of m) (fault_count m))

-- how many marks at the front keep the rules, each with a place above that of the mark before it
abbrev pub lawful_from : List ℕ → ℕ → ℕ → List Mark → ℕ
lawful_from bs column least [] = 0
lawful_from bs column least (m ∷ ms) = cond (lawful bs column least m) (suc (lawful_from bs column (m.place + 1) ms)) 0

abbrev pub lawful_count : List ℕ → ℕ → List Mark → ℕ
lawful_count bs column ms = lawful_from bs column 0 ms

-- all the marks and the shebang length keep their rules
abbrev pub fits : List ℕ → List Mark → List EscapeError → ℕ → Bool
fits bs ms fs shebang = lawful_count bs (length fs) ms == length ms && shebang_keeps bs shebang
