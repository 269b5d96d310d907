-- What a source means, in one value.
use Rattle.std.specs.Prelude.{ℕ, List}
use Rattle.raw.specs.declared.RawSource.{Ghosts}
use Rattle.raw.specs.declared.kinds.RawToken.{RawToken}
use Rattle.raw.specs.declared.kinds.EscapeError.{EscapeError}

pub record Meaning : Type 0 where
  pub script : List ℕ
  pub token : ℕ → RawToken
  pub faults : ℕ → List EscapeError
  pub shebang : ℕ

abbrev pub meaning : List ℕ → (ℕ → RawToken) → (ℕ → List EscapeError) → ℕ → Meaning
meaning script token faults shebang = record { script = script; token = token; faults = faults; shebang = shebang }

-- the same of a source, by its members of `RawSource`
abbrev pub means : {S : Type 0} → Ghosts S → S → Meaning
means row s = meaning (row.script s) (row.token s) (row.faults s) (row.shebang s)
