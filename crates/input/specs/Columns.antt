-- The columns of an input, as values.
use Rattle.std.specs.Prelude.{ℕ, List}
use Rattle.input.specs.declared.columns.Input.{Input}

-- the whole columns, and how many of their places hold entries
pub record Columns : Type 0 where
  pub kinds : List ℕ
  pub joint : List ℕ
  pub contextual : List ℕ
  pub editions : List ℕ
  pub len : ℕ

-- the columns of an input
abbrev pub columns_of : Input → Columns
columns_of i =
    record { kinds = i.kinds.now; joint = i.joint.now; contextual = i.contextual_kinds.now; editions = i.editions.now; len = i.len }

-- columns with no entry yet
abbrev pub bare : List ℕ → List ℕ → List ℕ → List ℕ → Columns
bare kinds joint contextual editions =
    record { kinds = kinds; joint = joint; contextual = contextual; editions = editions; len = 0 }
