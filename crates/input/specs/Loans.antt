-- Which columns an input is lent, by the ghost names of its references: whoever lends them learns what they hold at the end.
use Rattle.std.specs.Prelude.{◌≡◌, ℕ}
use Rattle.input.specs.declared.columns.Input.{Input}

-- the input holds the references of these names
abbrev pub Holds : ℕ → ℕ → ℕ → ℕ → Input → Type 0
Holds kinds joint contextual editions i =
    (i.kinds.ghost_name ≡ kinds) × (i.joint.ghost_name ≡ joint) × (i.contextual_kinds.ghost_name ≡ contextual) × (i.editions.ghost_name ≡ editions)

-- the same columns are lent as before
abbrev pub StillLent : Input → Input → Type 0
StillLent old new = Holds old.kinds.ghost_name old.joint.ghost_name old.contextual_kinds.ghost_name old.editions.ghost_name new
