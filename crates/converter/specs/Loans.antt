-- What a converter is lent: the source, the edition and the columns, these by the ghost names of their references.
use Rattle.std.specs.Prelude.{◌≡◌, ℕ}
use Rattle.syntax_kind.specs.declared.editions.Edition.{Edition}
use Rattle.raw.specs.declared.RawSource.{Ghosts}
use Rattle.converter.specs.declared.convert.Converter.{Converter}

-- the converter reads this source in this edition, and holds the references of these names
abbrev pub Lent : {S : Type 0} {row : Ghosts S} → S → Edition → ℕ → ℕ → ℕ → Converter S row → Type 0
Lent source edition kinds starts errors c =
    (c.source.now ≡ source) × (c.edition ≡ edition) × (c.kinds.ghost_name ≡ kinds) × (c.starts.ghost_name ≡ starts) × (c.errors.ghost_name ≡ errors)

-- the same source, edition and columns are lent as before
abbrev pub StillLent : {S : Type 0} {row : Ghosts S} → Converter S row → Converter S row → Type 0
StillLent old new = Lent old.source.now old.edition old.kinds.ghost_name old.starts.ghost_name old.errors.ghost_name new
