-- Tests over the two tables of keywords, computed.
use Rattle.std.proofs.Common.{◌≡◌, true, refl}
use Rattle.syntax_kind.specs.Keywords.{strict, contextual}
use Rattle.syntax_kind.proofs.Entries.{apart, disjoint}

-- no two strict keywords overlap
pub strict_apart : apart strict ≡ true
unfolding strict
strict_apart = refl

-- no two contextual keywords overlap
pub contextual_apart : apart contextual ≡ true
unfolding contextual
contextual_apart = refl

-- no strict keyword overlaps a contextual one
pub tables_disjoint : disjoint strict contextual ≡ true
unfolding strict contextual
tables_disjoint = refl
