-- What an input answers about an entry by its number.
use Rattle.std.specs.Prelude.{ℕ, ◌/◌, Bool, cond, ◌&&◌, List, Ok, Err, Result, nat_lt, slice_index}
use Rattle.input.specs.declared.refusal.Refusal.{Refusal}
use Rattle.input.specs.declared.refusal.Refusal.TheVariants.{NotThere}
use Rattle.input.specs.Kinds.{eof}
use Rattle.input.specs.Marks.{marked, words}
use Rattle.input.specs.Columns.{Columns}

-- the kind that a column has for entry i of `len`; the end of the input past them
abbrev pub kind_or : List ℕ → ℕ → ℕ → ℕ
kind_or column len i = cond (nat_lt i len) (slice_index column i) eof

-- the edition of entry i
abbrev pub edition_answer : Columns → ℕ → Result ℕ Refusal
edition_answer c i = cond (nat_lt i c.len) (Ok (slice_index c.editions i)) (Err NotThere)

-- the mark of entry n; past the entries it is not set, as far as the last word reaches
abbrev pub joint_answer : Columns → ℕ → Result Bool Refusal
joint_answer c n = cond (nat_lt (n / 64) (words c.len)) (Ok (nat_lt n c.len && marked c.joint n)) (Err NotThere)
