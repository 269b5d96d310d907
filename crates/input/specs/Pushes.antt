-- What becomes of the columns when an entry is put in, and when the last is marked.
use Rattle.std.specs.Prelude.{◌≡◌, ℕ, ◌+◌, ◌-◌, ◌/◌, ◌%◌, Bool, true, cond, ◌&&◌, List, [], ◌∷◌, ◌++◌, length, take, drop, Some, None, Ok, Err, Option, Result, ◌==◌, nat_le, nat_lt, slice_index, slice_set}
use Rattle.input.specs.declared.refusal.Refusal.{Refusal}
use Rattle.input.specs.declared.refusal.Refusal.TheVariants.{Edition, Kind, Empty, Full}
use Rattle.input.specs.Kinds.{last_kind}
use Rattle.input.specs.Marks.{marks, words, raised}
use Rattle.input.specs.Columns.{Columns}

-- the answer of a call that is done where nothing is refused
abbrev pub answered : Option Refusal → Result (Unit {0}) Refusal
answered None = Ok tt
answered (Some why) = Err why

-- what the columns hold afterwards: a refused call changes nothing
abbrev pub settled : Option Refusal → Columns → Columns → Columns
settled None new old = new
settled (Some why) new old = old

-- each column has a place for one entry more
abbrev pub roomy : Columns → Bool
roomy c =
    nat_lt c.len (length c.kinds)
    && (nat_lt c.len (length c.contextual) && (nat_lt c.len (length c.editions) && nat_lt (c.len / 64) (length c.joint)))

-- why an entry of this kind and edition is not put in
abbrev pub push_refusal : ℕ → ℕ → Columns → Option Refusal
push_refusal kind edition c =
    cond (nat_le edition 3) (cond (nat_le kind last_kind) (cond (roomy c) None (Some Full)) (Some Kind)) (Some Edition)

-- one entry more, at the end; its joint word begins at 0 where the entry is the word's first
abbrev pub pushed : ℕ → ℕ → ℕ → Columns → Columns
pushed kind contextual edition c =
    record {
      kinds = slice_set c.kinds c.len kind;
      joint = cond (c.len % 64 == 0) (slice_set c.joint (c.len / 64) 0) c.joint;
      contextual = slice_set c.contextual c.len contextual;
      editions = slice_set c.editions c.len edition;
      len = c.len + 1;
    }

-- a column with one value more after its first n, and the rest as before
pub record Longer (value n : ℕ) (old new : List ℕ) : Type 0 where
  pub front : take (n + 1) new ≡ take n old ++ value ∷ []
  pub rest : drop (n + 1) new ≡ drop (n + 1) old
  pub long : length new ≡ length old

-- one entry more, in the words of lists: the marks have its mark at the end, and no other mark changed
pub record Grown (kind keyword edition : ℕ) (mark : Bool) (old new : Columns) : Type 0 where
  pub len : new.len ≡ old.len + 1
  pub kinds : Longer kind old.len old.kinds new.kinds
  pub contextual : Longer keyword old.len old.contextual new.contextual
  pub editions : Longer edition old.len old.editions new.editions
  pub marks : marks new.joint new.len ≡ marks old.joint old.len ++ mark ∷ []
  pub rest : drop (words new.len) new.joint ≡ drop (words new.len) old.joint
  pub long : length new.joint ≡ length old.joint

-- why there is no last entry to mark
abbrev pub mark_refusal : Columns → Option Refusal
mark_refusal c = cond (c.len == 0) (Some Empty) None

-- the bit of entry n set
abbrev pub joined : ℕ → Columns → Columns
joined n c =
    record {
      kinds = c.kinds;
      joint = slice_set c.joint (n / 64) (raised (slice_index c.joint (n / 64)) (n % 64));
      contextual = c.contextual;
      editions = c.editions;
      len = c.len;
    }

-- the mark of the last entry is set, and no other mark changed
abbrev pub LastMarked : Columns → Columns → Type 0
LastMarked old new = marks new.joint new.len ≡ slice_set (marks old.joint old.len) (old.len - 1) true
