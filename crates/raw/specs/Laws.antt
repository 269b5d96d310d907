-- What every source owes.
use Rattle.std.specs.Prelude.{◌≡◌, ℕ, ◌+◌, Bool, true, false, ◌&&◌, ◌||◌, List, length, ◌==◌, nat_le, nat_lt, slice_index}
use Rattle.script.specs.Admission.{admits}
use Rattle.script.specs.Places.{boundary}
use Rattle.raw.specs.Answers.{begins}
use Rattle.raw.specs.Forms.{Form, form, guarded_prefix, c_string, raw_c_string, raw_lifetime, unknown_prefix, unknown_lifetime, end_of_file, ordinary}
use Rattle.raw.specs.declared.kinds.RawToken.{RawToken}
use Rattle.raw.specs.declared.kinds.EscapeError.{EscapeError}

-- the text of n bytes from p on begins with the bytes a and b
abbrev pub opens_with : List ℕ → ℕ → ℕ → ℕ → ℕ → Bool
opens_with bs p n a b = nat_le 2 n && (slice_index bs p == a && slice_index bs (p + 1) == b)

-- what a raw kind says of its text: a guarded prefix is two ASCII bytes, a C string begins with `c`, a raw one with
-- `cr`, a raw lifetime with `'r`, and the end of the file is no token
abbrev pub spelled : List ℕ → ℕ → ℕ → Form → Bool
spelled bs p n guarded_prefix = n == 2 && (nat_lt (slice_index bs p) 128 && nat_lt (slice_index bs (p + 1)) 128)
spelled bs p n c_string = slice_index bs p == 99
spelled bs p n raw_c_string = opens_with bs p n 99 114
spelled bs p n raw_lifetime = opens_with bs p n 39 114
spelled bs p n unknown_prefix = true
spelled bs p n unknown_lifetime = true
spelled bs p n end_of_file = false
spelled bs p n ordinary = true

-- a token with so many faults may begin at the place: it has a byte or more, ends at a boundary of the script, is
-- spelled as its kind says, and has no more faults than bytes
abbrev pub keeps : List ℕ → ℕ → RawToken → ℕ → Bool
keeps bs p t faults =
    (nat_lt 0 t.len && (nat_le (p + t.len) (length bs) && boundary bs (p + t.len)))
    && (spelled bs p t.len (form t.kind) && nat_le faults t.len)

-- a shebang length: none, or from the two bytes `#!` up, ending at a boundary
abbrev pub shebang_keeps : List ℕ → ℕ → Bool
shebang_keeps bs n = n == 0 || (nat_le 2 n && (nat_le n (length bs) && boundary bs n))

pub record Laws {S : Type 0} (script : S → List ℕ) (token : S → ℕ → RawToken) (faults : S → ℕ → List EscapeError) (shebang : S → ℕ) : Type 0 where
  pub admitted : (s : S) → admits (script s) ≡ true
  pub tokens : (s : S) (p : ℕ) → begins (script s) p ≡ true → keeps (script s) p (token s p) (length (faults s p)) ≡ true
  pub shebangs : (s : S) → shebang_keeps (script s) (shebang s) ≡ true
