-- The editions' cuts: raw forms that an edition does not have yet are cut back to what it has instead.
use Rattle.std.specs.Prelude.{ℕ, false, cond, nat_lt}
use Rattle.raw.specs.Forms.{Form, form, guarded_prefix, c_string, raw_c_string, raw_lifetime, unknown_prefix, unknown_lifetime, end_of_file, ordinary}
use Rattle.raw.specs.declared.kinds.RawToken.{RawToken}
use Rattle.raw.specs.declared.kinds.RawKind.{RawKind}
use Rattle.raw.specs.declared.kinds.RawKind.TheVariants.{Pound, Ident, Lifetime}

abbrev pub token : RawKind → ℕ → RawToken
token kind len = record { kind = kind; len = len }

-- before 2024 a guarded prefix is a `#`; before 2021 a C string is a name `c` or `cr`, a raw lifetime a lifetime `'r`, an unknown
-- prefix a name and that of a lifetime a lifetime
abbrev pub cut_as : ℕ → RawToken → Form → RawToken
cut_as edition t guarded_prefix = cond (nat_lt edition 3) (token Pound 1) t
cut_as edition t c_string = cond (nat_lt edition 2) (token Ident 1) t
cut_as edition t raw_c_string = cond (nat_lt edition 2) (token Ident 2) t
cut_as edition t raw_lifetime = cond (nat_lt edition 2) (token (Lifetime false) 2) t
cut_as edition t unknown_prefix = cond (nat_lt edition 2) (token Ident t.len) t
cut_as edition t unknown_lifetime = cond (nat_lt edition 2) (token (Lifetime false) t.len) t
cut_as edition t end_of_file = t
cut_as edition t ordinary = t

abbrev pub cut : ℕ → RawToken → RawToken
cut edition t = cut_as edition t (form t.kind)
