-- The raw kinds that an edition may cut, or whose text every source owes something of.
use Rattle.raw.specs.declared.kinds.RawKind.{RawKind}
use Rattle.raw.specs.declared.kinds.RawKind.TheVariants.{LineComment, BlockComment, Frontmatter, Whitespace, Ident, InvalidIdent, RawIdent, GuardedStrPrefix, Literal, Lifetime, UnknownPrefixLifetime, RawLifetime, Semi, Comma, Dot, OpenParen, CloseParen, OpenBrace, CloseBrace, OpenBracket, CloseBracket, At, Pound, Tilde, Question, Colon, Dollar, Eq, Bang, Lt, Gt, Minus, And, Or, Plus, Star, Slash, Caret, Percent, Unknown, UnknownPrefix, Eof}
use Rattle.raw.specs.declared.kinds.LiteralKind.{LiteralKind}
use Rattle.raw.specs.declared.kinds.LiteralKind.TheVariants.{Int, Float, Char, Byte, Str, ByteStr, CStr, RawStr, RawByteStr, RawCStr}

pub data Form : Type 0 where
  guarded_prefix : Form
  c_string : Form
  raw_c_string : Form
  raw_lifetime : Form
  unknown_prefix : Form
  unknown_lifetime : Form
  end_of_file : Form
  ordinary : Form

abbrev pub literal_form : LiteralKind → Form
literal_form (Int f) = ordinary
literal_form (Float f) = ordinary
literal_form (Char f) = ordinary
literal_form (Byte f) = ordinary
literal_form (Str f) = ordinary
literal_form (ByteStr f) = ordinary
literal_form (CStr f) = c_string
literal_form (RawStr f) = ordinary
literal_form (RawByteStr f) = ordinary
literal_form (RawCStr f) = raw_c_string

abbrev pub form : RawKind → Form
form (LineComment a) = ordinary
form (BlockComment a b) = ordinary
form (Frontmatter a b) = ordinary
form Whitespace = ordinary
form Ident = ordinary
form InvalidIdent = ordinary
form RawIdent = ordinary
form GuardedStrPrefix = guarded_prefix
form (Literal l) = literal_form l
form (Lifetime a) = ordinary
form UnknownPrefixLifetime = unknown_lifetime
form RawLifetime = raw_lifetime
form Semi = ordinary
form Comma = ordinary
form Dot = ordinary
form OpenParen = ordinary
form CloseParen = ordinary
form OpenBrace = ordinary
form CloseBrace = ordinary
form OpenBracket = ordinary
form CloseBracket = ordinary
form At = ordinary
form Pound = ordinary
form Tilde = ordinary
form Question = ordinary
form Colon = ordinary
form Dollar = ordinary
form Eq = ordinary
form Bang = ordinary
form Lt = ordinary
form Gt = ordinary
form Minus = ordinary
form And = ordinary
form Or = ordinary
form Plus = ordinary
form Star = ordinary
form Slash = ordinary
form Caret = ordinary
form Percent = ordinary
form Unknown = ordinary
form UnknownPrefix = unknown_prefix
form Eof = end_of_file
