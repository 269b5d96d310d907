-- The numbers that stand for raw kinds and escape faults.
use Rattle.std.specs.Prelude.{ℕ, ◌+◌, ◌*◌, Bool, cond, Some, None, Option}
use Rattle.raw.specs.declared.kinds.DocStyle.{DocStyle}
use Rattle.raw.specs.declared.kinds.DocStyle.TheVariants.{Outer, Inner}
use Rattle.raw.specs.declared.kinds.LiteralKind.{LiteralKind}
use Rattle.raw.specs.declared.kinds.LiteralKind.TheVariants.{Int, Float, Char, Byte, Str, ByteStr, CStr, RawStr, RawByteStr, RawCStr}
use Rattle.raw.specs.declared.kinds.RawKind.{RawKind}
use Rattle.raw.specs.declared.kinds.RawKind.TheVariants.{LineComment, BlockComment, Frontmatter, Whitespace, Ident, InvalidIdent, RawIdent, GuardedStrPrefix, Literal, Lifetime, UnknownPrefixLifetime, RawLifetime, Semi, Comma, Dot, OpenParen, CloseParen, OpenBrace, CloseBrace, OpenBracket, CloseBracket, At, Pound, Tilde, Question, Colon, Dollar, Eq, Bang, Lt, Gt, Minus, And, Or, Plus, Star, Slash, Caret, Percent, Unknown, UnknownPrefix, Eof}
use Rattle.raw.specs.declared.kinds.EscapeError.{EscapeError}
use Rattle.raw.specs.declared.kinds.EscapeError.TheVariants.{ZeroChars, MoreThanOneChar, LoneSlash, InvalidEscape, BareCarriageReturn, BareCarriageReturnInRawString, EscapeOnlyChar, TooShortHexEscape, InvalidCharInHexEscape, OutOfRangeHexEscape, NoBraceInUnicodeEscape, InvalidCharInUnicodeEscape, EmptyUnicodeEscape, UnclosedUnicodeEscape, LeadingUnderscoreUnicodeEscape, OverlongUnicodeEscape, LoneSurrogateUnicodeEscape, OutOfRangeUnicodeEscape, UnicodeEscapeInByte, NonAsciiCharInByte, NulInCStr, UnskippedWhitespaceWarning, MultipleSkippedLinesWarning}

-- the flag of a kind, which makes its number one more
abbrev pub flag : Bool → ℕ
flag b = cond b 1 0

abbrev pub doc_number : Option DocStyle → ℕ
doc_number None = 0
doc_number (Some Outer) = 1
doc_number (Some Inner) = 2

abbrev pub literal_number : LiteralKind → ℕ
literal_number (Int b) = 18 + flag b
literal_number (Float b) = 20 + flag b
literal_number (Char b) = 22 + flag b
literal_number (Byte b) = 24 + flag b
literal_number (Str b) = 26 + flag b
literal_number (ByteStr b) = 28 + flag b
literal_number (CStr b) = 30 + flag b
literal_number (RawStr b) = 32 + flag b
literal_number (RawByteStr b) = 34 + flag b
literal_number (RawCStr b) = 36 + flag b

abbrev pub kind_number : RawKind → ℕ
kind_number (LineComment d) = doc_number d
kind_number (BlockComment d t) = 3 + 2 * doc_number d + flag t
kind_number (Frontmatter w i) = 9 + 2 * flag w + flag i
kind_number Whitespace = 13
kind_number Ident = 14
kind_number InvalidIdent = 15
kind_number RawIdent = 16
kind_number GuardedStrPrefix = 17
kind_number (Literal k) = literal_number k
kind_number (Lifetime n) = 38 + flag n
kind_number UnknownPrefixLifetime = 40
kind_number RawLifetime = 41
kind_number Semi = 42
kind_number Comma = 43
kind_number Dot = 44
kind_number OpenParen = 45
kind_number CloseParen = 46
kind_number OpenBrace = 47
kind_number CloseBrace = 48
kind_number OpenBracket = 49
kind_number CloseBracket = 50
kind_number At = 51
kind_number Pound = 52
kind_number Tilde = 53
kind_number Question = 54
kind_number Colon = 55
kind_number Dollar = 56
kind_number Eq = 57
kind_number Bang = 58
kind_number Lt = 59
kind_number Gt = 60
kind_number Minus = 61
kind_number And = 62
kind_number Or = 63
kind_number Plus = 64
kind_number Star = 65
kind_number Slash = 66
kind_number Caret = 67
kind_number Percent = 68
kind_number Unknown = 69
kind_number UnknownPrefix = 70
kind_number Eof = 71

abbrev pub fault_number : EscapeError → ℕ
fault_number ZeroChars = 0
fault_number MoreThanOneChar = 1
fault_number LoneSlash = 2
fault_number InvalidEscape = 3
fault_number BareCarriageReturn = 4
fault_number BareCarriageReturnInRawString = 5
fault_number EscapeOnlyChar = 6
fault_number TooShortHexEscape = 7
fault_number InvalidCharInHexEscape = 8
fault_number OutOfRangeHexEscape = 9
fault_number NoBraceInUnicodeEscape = 10
fault_number InvalidCharInUnicodeEscape = 11
fault_number EmptyUnicodeEscape = 12
fault_number UnclosedUnicodeEscape = 13
fault_number LeadingUnderscoreUnicodeEscape = 14
fault_number OverlongUnicodeEscape = 15
fault_number LoneSurrogateUnicodeEscape = 16
fault_number OutOfRangeUnicodeEscape = 17
fault_number UnicodeEscapeInByte = 18
fault_number NonAsciiCharInByte = 19
fault_number NulInCStr = 20
fault_number UnskippedWhitespaceWarning = 21
fault_number MultipleSkippedLinesWarning = 22
