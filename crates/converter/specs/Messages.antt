-- The code of an escape fault's message, in the mode of its literal; a fault without a message has none.
use Rattle.std.specs.Prelude.{ℕ, List, [], ◌∷◌}
use Rattle.raw.specs.declared.kinds.EscapeError.{EscapeError}
use Rattle.raw.specs.declared.kinds.EscapeError.TheVariants.{ZeroChars, MoreThanOneChar, LoneSlash, InvalidEscape, BareCarriageReturn, BareCarriageReturnInRawString, EscapeOnlyChar, TooShortHexEscape, InvalidCharInHexEscape, OutOfRangeHexEscape, NoBraceInUnicodeEscape, InvalidCharInUnicodeEscape, EmptyUnicodeEscape, UnclosedUnicodeEscape, LeadingUnderscoreUnicodeEscape, OverlongUnicodeEscape, LoneSurrogateUnicodeEscape, OutOfRangeUnicodeEscape, UnicodeEscapeInByte, NonAsciiCharInByte, NulInCStr, UnskippedWhitespaceWarning, MultipleSkippedLinesWarning}
use Rattle.converter.specs.declared.messages.Mode.{Mode}
use Rattle.converter.specs.declared.messages.Mode.TheVariants.{Char, Byte, Str, ByteStr, CStr}

abbrev pub invalid_escape : Mode → ℕ
invalid_escape Char = 21
invalid_escape Byte = 20
invalid_escape Str = 21
invalid_escape ByteStr = 20
invalid_escape CStr = 21

abbrev pub escape_only : Mode → ℕ
escape_only Char = 23
escape_only Byte = 22
escape_only Str = 23
escape_only ByteStr = 23
escape_only CStr = 23

abbrev pub non_ascii : Mode → ℕ
non_ascii Char = 37
non_ascii Byte = 35
non_ascii Str = 37
non_ascii ByteStr = 36
non_ascii CStr = 37

abbrev pub message : Mode → EscapeError → List ℕ
message m ZeroChars = 18 ∷ []
message m MoreThanOneChar = 19 ∷ []
message m LoneSlash = []
message m InvalidEscape = invalid_escape m ∷ []
message m BareCarriageReturn = []
message m BareCarriageReturnInRawString = []
message m EscapeOnlyChar = escape_only m ∷ []
message m TooShortHexEscape = 24 ∷ []
message m InvalidCharInHexEscape = 25 ∷ []
message m OutOfRangeHexEscape = 26 ∷ []
message m NoBraceInUnicodeEscape = 27 ∷ []
message m InvalidCharInUnicodeEscape = 28 ∷ []
message m EmptyUnicodeEscape = 29 ∷ []
message m UnclosedUnicodeEscape = 30 ∷ []
message m LeadingUnderscoreUnicodeEscape = 31 ∷ []
message m OverlongUnicodeEscape = 32 ∷ []
message m LoneSurrogateUnicodeEscape = 33 ∷ []
message m OutOfRangeUnicodeEscape = 33 ∷ []
message m UnicodeEscapeInByte = 34 ∷ []
message m NonAsciiCharInByte = non_ascii m ∷ []
message m NulInCStr = 38 ∷ []
message m UnskippedWhitespaceWarning = []
message m MultipleSkippedLinesWarning = []
