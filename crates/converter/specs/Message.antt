-- The messages of lexing: the code of each, by which it is known outside, and its text.
use Rattle.std.specs.Prelude.{◌≡◌, ℕ, ◌<◌, ◌⊎◌, List, ◌++◌, codes, decimal, Result, MatchResult}
use Rattle.converter.specs.declared.message.Message.{Message}
use Rattle.converter.specs.declared.message.Message.TheVariants.{UnterminatedBlockComment, InvalidFrontmatterWhitespace, InvalidInfostring, InvalidIdent, ReservedStringLiteral, LifetimeStartsWithNumber, UnknownLifetimePrefix, UnknownPrefixNearString, UnknownPrefix, InvalidRawString, EmptyInt, EmptyExponent, UnterminatedChar, UnterminatedByte, UnterminatedStr, UnterminatedByteStr, UnterminatedCStr, ZeroChars, MoreThanOneChar, UnknownByteEscape, UnknownCharEscape, UnescapedByte, UnescapedChar, TooShortHexEscape, InvalidCharInHexEscape, OutOfRangeHexEscape, NoBraceInUnicodeEscape, InvalidCharInUnicodeEscape, EmptyUnicodeEscape, UnclosedUnicodeEscape, LeadingUnderscoreUnicodeEscape, OverlongUnicodeEscape, InvalidUnicodeEscape, UnicodeEscapeInByte, NonAsciiCharInByte, NonAsciiCharInByteStr, NonAsciiCharInRawByteStr, NulInCStr}
use Rattle.converter.specs.declared.message.UnknownMessage.{UnknownMessage}

abbrev pub message_code : Message → ℕ
message_code UnterminatedBlockComment = 1
message_code InvalidFrontmatterWhitespace = 2
message_code InvalidInfostring = 3
message_code InvalidIdent = 4
message_code ReservedStringLiteral = 5
message_code LifetimeStartsWithNumber = 6
message_code UnknownLifetimePrefix = 7
message_code UnknownPrefixNearString = 8
message_code UnknownPrefix = 9
message_code InvalidRawString = 10
message_code EmptyInt = 11
message_code EmptyExponent = 12
message_code UnterminatedChar = 13
message_code UnterminatedByte = 14
message_code UnterminatedStr = 15
message_code UnterminatedByteStr = 16
message_code UnterminatedCStr = 17
message_code ZeroChars = 18
message_code MoreThanOneChar = 19
message_code UnknownByteEscape = 20
message_code UnknownCharEscape = 21
message_code UnescapedByte = 22
message_code UnescapedChar = 23
message_code TooShortHexEscape = 24
message_code InvalidCharInHexEscape = 25
message_code OutOfRangeHexEscape = 26
message_code NoBraceInUnicodeEscape = 27
message_code InvalidCharInUnicodeEscape = 28
message_code EmptyUnicodeEscape = 29
message_code UnclosedUnicodeEscape = 30
message_code LeadingUnderscoreUnicodeEscape = 31
message_code OverlongUnicodeEscape = 32
message_code InvalidUnicodeEscape = 33
message_code UnicodeEscapeInByte = 34
message_code NonAsciiCharInByte = 35
message_code NonAsciiCharInByteStr = 36
message_code NonAsciiCharInRawByteStr = 37
message_code NulInCStr = 38

-- the message with this code, or the code itself where there is no such message
abbrev pub CodeOf : ℕ → Result Message UnknownMessage → Type 0
CodeOf code r = MatchResult r (λ m. message_code m ≡ code) (λ e. (e.0 ≡ code) × ((code ≡ 0) ⊎ (38 < code)))

abbrev pub message_text : Message → List ℕ
message_text UnterminatedBlockComment = codes "Missing trailing `*/` symbols to terminate the block comment"
message_text InvalidFrontmatterWhitespace = codes "invalid preceding whitespace for frontmatter opening"
message_text InvalidInfostring = codes "invalid infostring for frontmatter"
message_text InvalidIdent = codes "Ident contains invalid characters"
message_text ReservedStringLiteral = codes "Invalid string literal (reserved syntax)"
message_text LifetimeStartsWithNumber = codes "Lifetime name cannot start with a number"
message_text UnknownLifetimePrefix = codes "Unknown lifetime prefix"
message_text UnknownPrefixNearString = codes "unknown literal prefix (note: check for unterminated string literal)"
message_text UnknownPrefix = codes "unknown literal prefix"
message_text InvalidRawString = codes "Invalid raw string literal"
message_text EmptyInt = codes "Missing digits after the integer base prefix"
message_text EmptyExponent = codes "Missing digits after the exponent symbol"
message_text UnterminatedChar = codes "Missing trailing `'` symbol to terminate the character literal"
message_text UnterminatedByte = codes "Missing trailing `'` symbol to terminate the byte literal"
message_text UnterminatedStr = codes "Missing trailing `\"` symbol to terminate the string literal"
message_text UnterminatedByteStr = codes "Missing trailing `\"` symbol to terminate the byte string literal"
message_text UnterminatedCStr = codes "Missing trailing `\"` symbol to terminate the C string literal"
message_text ZeroChars = codes "empty character literal"
message_text MoreThanOneChar = codes "character literal may only contain one codepoint"
message_text UnknownByteEscape = codes "unknown byte escape"
message_text UnknownCharEscape = codes "unknown character escape"
message_text UnescapedByte = codes "byte constant must be escaped"
message_text UnescapedChar = codes "character constant must be escaped"
message_text TooShortHexEscape = codes "numeric character escape is too short"
message_text InvalidCharInHexEscape = codes "invalid character in numeric character escape"
message_text OutOfRangeHexEscape = codes "out of range hex escape"
message_text NoBraceInUnicodeEscape = codes "incorrect unicode escape sequence"
message_text InvalidCharInUnicodeEscape = codes "invalid character in unicode escape"
message_text EmptyUnicodeEscape = codes "empty unicode escape"
message_text UnclosedUnicodeEscape = codes "unterminated unicode escape"
message_text LeadingUnderscoreUnicodeEscape = codes "invalid start of unicode escape"
message_text OverlongUnicodeEscape = codes "overlong unicode escape"
message_text InvalidUnicodeEscape = codes "invalid unicode character escape"
message_text UnicodeEscapeInByte = codes "unicode escape in byte string"
message_text NonAsciiCharInByte = codes "non-ASCII character in byte literal"
message_text NonAsciiCharInByteStr = codes "non-ASCII character in byte string literal"
message_text NonAsciiCharInRawByteStr = codes "non-ASCII character in raw byte string literal"
message_text NulInCStr = codes "null character in C string literal"

abbrev pub unknown_text : ℕ → List ℕ
unknown_text code = codes "no message has the code " ++ decimal code
