-- What is said of a token: the codes of its messages.
use Rattle.std.specs.Prelude.{ℕ, Bool, cond, List, [], ◌∷◌, ◌++◌, Some, None, codes, Option}
use Rattle.std.specs.Str.{bytes_eq}
use Rattle.raw.specs.declared.kinds.EscapeError.{EscapeError}
use Rattle.raw.specs.declared.kinds.LiteralKind.{LiteralKind}
use Rattle.raw.specs.declared.kinds.LiteralKind.TheVariants.{Int, Float, Char, Byte, Str, ByteStr, CStr, RawStr, RawByteStr, RawCStr}
use Rattle.raw.specs.declared.kinds.RawKind.{RawKind}
use Rattle.raw.specs.declared.kinds.RawKind.TheVariants.{LineComment, BlockComment, Frontmatter, Whitespace, Ident, InvalidIdent, RawIdent, GuardedStrPrefix, Literal, Lifetime, UnknownPrefixLifetime, RawLifetime, Semi, Comma, Dot, OpenParen, CloseParen, OpenBrace, CloseBrace, OpenBracket, CloseBracket, At, Pound, Tilde, Question, Colon, Dollar, Eq, Bang, Lt, Gt, Minus, And, Or, Plus, Star, Slash, Caret, Percent, Unknown, UnknownPrefix, Eof}
use Rattle.converter.specs.declared.messages.Mode.{Mode}
use Rattle.converter.specs.declared.messages.Mode.TheVariants as mode
use Rattle.converter.specs.declared.complaint.Complaint.{Complaint}
use Rattle.converter.specs.declared.complaint.Complaint.TheVariants.{Silent, Says, First, Every, Prefix}
use Rattle.converter.specs.declared.message.Message.{Message}
use Rattle.converter.specs.declared.message.Message.TheVariants as says
use Rattle.converter.specs.Message.{message_code}
use Rattle.converter.specs.Messages.{message}

-- where something is wrong, its one message
abbrev pub say_if : Bool → Message → Complaint
say_if wrong m = cond wrong (Says m) Silent

-- of a literal: an unterminated one misses its end, and no more is said of it; of a character or byte only the first fault
-- counts; a raw string is valid or not, and its faults are not looked at
abbrev pub literal_complaint : LiteralKind → Complaint
literal_complaint (Int empty) = say_if empty says.EmptyInt
literal_complaint (Float empty) = say_if empty says.EmptyExponent
literal_complaint (Char terminated) = cond terminated (First mode.Char) (Says says.UnterminatedChar)
literal_complaint (Byte terminated) = cond terminated (First mode.Byte) (Says says.UnterminatedByte)
literal_complaint (Str terminated) = cond terminated (Every mode.Str) (Says says.UnterminatedStr)
literal_complaint (ByteStr terminated) = cond terminated (Every mode.ByteStr) (Says says.UnterminatedByteStr)
literal_complaint (CStr terminated) = cond terminated (Every mode.CStr) (Says says.UnterminatedCStr)
literal_complaint (RawStr valid) = cond valid Silent (Says says.InvalidRawString)
literal_complaint (RawByteStr valid) = cond valid Silent (Says says.InvalidRawString)
literal_complaint (RawCStr valid) = cond valid Silent (Says says.InvalidRawString)

abbrev pub complaint_of : RawKind → Complaint
complaint_of (LineComment doc) = Silent
complaint_of (BlockComment doc terminated) = cond terminated Silent (Says says.UnterminatedBlockComment)
complaint_of (Frontmatter space info) = cond space (Says says.InvalidFrontmatterWhitespace) (say_if info says.InvalidInfostring)
complaint_of Whitespace = Silent
complaint_of Ident = Silent
complaint_of InvalidIdent = Says says.InvalidIdent
complaint_of RawIdent = Silent
complaint_of GuardedStrPrefix = Says says.ReservedStringLiteral
complaint_of (Literal l) = literal_complaint l
complaint_of (Lifetime number) = say_if number says.LifetimeStartsWithNumber
complaint_of UnknownPrefixLifetime = Says says.UnknownLifetimePrefix
complaint_of RawLifetime = Silent
complaint_of Semi = Silent
complaint_of Comma = Silent
complaint_of Dot = Silent
complaint_of OpenParen = Silent
complaint_of CloseParen = Silent
complaint_of OpenBrace = Silent
complaint_of CloseBrace = Silent
complaint_of OpenBracket = Silent
complaint_of CloseBracket = Silent
complaint_of At = Silent
complaint_of Pound = Silent
complaint_of Tilde = Silent
complaint_of Question = Silent
complaint_of Colon = Silent
complaint_of Dollar = Silent
complaint_of Eq = Silent
complaint_of Bang = Silent
complaint_of Lt = Silent
complaint_of Gt = Silent
complaint_of Minus = Silent
complaint_of And = Silent
complaint_of Or = Silent
complaint_of Plus = Silent
complaint_of Star = Silent
complaint_of Slash = Silent
complaint_of Caret = Silent
complaint_of Percent = Silent
complaint_of Unknown = Silent
complaint_of UnknownPrefix = Prefix
complaint_of Eof = Silent

-- an unknown prefix: `builtin` is one that the parser knows; the hint is that a string before it is likely unterminated
abbrev pub settled : Bool → List ℕ → Complaint → Complaint
settled hint text Silent = Silent
settled hint text (Says m) = Says m
settled hint text (First m) = First m
settled hint text (Every m) = Every m
settled hint text Prefix = cond (bytes_eq text (codes "builtin")) Silent (cond hint (Says says.UnknownPrefixNearString) (Says says.UnknownPrefix))

-- the code of the message, where there is one
abbrev pub listed : Option Message → List ℕ
listed None = []
listed (Some m) = message_code m ∷ []

-- the messages of all faults, in order
abbrev pub messages : Mode → List EscapeError → List ℕ
messages m [] = []
messages m (e ∷ es) = message m e ++ messages m es

-- the message of the first fault alone
abbrev pub first_message : Mode → List EscapeError → List ℕ
first_message m [] = []
first_message m (e ∷ es) = message m e

-- the codes of a settled complaint about a token with these faults
abbrev pub said : List EscapeError → Complaint → List ℕ
said es Silent = []
said es (Says m) = message_code m ∷ []
said es (First m) = first_message m es
said es (Every m) = messages m es
said es Prefix = []

abbrev pub codes_of : Bool → List ℕ → RawKind → List EscapeError → List ℕ
codes_of hint text kind es = said es (settled hint text (complaint_of kind))
