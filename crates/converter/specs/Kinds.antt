-- The kind of a token, by its raw kind and its text.
use Rattle.std.specs.Prelude.{ℕ, cond, ◌&&◌, List, length, Some, None, Option, ◌==◌, slice_index}
use Rattle.syntax_kind.specs.Keywords.{look_up, strict}
use Rattle.raw.specs.declared.kinds.DocStyle.{DocStyle}
use Rattle.raw.specs.declared.kinds.DocStyle.TheVariants.{Outer, Inner}
use Rattle.raw.specs.declared.kinds.LiteralKind.{LiteralKind}
use Rattle.raw.specs.declared.kinds.LiteralKind.TheVariants.{Int, Float, Char, Byte, Str, ByteStr, CStr, RawStr, RawByteStr, RawCStr}
use Rattle.raw.specs.declared.kinds.RawKind.{RawKind}
use Rattle.raw.specs.declared.kinds.RawKind.TheVariants.{LineComment, BlockComment, Frontmatter, Whitespace, Ident, InvalidIdent, RawIdent, GuardedStrPrefix, Literal, Lifetime, UnknownPrefixLifetime, RawLifetime, Semi, Comma, Dot, OpenParen, CloseParen, OpenBrace, CloseBrace, OpenBracket, CloseBracket, At, Pound, Tilde, Question, Colon, Dollar, Eq, Bang, Lt, Gt, Minus, And, Or, Plus, Star, Slash, Caret, Percent, Unknown, UnknownPrefix, Eof}
use Rattle.converter.specs.Names.{EOF, UNDERSCORE, BYTE, BYTE_STRING, CHAR, C_STRING, FLOAT_NUMBER, INT_NUMBER, STRING, COMMENT, ERROR, FRONTMATTER, IDENT, INNER_DOC_COMMENT, LIFETIME_IDENT, OUTER_DOC_COMMENT, WHITESPACE, SEMICOLON, COMMA, DOT, L_PAREN, R_PAREN, L_CURLY, R_CURLY, L_BRACK, R_BRACK, AT, POUND, TILDE, QUESTION, COLON, DOLLAR, EQ, BANG, L_ANGLE, R_ANGLE, MINUS, AMP, PIPE, PLUS, STAR, SLASH, CARET, PERCENT}

abbrev pub comment_kind : Option DocStyle → ℕ
comment_kind None = COMMENT
comment_kind (Some Outer) = OUTER_DOC_COMMENT
comment_kind (Some Inner) = INNER_DOC_COMMENT

-- the keyword's kind, or that of a name
abbrev pub keyword_or : Option ℕ → ℕ
keyword_or None = IDENT
keyword_or (Some kind) = kind

-- a name may be the underscore, or a keyword of the edition
abbrev pub name_kind : ℕ → List ℕ → ℕ
name_kind edition text = cond (length text == 1 && slice_index text 0 == 95) UNDERSCORE (keyword_or (look_up strict text edition))

abbrev pub literal_kind : LiteralKind → ℕ
literal_kind (Int e) = INT_NUMBER
literal_kind (Float e) = FLOAT_NUMBER
literal_kind (Char t) = CHAR
literal_kind (Byte t) = BYTE
literal_kind (Str t) = STRING
literal_kind (ByteStr t) = BYTE_STRING
literal_kind (CStr t) = C_STRING
literal_kind (RawStr v) = STRING
literal_kind (RawByteStr v) = BYTE_STRING
literal_kind (RawCStr v) = C_STRING

abbrev pub kind_of : ℕ → List ℕ → RawKind → ℕ
kind_of edition text (LineComment doc) = comment_kind doc
kind_of edition text (BlockComment doc t) = comment_kind doc
kind_of edition text (Frontmatter w i) = FRONTMATTER
kind_of edition text Whitespace = WHITESPACE
kind_of edition text Ident = name_kind edition text
kind_of edition text InvalidIdent = IDENT
kind_of edition text RawIdent = IDENT
kind_of edition text GuardedStrPrefix = ERROR
kind_of edition text (Literal l) = literal_kind l
kind_of edition text (Lifetime n) = LIFETIME_IDENT
kind_of edition text UnknownPrefixLifetime = LIFETIME_IDENT
kind_of edition text RawLifetime = LIFETIME_IDENT
kind_of edition text Semi = SEMICOLON
kind_of edition text Comma = COMMA
kind_of edition text Dot = DOT
kind_of edition text OpenParen = L_PAREN
kind_of edition text CloseParen = R_PAREN
kind_of edition text OpenBrace = L_CURLY
kind_of edition text CloseBrace = R_CURLY
kind_of edition text OpenBracket = L_BRACK
kind_of edition text CloseBracket = R_BRACK
kind_of edition text At = AT
kind_of edition text Pound = POUND
kind_of edition text Tilde = TILDE
kind_of edition text Question = QUESTION
kind_of edition text Colon = COLON
kind_of edition text Dollar = DOLLAR
kind_of edition text Eq = EQ
kind_of edition text Bang = BANG
kind_of edition text Lt = L_ANGLE
kind_of edition text Gt = R_ANGLE
kind_of edition text Minus = MINUS
kind_of edition text And = AMP
kind_of edition text Or = PIPE
kind_of edition text Plus = PLUS
kind_of edition text Star = STAR
kind_of edition text Slash = SLASH
kind_of edition text Caret = CARET
kind_of edition text Percent = PERCENT
kind_of edition text Unknown = ERROR
kind_of edition text UnknownPrefix = IDENT
kind_of edition text Eof = EOF
