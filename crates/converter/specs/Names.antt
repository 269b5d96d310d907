-- The numbers of the kinds that tokens have.
use Rattle.std.specs.Prelude.{ℕ}

abbrev pub EOF : ℕ
EOF = 1

abbrev pub UNDERSCORE : ℕ
UNDERSCORE = 24

abbrev pub BYTE : ℕ
BYTE = 143

abbrev pub BYTE_STRING : ℕ
BYTE_STRING = 144

abbrev pub CHAR : ℕ
CHAR = 145

abbrev pub C_STRING : ℕ
C_STRING = 146

abbrev pub FLOAT_NUMBER : ℕ
FLOAT_NUMBER = 147

abbrev pub INT_NUMBER : ℕ
INT_NUMBER = 148

abbrev pub STRING : ℕ
STRING = 149

abbrev pub COMMENT : ℕ
COMMENT = 150

abbrev pub ERROR : ℕ
ERROR = 151

abbrev pub FRONTMATTER : ℕ
FRONTMATTER = 152

abbrev pub IDENT : ℕ
IDENT = 153

abbrev pub INNER_DOC_COMMENT : ℕ
INNER_DOC_COMMENT = 154

abbrev pub LIFETIME_IDENT : ℕ
LIFETIME_IDENT = 155

abbrev pub OUTER_DOC_COMMENT : ℕ
OUTER_DOC_COMMENT = 157

abbrev pub SHEBANG : ℕ
SHEBANG = 158

abbrev pub WHITESPACE : ℕ
WHITESPACE = 159

abbrev pub SEMICOLON : ℕ
SEMICOLON = 3

abbrev pub COMMA : ℕ
COMMA = 4

abbrev pub DOT : ℕ
DOT = 25

abbrev pub L_PAREN : ℕ
L_PAREN = 5

abbrev pub R_PAREN : ℕ
R_PAREN = 6

abbrev pub L_CURLY : ℕ
L_CURLY = 7

abbrev pub R_CURLY : ℕ
R_CURLY = 8

abbrev pub L_BRACK : ℕ
L_BRACK = 9

abbrev pub R_BRACK : ℕ
R_BRACK = 10

abbrev pub AT : ℕ
AT = 13

abbrev pub POUND : ℕ
POUND = 14

abbrev pub TILDE : ℕ
TILDE = 15

abbrev pub QUESTION : ℕ
QUESTION = 16

abbrev pub COLON : ℕ
COLON = 29

abbrev pub DOLLAR : ℕ
DOLLAR = 2

abbrev pub EQ : ℕ
EQ = 31

abbrev pub BANG : ℕ
BANG = 34

abbrev pub L_ANGLE : ℕ
L_ANGLE = 11

abbrev pub R_ANGLE : ℕ
R_ANGLE = 12

abbrev pub MINUS : ℕ
MINUS = 36

abbrev pub AMP : ℕ
AMP = 17

abbrev pub PIPE : ℕ
PIPE = 18

abbrev pub PLUS : ℕ
PLUS = 19

abbrev pub STAR : ℕ
STAR = 20

abbrev pub SLASH : ℕ
SLASH = 21

abbrev pub CARET : ℕ
CARET = 22

abbrev pub PERCENT : ℕ
PERCENT = 23
