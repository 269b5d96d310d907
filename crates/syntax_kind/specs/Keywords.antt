-- Keywords: which texts are keywords of which kind, in which editions.
-- An edition is a number: 0 for 2015, 1 for 2018, 2 for 2021, 3 for 2024.
use Rattle.std.specs.Prelude.{ℕ, Bool, cond, ◌&&◌, List, [], ◌∷◌, Some, None, Ok, Err, codes, Option, Result, nat_le}
use Rattle.std.specs.Str.{bytes_eq}
use Rattle.syntax_kind.specs.declared.Refusal.{Refusal}
use Rattle.syntax_kind.specs.declared.Refusal.TheVariants.{Edition}

-- a keyword: its text, its kind's number, and the first and the last edition that have it
pub record Entry : Type 0 where
  pub text : List ℕ
  pub kind : ℕ
  pub first : ℕ
  pub last : ℕ

-- an entry by its four parts
abbrev pub entry : List ℕ → ℕ → ℕ → ℕ → Entry
entry text kind first last = record { text = text; kind = kind; first = first; last = last }

-- the entry is a keyword of this edition, with this text
abbrev pub fits : Entry → List ℕ → ℕ → Bool
fits e text edition = nat_le e.first edition && (nat_le edition e.last && bytes_eq e.text text)

-- the kind of the first entry that fits the text and the edition
abbrev pub look_up : List Entry → List ℕ → ℕ → Option ℕ
look_up [] text edition = None
look_up (e ∷ es) text edition = cond (fits e text edition) (Some e.kind) (look_up es text edition)

-- the strict keywords: such a text is a keyword wherever it stands
abbrev pub strict_rows : List Entry
strict_rows =
    entry (codes "Self") 54 0 3 ∷
    entry (codes "abstract") 55 0 3 ∷
    entry (codes "as") 56 0 3 ∷
    entry (codes "become") 57 0 3 ∷
    entry (codes "box") 58 0 3 ∷
    entry (codes "break") 59 0 3 ∷
    entry (codes "const") 60 0 3 ∷
    entry (codes "continue") 61 0 3 ∷
    entry (codes "crate") 62 0 3 ∷
    entry (codes "do") 63 0 3 ∷
    entry (codes "else") 64 0 3 ∷
    entry (codes "enum") 65 0 3 ∷
    entry (codes "extern") 66 0 3 ∷
    entry (codes "false") 67 0 3 ∷
    entry (codes "final") 68 0 3 ∷
    entry (codes "fn") 69 0 3 ∷
    entry (codes "for") 70 0 3 ∷
    entry (codes "if") 71 0 3 ∷
    entry (codes "impl") 72 0 3 ∷
    entry (codes "in") 73 0 3 ∷
    entry (codes "let") 74 0 3 ∷
    entry (codes "loop") 75 0 3 ∷
    entry (codes "macro") 76 0 3 ∷
    entry (codes "match") 77 0 3 ∷
    entry (codes "mod") 78 0 3 ∷
    entry (codes "move") 79 0 3 ∷
    entry (codes "mut") 80 0 3 ∷
    entry (codes "override") 81 0 3 ∷
    entry (codes "priv") 82 0 3 ∷
    entry (codes "pub") 83 0 3 ∷
    entry (codes "ref") 84 0 3 ∷
    entry (codes "return") 85 0 3 ∷
    entry (codes "self") 86 0 3 ∷
    entry (codes "static") 87 0 3 ∷
    entry (codes "struct") 88 0 3 ∷
    entry (codes "super") 89 0 3 ∷
    entry (codes "trait") 90 0 3 ∷
    entry (codes "true") 91 0 3 ∷
    entry (codes "type") 92 0 3 ∷
    entry (codes "typeof") 93 0 3 ∷
    entry (codes "unsafe") 94 0 3 ∷
    entry (codes "unsized") 95 0 3 ∷
    entry (codes "use") 96 0 3 ∷
    entry (codes "virtual") 97 0 3 ∷
    entry (codes "where") 98 0 3 ∷
    entry (codes "while") 99 0 3 ∷
    entry (codes "yield") 100 0 3 ∷
    entry (codes "async") 102 1 3 ∷
    entry (codes "await") 105 1 3 ∷
    entry (codes "dyn") 113 1 3 ∷
    entry (codes "gen") 115 3 3 ∷
    entry (codes "try") 140 1 3 ∷
    []

-- the contextual keywords: such a text is a keyword where the grammar asks for it, else an identifier
abbrev pub contextual_rows : List Entry
contextual_rows =
    entry (codes "asm") 101 0 3 ∷
    entry (codes "att_syntax") 103 0 3 ∷
    entry (codes "auto") 104 0 3 ∷
    entry (codes "bikeshed") 106 0 3 ∷
    entry (codes "builtin") 107 0 3 ∷
    entry (codes "cfg") 109 0 3 ∷
    entry (codes "cfg_attr") 108 0 3 ∷
    entry (codes "clobber_abi") 110 0 3 ∷
    entry (codes "default") 111 0 3 ∷
    entry (codes "deref") 112 0 3 ∷
    entry (codes "dyn") 113 0 0 ∷
    entry (codes "format_args") 114 0 3 ∷
    entry (codes "global_asm") 116 0 3 ∷
    entry (codes "include_bytes") 117 0 3 ∷
    entry (codes "inlateout") 118 0 3 ∷
    entry (codes "inout") 119 0 3 ∷
    entry (codes "is") 120 0 3 ∷
    entry (codes "label") 121 0 3 ∷
    entry (codes "lateout") 122 0 3 ∷
    entry (codes "macro_rules") 123 0 3 ∷
    entry (codes "may_unwind") 124 0 3 ∷
    entry (codes "naked_asm") 125 0 3 ∷
    entry (codes "nomem") 126 0 3 ∷
    entry (codes "noreturn") 127 0 3 ∷
    entry (codes "nostack") 128 0 3 ∷
    entry (codes "null") 129 0 3 ∷
    entry (codes "offset_of") 130 0 3 ∷
    entry (codes "options") 131 0 3 ∷
    entry (codes "out") 132 0 3 ∷
    entry (codes "pattern_type") 133 0 3 ∷
    entry (codes "preserves_flags") 134 0 3 ∷
    entry (codes "pure") 135 0 3 ∷
    entry (codes "raw") 136 0 3 ∷
    entry (codes "readonly") 137 0 3 ∷
    entry (codes "safe") 138 0 3 ∷
    entry (codes "sym") 139 0 3 ∷
    entry (codes "union") 141 0 3 ∷
    entry (codes "yeet") 142 0 3 ∷
    []

-- the two tables, shut, so that a caller's goal does not spell one out
unfoldable pub strict : List Entry
strict = strict_rows

unfoldable pub contextual : List Entry
contextual = contextual_rows

-- the kind of the keyword that a text is, if it is one, or a refusal
abbrev pub Answer : Type 0
Answer = Result (Option ℕ) Refusal

-- the answer of a table: an edition past the last is refused, whatever the text
abbrev pub answer_of : List Entry → List ℕ → ℕ → Answer
answer_of table text edition = cond (nat_le edition 3) (Ok (look_up table text edition)) (Err Edition)

-- the strict keyword that a text is
abbrev pub keyword_answer : List ℕ → ℕ → Answer
keyword_answer text edition = answer_of strict text edition

-- the contextual keyword that a text is
abbrev pub contextual_answer : List ℕ → ℕ → Answer
contextual_answer text edition = answer_of contextual text edition
