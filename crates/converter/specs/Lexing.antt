-- The columns that lexing gives: the head's tokens, then what the source gives at each place, up to the end.
use Rattle.std.specs.Prelude.{ℕ, zero, suc, ◌+◌, ◌-◌, cond, List, [], ◌∷◌, ◌++◌, map, length, Some, None, Ok, Err, Option, ◌==◌, nat_lt}
use Rattle.std.specs.List.{between}
use Rattle.frontmatter.specs.declared.source.Span.{Span}
use Rattle.frontmatter.specs.Parsed.{Answer, parsed}
use Rattle.raw.specs.declared.kinds.RawToken.{RawToken}
use Rattle.lexed_str.specs.declared.error.LexError.{LexError}
use Rattle.converter.specs.declared.progress.Head.{Head}
use Rattle.converter.specs.Names.{SHEBANG, FRONTMATTER}
use Rattle.converter.specs.Kinds.{kind_of}
use Rattle.converter.specs.Codes.{codes_of}
use Rattle.converter.specs.Cuts.{cut}
use Rattle.converter.specs.Hints.{hint}
use Rattle.converter.specs.Meaning.{Meaning}

-- columns that reach up to a place of the script
pub record Lexed : Type 0 where
  pub kinds : List ℕ
  pub starts : List ℕ
  pub errors : List LexError
  pub place : ℕ

abbrev pub nothing : Lexed
nothing = record { kinds = []; starts = []; errors = []; place = 0 }

abbrev pub lex_error : ℕ → ℕ → LexError
lex_error token code = record { token = token; code = code }

-- one token more, up to `end`, with its codes
abbrev pub add : ℕ → ℕ → List ℕ → Lexed → Lexed
add kind end codes l = record {
  kinds = l.kinds ++ kind ∷ [];
  starts = l.starts ++ l.place ∷ [];
  errors = l.errors ++ map (lex_error (length l.kinds)) codes;
  place = end;
}

-- where the head's tokens end, if they are there: the shebang's line, and the frontmatter with the blank lines before it, up to
-- the content; where the frontmatter has a fault, there is only the shebang that the source tells of
abbrev pub line_end : Option Span → Option ℕ
line_end None = None
line_end (Some line) = Some line.end

abbrev pub content_start : Option Span → ℕ → Option ℕ
content_start None content = None
content_start (Some frontmatter) content = Some content

abbrev pub told : ℕ → Option ℕ
told shebang = cond (shebang == 0) None (Some shebang)

abbrev pub head_ends : Answer → ℕ → Head
head_ends (Ok s) shebang = record { shebang = line_end s.shebang; frontmatter = content_start s.frontmatter s.content.start }
head_ends (Err fault) shebang = record { shebang = told shebang; frontmatter = None }

abbrev pub add_up_to : ℕ → Option ℕ → Lexed → Lexed
add_up_to kind None l = l
add_up_to kind (Some end) l = add kind end [] l

-- the columns of the head
abbrev pub head : Head → Lexed
head h = add_up_to FRONTMATTER h.frontmatter (add_up_to SHEBANG h.shebang nothing)

-- the raw token at the place, under the edition's cut
abbrev pub cut_at : Meaning → ℕ → ℕ → RawToken
cut_at m edition p = cut edition (m.token p)

abbrev pub end_at : Meaning → ℕ → ℕ → ℕ
end_at m edition p = p + (cut_at m edition p).len

abbrev pub text_at : Meaning → ℕ → ℕ → List ℕ
text_at m edition p = between p (end_at m edition p) m.script

abbrev pub kind_at : Meaning → ℕ → ℕ → ℕ
kind_at m edition p = kind_of edition (text_at m edition p) (cut_at m edition p).kind

-- the codes of the token at p, where n tokens stand before it in the columns
abbrev pub codes_at : Meaning → ℕ → List ℕ → List ℕ → ℕ → ℕ → List ℕ
codes_at m edition kinds starts n p = codes_of (hint m.script kinds starts 5 n p) (text_at m edition p) (cut_at m edition p).kind (m.faults p)

-- one token of the source more
abbrev pub extend : Meaning → ℕ → Lexed → Lexed
extend m edition l = add (kind_at m edition l.place) (end_at m edition l.place) (codes_at m edition l.kinds l.starts (length l.kinds) l.place) l

-- tokens of the source up to the script's end, n of them at most
abbrev pub extend_all : Meaning → ℕ → ℕ → Lexed → Lexed
extend_all m edition zero l = l
extend_all m edition (suc n) l = cond (nat_lt l.place (length m.script)) (extend_all m edition n (extend m edition l)) l

abbrev pub head_of : Meaning → Lexed
head_of m = head (head_ends (parsed m.script) m.shebang)

abbrev pub lexed : Meaning → ℕ → Lexed
lexed m edition = extend_all m edition (length m.script - length (head_of m).kinds) (head_of m)
