-- Each token has a kind that there is, and none but the end's entry has the end's.
use Rattle.std.proofs.Common.{◌≡◌, ℕ, ◌≤◌, Bool, true, false, cond, ◌&&◌, eqb, ltb, leb, List, [], ◌∷◌, length, get_or, Some, None, Option, refl, ap, arith, leb-true}
use Rattle.std.proofs.lemmas.Bool.{and_parts, cond_both, both_ways}
use Rattle.syntax_kind.specs.Keywords.{Entry, fits, look_up, strict}
use Rattle.raw.specs.Forms.{Form, form, guarded_prefix, c_string, raw_c_string, raw_lifetime, unknown_prefix, unknown_lifetime, end_of_file, ordinary}
use Rattle.raw.specs.Laws.{spelled}
use Rattle.raw.specs.declared.kinds.DocStyle.{DocStyle}
use Rattle.raw.specs.declared.kinds.DocStyle.TheVariants.{Outer, Inner}
use Rattle.raw.specs.declared.kinds.LiteralKind.{LiteralKind}
use Rattle.raw.specs.declared.kinds.LiteralKind.TheVariants.{Int, Float, Char, Byte, Str, ByteStr, CStr, RawStr, RawByteStr, RawCStr}
use Rattle.raw.specs.declared.kinds.RawToken.{RawToken}
use Rattle.raw.specs.declared.kinds.RawKind.{RawKind}
use Rattle.raw.specs.declared.kinds.RawKind.TheVariants.{LineComment, BlockComment, Frontmatter, Whitespace, Ident, InvalidIdent, RawIdent, GuardedStrPrefix, Literal, Lifetime, UnknownPrefixLifetime, RawLifetime, Semi, Comma, Dot, OpenParen, CloseParen, OpenBrace, CloseBrace, OpenBracket, CloseBracket, At, Pound, Tilde, Question, Colon, Dollar, Eq, Bang, Lt, Gt, Minus, And, Or, Plus, Star, Slash, Caret, Percent, Unknown, UnknownPrefix, Eof}
use Rattle.converter.specs.Cuts.{token, cut_as, cut}
use Rattle.converter.specs.Kinds.{comment_kind, keyword_or, name_kind, literal_kind, kind_of}

abbrev pub Proper : ℕ → Type 0
Proper k = (2 ≤ k) × (k ≤ 332)

-- a computed test of the table of keywords
abbrev proper_rows : List Entry → Bool
proper_rows [] = true
proper_rows (e ∷ es) = (leb 2 e.kind && leb e.kind 332) && proper_rows es

strict_proper : proper_rows strict ≡ true
unfolding strict
strict_proper = refl

found_step : (e : Entry) (es : List Entry) (text : List ℕ) (edition : ℕ) (b : Bool) → leb 2 e.kind && leb e.kind 332 ≡ true → Proper (keyword_or (look_up es text edition)) → Proper (keyword_or (cond b (Some e.kind) (look_up es text edition)))
found_step e es text edition true h rest = let p = and_parts (leb 2 e.kind) (leb e.kind 332) h in (leb-true 2 e.kind p.0, leb-true e.kind 332 p.1)
found_step e es text edition false h rest = rest

found_proper : (es : List Entry) (text : List ℕ) (edition : ℕ) → proper_rows es ≡ true → Proper (keyword_or (look_up es text edition))
found_proper [] text edition h = (omega arith, omega arith)
found_proper (e ∷ es) text edition h =
    let p = and_parts (leb 2 e.kind && leb e.kind 332) (proper_rows es) h in
    found_step e es text edition (fits e text edition) p.0 (found_proper es text edition p.1)

abbrev is_end : Form → Bool
is_end guarded_prefix = false
is_end c_string = false
is_end raw_c_string = false
is_end raw_lifetime = false
is_end unknown_prefix = false
is_end unknown_lifetime = false
is_end end_of_file = true
is_end ordinary = false

name_proper : (edition : ℕ) (text : List ℕ) → Proper (name_kind edition text)
name_proper edition text = cond_both (eqb (length text) 1 && eqb (get_or text 0 0) 95) 24 (keyword_or (look_up strict text edition)) Proper (λ _. (omega arith, omega arith)) (λ _. found_proper strict text edition strict_proper)

comment_proper : (d : Option DocStyle) → Proper (comment_kind d)
comment_proper None = (omega arith, omega arith)
comment_proper (Some Outer) = (omega arith, omega arith)
comment_proper (Some Inner) = (omega arith, omega arith)

literal_proper : (l : LiteralKind) → Proper (literal_kind l)
literal_proper (Int f) = (omega arith, omega arith)
literal_proper (Float f) = (omega arith, omega arith)
literal_proper (Char f) = (omega arith, omega arith)
literal_proper (Byte f) = (omega arith, omega arith)
literal_proper (Str f) = (omega arith, omega arith)
literal_proper (ByteStr f) = (omega arith, omega arith)
literal_proper (CStr f) = (omega arith, omega arith)
literal_proper (RawStr f) = (omega arith, omega arith)
literal_proper (RawByteStr f) = (omega arith, omega arith)
literal_proper (RawCStr f) = (omega arith, omega arith)

kind_proper : (edition : ℕ) (text : List ℕ) (k : RawKind) → is_end (form k) ≡ false → Proper (kind_of edition text k)
kind_proper edition text (LineComment d) h = comment_proper d
kind_proper edition text (BlockComment d t) h = comment_proper d
kind_proper edition text (Frontmatter a b) h = (omega arith, omega arith)
kind_proper edition text Ident h = name_proper edition text
kind_proper edition text (Literal l) h = literal_proper l
kind_proper edition text (Lifetime n) h = (omega arith, omega arith)
kind_proper edition text Eof h = absurd (both_ways true h refl)
kind_proper edition text Whitespace h = (omega arith, omega arith)
kind_proper edition text InvalidIdent h = (omega arith, omega arith)
kind_proper edition text RawIdent h = (omega arith, omega arith)
kind_proper edition text GuardedStrPrefix h = (omega arith, omega arith)
kind_proper edition text UnknownPrefixLifetime h = (omega arith, omega arith)
kind_proper edition text RawLifetime h = (omega arith, omega arith)
kind_proper edition text Semi h = (omega arith, omega arith)
kind_proper edition text Comma h = (omega arith, omega arith)
kind_proper edition text Dot h = (omega arith, omega arith)
kind_proper edition text OpenParen h = (omega arith, omega arith)
kind_proper edition text CloseParen h = (omega arith, omega arith)
kind_proper edition text OpenBrace h = (omega arith, omega arith)
kind_proper edition text CloseBrace h = (omega arith, omega arith)
kind_proper edition text OpenBracket h = (omega arith, omega arith)
kind_proper edition text CloseBracket h = (omega arith, omega arith)
kind_proper edition text At h = (omega arith, omega arith)
kind_proper edition text Pound h = (omega arith, omega arith)
kind_proper edition text Tilde h = (omega arith, omega arith)
kind_proper edition text Question h = (omega arith, omega arith)
kind_proper edition text Colon h = (omega arith, omega arith)
kind_proper edition text Dollar h = (omega arith, omega arith)
kind_proper edition text Eq h = (omega arith, omega arith)
kind_proper edition text Bang h = (omega arith, omega arith)
kind_proper edition text Lt h = (omega arith, omega arith)
kind_proper edition text Gt h = (omega arith, omega arith)
kind_proper edition text Minus h = (omega arith, omega arith)
kind_proper edition text And h = (omega arith, omega arith)
kind_proper edition text Or h = (omega arith, omega arith)
kind_proper edition text Plus h = (omega arith, omega arith)
kind_proper edition text Star h = (omega arith, omega arith)
kind_proper edition text Slash h = (omega arith, omega arith)
kind_proper edition text Caret h = (omega arith, omega arith)
kind_proper edition text Percent h = (omega arith, omega arith)
kind_proper edition text Unknown h = (omega arith, omega arith)
kind_proper edition text UnknownPrefix h = (omega arith, omega arith)

cut_proper_as : (edition : ℕ) (text : List ℕ) (bs : List ℕ) (p : ℕ) (t : RawToken) (f : Form) → form t.kind ≡ f → spelled bs p t.len f ≡ true → Proper (kind_of edition text (cut_as edition t f).kind)
cut_proper_as edition text bs p t guarded_prefix e s = cond_both (ltb edition 3) (token Pound 1) t (λ (x : RawToken). Proper (kind_of edition text x.kind)) (λ _. kind_proper edition text Pound refl) (λ _. kind_proper edition text t.kind (ap is_end e))
cut_proper_as edition text bs p t c_string e s = cond_both (ltb edition 2) (token Ident 1) t (λ (x : RawToken). Proper (kind_of edition text x.kind)) (λ _. kind_proper edition text Ident refl) (λ _. kind_proper edition text t.kind (ap is_end e))
cut_proper_as edition text bs p t raw_c_string e s = cond_both (ltb edition 2) (token Ident 2) t (λ (x : RawToken). Proper (kind_of edition text x.kind)) (λ _. kind_proper edition text Ident refl) (λ _. kind_proper edition text t.kind (ap is_end e))
cut_proper_as edition text bs p t raw_lifetime e s = cond_both (ltb edition 2) (token (Lifetime false) 2) t (λ (x : RawToken). Proper (kind_of edition text x.kind)) (λ _. kind_proper edition text (Lifetime false) refl) (λ _. kind_proper edition text t.kind (ap is_end e))
cut_proper_as edition text bs p t unknown_prefix e s = cond_both (ltb edition 2) (token Ident t.len) t (λ (x : RawToken). Proper (kind_of edition text x.kind)) (λ _. kind_proper edition text Ident refl) (λ _. kind_proper edition text t.kind (ap is_end e))
cut_proper_as edition text bs p t unknown_lifetime e s = cond_both (ltb edition 2) (token (Lifetime false) t.len) t (λ (x : RawToken). Proper (kind_of edition text x.kind)) (λ _. kind_proper edition text (Lifetime false) refl) (λ _. kind_proper edition text t.kind (ap is_end e))
cut_proper_as edition text bs p t end_of_file e s = absurd (both_ways false refl s)
cut_proper_as edition text bs p t ordinary e s = kind_proper edition text t.kind (ap is_end e)

-- of what a law-abiding source gives, under any edition
pub cut_proper : (edition : ℕ) (text : List ℕ) (bs : List ℕ) (p : ℕ) (t : RawToken) → spelled bs p t.len (form t.kind) ≡ true → Proper (kind_of edition text (cut edition t).kind)
cut_proper edition text bs p t s = cut_proper_as edition text bs p t (form t.kind) refl s
