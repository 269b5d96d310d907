-- Columns that are written from their front on, and whose rest stays.
use Rattle.std.specs.Prelude.{◌≡◌, ℕ, ◌+◌, ◌<◌, ◌≤◌, true, List, ◌++◌, length, take, drop, Some, None, Option}
use Rattle.script.specs.Places.{boundary}
use Rattle.lexed_str.specs.declared.error.LexError.{LexError}
use Rattle.converter.specs.declared.progress.Progress.{Progress}
use Rattle.converter.specs.declared.progress.Head.{Head}
use Rattle.converter.specs.Lexing.{Lexed}

-- xs written over the front of the column
abbrev pub over : {A : Type 0} → List A → List A → List A
over xs column = xs ++ drop (length xs) column

-- xs written from the place n on
abbrev pub put : {A : Type 0} → ℕ → List A → List A → List A
put n xs column = (take n column ++ xs) ++ drop (n + length xs) column

-- what the columns hold up to the progress made
abbrev pub held : List ℕ → List ℕ → List LexError → Progress → Lexed
held ks ss es p = record { kinds = take p.tokens ks; starts = take p.tokens ss; errors = take p.errors es; place = p.place }

-- how far lexing may have come: up to a boundary, with no more tokens or errors than bytes
pub record Reached (bs : List ℕ) (p : Progress) : Type 0 where
  pub boundary_there : boundary bs p.place ≡ true
  pub within : p.place ≤ length bs
  pub tokens_few : p.tokens ≤ p.place
  pub errors_few : p.errors ≤ p.place

-- the columns have room for any script of this length
pub record Room (n : ℕ) (ks ss : List ℕ) (es : List LexError) : Type 0 where
  pub kinds : n < length ks
  pub starts : n < length ss
  pub errors : n ≤ length es

-- the columns past the progress made are as before
pub record Kept (ks ss ks' ss' : List ℕ) (es es' : List LexError) (p : Progress) : Type 0 where
  pub kinds : drop p.tokens ks' ≡ drop p.tokens ks
  pub starts : drop p.tokens ss' ≡ drop p.tokens ss
  pub errors : drop p.errors es' ≡ drop p.errors es

-- a token of the head ends past the place, at a boundary
abbrev pub EndsPast : List ℕ → ℕ → Option ℕ → Type 0
EndsPast bs p None = Unit {0}
EndsPast bs p (Some end) = (p < end) × (end ≤ length bs) × (boundary bs end ≡ true)

abbrev pub end_or : ℕ → Option ℕ → ℕ
end_or p None = p
end_or p (Some end) = end

-- the head's tokens stand one after the other
pub record HeadFits (bs : List ℕ) (h : Head) : Type 0 where
  pub shebang : EndsPast bs 0 h.shebang
  pub frontmatter : EndsPast bs (end_or 0 h.shebang) h.frontmatter

abbrev pub progress : ℕ → ℕ → ℕ → Progress
progress tokens errors place = record { tokens = tokens; errors = errors; place = place }

-- how far the columns have come with one token of the head more, if it is there
abbrev pub up_to : ℕ → ℕ → Option ℕ → Progress
up_to tokens place None = progress tokens 0 place
up_to tokens place (Some end) = progress (tokens + 1) 0 end
