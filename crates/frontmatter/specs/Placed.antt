-- Where the spans of an answer lie: in order, within the script, and at boundaries of its characters.
use Rattle.std.specs.Prelude.{◌≡◌, ℕ, ◌≤◌, true, List, [], ◌∷◌, length, Some, None, Ok, Err, Option}
use Rattle.std.specs.List.{AllByRecursion}
use Rattle.script.specs.Places.{boundary}
use Rattle.frontmatter.specs.declared.source.Span.{Span}
use Rattle.frontmatter.specs.declared.source.ScriptSource.{ScriptSource}
use Rattle.frontmatter.specs.declared.source.Fault.{Fault}
use Rattle.frontmatter.specs.Parsed.{Answer}

abbrev pub Boundary : List ℕ → ℕ → Type 0
Boundary s p = boundary s p ≡ true

-- both ends are boundaries, the first no later than the second
abbrev pub Sits : List ℕ → Span → Type 0
Sits s x = (x.start ≤ x.end) × Boundary s x.start × Boundary s x.end

-- the span, where there is one, and then the others
abbrev pub also : Option Span → List Span → List Span
also None xs = xs
also (Some x) xs = x ∷ xs

-- one after the other from p on
abbrev pub InOrder : List ℕ → ℕ → List Span → Type 0
InOrder s p [] = Unit {0}
InOrder s p (x ∷ xs) = (p ≤ x.start) × Sits s x × InOrder s x.end xs

abbrev pub parts : ScriptSource → List Span
parts r = also r.shebang (also r.«open» (also r.info (also r.frontmatter (also r.close (r.content ∷ [])))))

abbrev pub shown : Fault → List Span
shown f = f.primary ∷ (f.«open» ∷ also f.close [])

abbrev pub Placed : List ℕ → Answer → Type 0
Placed s (Ok r) = InOrder s 0 (parts r) × (r.content.end ≡ length s)
Placed s (Err f) = AllByRecursion (Sits s) (shown f)
