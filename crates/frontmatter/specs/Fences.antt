-- The words in which frontmatter is described: lines, blank lines, fences and text, as relations between places.
use Rattle.std.specs.Prelude.{◌≡◌, ℕ, ◌+◌, ◌-◌, ◌<◌, ◌≤◌, ◌⊎◌, List, length, Some, None, Option, ◌≢◌, slice_index}
use Rattle.script.specs.Sequences.{Run}
use Rattle.script.specs.WhiteTable.{white}
use Rattle.frontmatter.specs.declared.source.Span.{Span}

-- the byte b stands at the place k
abbrev pub Byte : List ℕ → ℕ → ℕ → Type 0
Byte s k b = (k < length s) × (slice_index s k ≡ b)

-- a space or a tab
abbrev pub Blank : ℕ → Type 0
Blank b = (b ≡ 0x20) ⊎ (b ≡ 0x09)

-- each byte from p up to e is such
abbrev pub Each : (ℕ → Type 0) → List ℕ → ℕ → ℕ → Type 0
Each P s p e = (k : ℕ) → p ≤ k → k < e → P (slice_index s k)

-- the dashes at p, all of them, end at e
pub record Dashes (s : List ℕ) (p e : ℕ) : Type 0 where
  pub low : p ≤ e
  pub high : e ≤ length s
  pub dashes : Each (λ b. b ≡ 0x2D) s p e
  pub all : Byte s e 0x2D → ⊥

-- the line that goes on at p ends at e: with its LF, or with the script
pub record Line (s : List ℕ) (p e : ℕ) : Type 0 where
  pub low : p ≤ e
  pub high : e ≤ length s
  pub same : Each (λ b. b ≢ 0x0A) s p e
  pub ends : e < length s → slice_index s e ≡ 0x0A

-- after the line that goes on at p, the script goes on at z
abbrev pub NextLine : List ℕ → ℕ → ℕ → Type 0
NextLine s p z = (e : ℕ) × Line s p e × (((e < length s) × (z ≡ e + 1)) ⊎ ((e ≡ length s) × (z ≡ length s)))

-- the white space at p, all of it, ends at w
abbrev pub WhiteSpace : List ℕ → ℕ → ℕ → Type 0
WhiteSpace s p w = Run white s p w

-- the blank lines at p end at q: after the last LF of the white space there, or at p where it has none
pub record BlankLines (s : List ℕ) (p q : ℕ) : Type 0 where
  pub end : ℕ
  pub space : WhiteSpace s p end
  pub low : p ≤ q
  pub high : q ≤ end
  pub lines : (q ≡ p) ⊎ ((p < q) × (slice_index s (q - 1) ≡ 0x0A))
  pub all : Each (λ b. b ≢ 0x0A) s q end

-- after the LF at k a line begins with n dashes or more
pub record Begins (s : List ℕ) (n k : ℕ) : Type 0 where
  pub feed : Byte s k 0x0A
  pub room : k + 1 + n ≤ length s
  pub dashes : Each (λ b. b ≡ 0x2D) s (k + 1) (k + 1 + n)

-- the first such line from the LF at l on
pub record FirstLine (s : List ℕ) (n l k : ℕ) : Type 0 where
  pub low : l ≤ k
  pub begins : Begins s n k
  pub first : (j : ℕ) → l ≤ j → j < k → Begins s n j → ⊥

-- the text from p up to e without the blanks at both ends, if any is left
abbrev pub Text : List ℕ → ℕ → ℕ → Option Span → Type 0
Text s p e None = Each Blank s p e
Text s p e (Some t) =
    (p ≤ t.start) × (t.start < t.end) × (t.end ≤ e) × Each Blank s p t.start × Each Blank s t.end e
    × (Blank (slice_index s t.start) → ⊥) × (Blank (slice_index s (t.end - 1)) → ⊥)

-- what is left of the text from p up to e without one final CR ends at z
abbrev pub LessCr : List ℕ → ℕ → ℕ → ℕ → Type 0
LessCr s p e z = ((p < e) × (slice_index s (e - 1) ≡ 0x0D) × (z + 1 ≡ e)) ⊎ (((p < e → slice_index s (e - 1) ≢ 0x0D)) × (z ≡ e))
