-- Trivia: tokens that the grammar passes over.
use Rattle.std.specs.Prelude.{ℕ, Bool, cond, ◌||◌, Ok, Err, Result, ◌==◌, nat_le}
use Rattle.syntax_kind.specs.declared.Refusal.{Refusal}
use Rattle.syntax_kind.specs.declared.Refusal.TheVariants.{Kind}

-- white space (159) and comments that are no doc comments (150), and nothing else
abbrev pub trivial : ℕ → Bool
trivial kind = kind == 159 || kind == 150

-- the answer to whether a kind is trivia: a number past the last kind (332) is refused
abbrev pub trivia_answer : ℕ → Result Bool Refusal
trivia_answer kind = cond (nat_le kind 332) (Ok (trivial kind)) (Err Kind)
