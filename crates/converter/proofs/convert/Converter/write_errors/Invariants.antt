use Rattle.std.proofs.Common.{◌≡◌, map}
use Rattle.converter.specs.Lexing.{lex_error}
use Rattle.converter.specs.Loans.{StillLent}
use Rattle.converter.proofs.Writing.{Writing}
use Rattle.converter.proofs.convert.Converter.write_errors.Given as goal

abbrev pub invariant-loop-message : goal.invariant-loop-message
invariant-loop-message g l =
    (goal.iterator-loop-message g).can_next l.message-iterator
    × (goal.iterator-loop-message g).is_finite l.message-iterator
    × StillLent l.initial.self l.self
    × (l.self.kinds.now ≡ l.initial.self.kinds.now)
    × (l.self.starts.now ≡ l.initial.self.starts.now)
    × (l.self.so_far.tokens ≡ l.initial.self.so_far.tokens)
    × (l.self.so_far.place ≡ l.initial.self.so_far.place)
    × Writing l.initial.self.so_far.errors (map (lex_error l.token) l.fn.said) l.initial.self.errors.now l.self.so_far.errors (map (lex_error l.token) l.message-iterator) l.self.errors.now
