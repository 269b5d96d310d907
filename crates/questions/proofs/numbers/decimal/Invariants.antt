use Rattle.std.proofs.Common.{◌≡◌, ℕ, drop}
use Rattle.questions.specs.Decimal.{value, saturated}
use Rattle.questions.proofs.numbers.decimal.Given as goal

-- v is the value of the digits so far
abbrev pub invariant-loop-b : goal.invariant-loop-b
invariant-loop-b l = (v : ℕ) × (l.n ≡ saturated v) × (value v (drop l.b-index l.text) ≡ value 0 l.text)
