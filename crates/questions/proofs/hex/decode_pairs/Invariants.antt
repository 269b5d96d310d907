use Rattle.std.proofs.Common.{◌≡◌, vec_items}
use Rattle.std.specs.Slice.Iter.{chunks_rest, chunks_size}
use Rattle.questions.specs.Hex.{pairs}
use Rattle.questions.proofs.Digits.{onto}
use Rattle.questions.proofs.hex.decode_pairs.Given as goal

abbrev pub invariant-loop-pair : goal.invariant-loop-pair
invariant-loop-pair l =
    (chunks_size l.pair-iterator ≡ 2) × (onto (vec_items l.bytes) (pairs (chunks_rest l.pair-iterator)) ≡ pairs l.hex)
