use Rattle.std.proofs.Common.{◌∙◌, vec_items}
use Rattle.std.specs.Slice.Iter.{chunks_rest}
use Rattle.questions.proofs.Digits.{pairs_again}
use Rattle.questions.proofs.hex.decode_pairs.Goals as goal

pub loop-pair-preserved : goal.loop-pair-preserved
loop-pair-preserved c = (
  c.in-Some.ensures.steps.0 ∙ c.loop-pair.invariant.0,
  pairs_again (vec_items c.loop-pair.bytes) (vec_items c.push.new.self) c.in-Some.pair.now (chunks_rest c.loop-pair.pair-iterator) (chunks_rest c.next.new.self) c.args.hex.now c.in-Some-byte_of.byte c.in-Some.ensures.steps.1.0 c.in-Some-byte_of.ensures c.in_ok-push.ensures.items c.loop-pair.invariant.1,
)
