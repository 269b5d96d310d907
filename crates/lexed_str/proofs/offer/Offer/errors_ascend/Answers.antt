use Rattle.std.proofs.Common.{rules}
use Rattle.std.proofs.lemmas.List.Sorted.{answers_always}
use Rattle.lexed_str.specs.declared.error.LexError.{LexError}
use Rattle.lexed_str.proofs.Accepted.{sorted_told}
use Rattle.lexed_str.proofs.offer.Offer.errors_ascend.Goals as goal

pub returns : goal.returns
returns c =
    sorted_told c.args.self.now.errors.now c.is_sorted_by_key.result
    (c.is_sorted_by_key.ensures.cases (λ (e : LexError). e.token) (answers_always _ _ _ (λ f a r g h. search rules)))
