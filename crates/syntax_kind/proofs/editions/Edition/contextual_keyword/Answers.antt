use Rattle.std.proofs.Common.{◌≡◌, sym, ◌∙◌}
use Rattle.syntax_kind.specs.Editions.{edition_number}
use Rattle.syntax_kind.specs.Keywords.{look_up, strict, contextual}
use Rattle.syntax_kind.proofs.Computed.{contextual_apart, tables_disjoint}
use Rattle.syntax_kind.proofs.Meaning.{right_in, alone_in, other_free}
use Rattle.syntax_kind.proofs.editions.Edition.contextual_keyword.Goals as goal

-- the code's rows are those of the definition, computed
pub returns : goal.returns
unfolding contextual
returns c =
    let text = c.args.ident.now in
    let e = c.args.self in
    let is : c.look_up.result ≡ look_up contextual text (edition_number e) = c.look_up.ensures in
    record { value = is; named = right_in contextual contextual_apart text e _ is; only = alone_in contextual contextual_apart text e _ is; apart = λ kind k. other_free strict contextual tables_disjoint text (edition_number e) kind (sym is ∙ k) }
