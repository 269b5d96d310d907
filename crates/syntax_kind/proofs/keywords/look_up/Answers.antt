use Rattle.std.proofs.Common.{◌≡◌, Bool, Bor, rules, ◌∙◌, ap}
use Rattle.std.proofs.lemmas.Iterator.{YieldsList-from_slice}
use Rattle.std.proofs.lemmas.Iterator.Search.{find_from_yields_List}
use Rattle.std.specs.List.{find}
use Rattle.std.specs.Option.{option_map}
use borrow.Author.Tests.{tests}
use Rattle.syntax_kind.specs.declared.tables.Keyword.{Keyword}
use Rattle.syntax_kind.specs.Editions.{edition_number}
use Rattle.syntax_kind.specs.Keywords.{fits}
use Rattle.syntax_kind.specs.Tables.{entry_of}
use Rattle.syntax_kind.proofs.Steps.{look_up-find}
use Rattle.syntax_kind.proofs.keywords.look_up.Goals as goal

pub returns : goal.returns
returns c =
    let test : Keyword → Bool = λ k. fits (entry_of k) c.args.ident.now (edition_number c.args.edition) in
    let found : option_map (λ (k : Bor Keyword). k.now) c.find.result ≡ find test c.args.table.now =
    find_from_yields_List test _ _ c.find.result c.find.ensures.ran (YieldsList-from_slice c.args.table.now cc)
    (λ x b q k. search (rules, tests)) in
    let kind : c.map.result ≡ option_map (λ (k : Keyword). k.1) (option_map (λ (k : Bor Keyword). k.now) c.find.result) = search rules in
    kind ∙ ap (option_map (λ (k : Keyword). k.1)) found ∙ look_up-find c.args.table.now c.args.ident.now (edition_number c.args.edition)
