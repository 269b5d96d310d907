use Rattle.std.proofs.Common.{Ok, rules, ◌∙◌}
use Rattle.syntax_kind.specs.Keywords.{strict, contextual}
use Rattle.syntax_kind.proofs.Meaning.{right, alone, other}
use Rattle.syntax_kind.proofs.Computed.{contextual_apart, tables_disjoint}
use Rattle.syntax_kind.proofs.keywords.from_contextual_keyword.Goals as goal

pub returns-clause-named : goal.returns-clause-named
returns-clause-named c = right contextual contextual_apart c.args.ident.now c.args.edition (Ok c.contextual_keyword.result) (search rules)

pub returns-clause-only : goal.returns-clause-only
returns-clause-only c a n = alone contextual contextual_apart c.args.ident.now c.args.edition a n ∙ search rules

pub returns-clause-apart : goal.returns-clause-apart
returns-clause-apart c kind h = other strict contextual tables_disjoint c.args.ident.now c.args.edition kind (search rules ∙ h)
