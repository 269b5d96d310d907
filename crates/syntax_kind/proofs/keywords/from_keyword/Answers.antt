use Rattle.std.proofs.Common.{Ok, rules, ◌∙◌}
use Rattle.syntax_kind.specs.Keywords.{strict}
use Rattle.syntax_kind.proofs.Meaning.{right, alone}
use Rattle.syntax_kind.proofs.Computed.{strict_apart}
use Rattle.syntax_kind.proofs.keywords.from_keyword.Goals as goal

pub returns-clause-named : goal.returns-clause-named
returns-clause-named c = right strict strict_apart c.args.ident.now c.args.edition (Ok c.keyword.result) (search rules)

pub returns-clause-only : goal.returns-clause-only
returns-clause-only c a n = alone strict strict_apart c.args.ident.now c.args.edition a n ∙ search rules
