use Rattle.std.proofs.Common.{refl}
use lib.Utf8.{encode}
use Rattle.syntax_kind.specs.Keywords.{strict}
use Rattle.scanner.specs.Tokens.{token_at as scanned}
use Rattle.cases.proofs.tokens_evaluated.Goals as goal

pub returns : goal.returns
unfolding encode strict scanned
returns c = record { count = refl; examples = ((refl, refl), (refl, refl, refl)) }
