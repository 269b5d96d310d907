use Rattle.std.proofs.Common.{refl}
use lib.Utf8.{encode}
use Rattle.cases.proofs.evaluated.Goals as goal

pub returns : goal.returns
unfolding encode
returns c = record { count = refl; examples = (refl, refl, refl, refl, refl) }
