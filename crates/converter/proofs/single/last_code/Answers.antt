use Rattle.std.proofs.Common.{◌≡◌, ap, ◌∙◌, rules}
use Rattle.std.specs.Option.{option_map}
use Rattle.converter.specs.Message.{message_code}
use Rattle.converter.specs.Single.{last_of}
use Rattle.converter.proofs.Singles.{last_told}
use Rattle.converter.proofs.single.last_code.Goals as goal

pub returns-in_default : goal.returns-in_default
returns-in_default g c =
    let code : c.map.result ≡ option_map message_code c.last.result = search rules in
    code ∙ last_told c.of-in_default.result c.last.result c.last.ensures.ran ∙ ap last_of c.of-in_default.ensures
