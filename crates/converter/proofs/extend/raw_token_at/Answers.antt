use Rattle.converter.proofs.Extending.{answered}
use Rattle.converter.proofs.extend.raw_token_at.Goals as goal

pub returns : goal.returns
returns g c = answered (g.S.RawSource.script c.args.source.now) (g.S.RawSource.token c.args.source.now) c.args.place c.in-Ok.token c.token_at.result c.requires c.in-Ok.is c.token_at.ensures
