use Rattle.std.proofs.Common.{◌∙◌, arith}
use Rattle.syntax_kind.specs.Editions.{edition_number}
use Rattle.converter.specs.Meaning.{means}
use Rattle.converter.proofs.Singles.{begins_first, whole_by}
use Rattle.converter.proofs.single.is_whole.Goals as goal

pub raw_token_at-requires : goal.raw_token_at-requires
raw_token_at-requires g c = begins_first (g.S.RawSource.script c.args.source.now) c.bytes-len.result.now (g.met.S.RawSource.laws.admitted c.args.source.now) (c.bytes-len.ensures ∙ c.script-script.ensures) (omega arith)

pub token_at-requires : goal.token_at-requires
token_at-requires g c = begins_first (g.S.RawSource.script c.args.source.now) c.bytes-len.result.now (g.met.S.RawSource.laws.admitted c.args.source.now) (c.bytes-len.ensures ∙ c.script-script.ensures) (omega arith)

pub returns-then-raw_token_at-len : goal.returns-then-raw_token_at-len
returns-then-raw_token_at-len g c =
    let m = g.S.RawSource in
    let s = c.args.source.now in
    record {
      value = whole_by (means m s) (edition_number c.args.edition) c.bytes-len.result.now c.raw_token_at.result c.token_at.result (c.bytes-len.ensures ∙ c.script-script.ensures) (omega arith) c.raw_token_at.ensures c.token_at.ensures.value (omega arith);
      begins = λ _. begins_first (g.S.RawSource.script c.args.source.now) c.bytes-len.result.now (g.met.S.RawSource.laws.admitted c.args.source.now) (c.bytes-len.ensures ∙ c.script-script.ensures) (omega arith);
    }
