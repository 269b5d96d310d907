use Rattle.std.proofs.Common.{◌≡◌, subst, arith}
use Rattle.lexed_str.specs.Columns.{tokens}
use Rattle.syntax_kind.specs.Editions.{edition_number}
use Rattle.input.specs.Columns.{columns_of}
use Rattle.input.proofs.Building.{Sofar, sofar_more, sofar_built}
use Rattle.input.proofs.Reading.{sofar_reads}
use Rattle.input.proofs.build.push_tokens.Goals as goal

pub loop-i-preserved : goal.loop-i-preserved
loop-i-preserved c =
    record {
      tokens = sofar_more _ _ _ _ _ c.loop-i.i c.at.result (columns_of c.loop-i.input) (columns_of c.push_token.new.input) c.at.ensures c.push_token.ensures.token c.loop-i.invariant.tokens;
      lent = grind arith;
    }

pub returns : goal.returns
returns c =
    let lexed = c.args.lexed.now in
    let all : c.loop-i.i ≡ tokens lexed.kinds.now = omega (arith, c.len-i-end.ensures) in
    let done = subst (λ i. Sofar lexed.script.bytes.now lexed.kinds.now lexed.starts.now (edition_number c.args.edition) (columns_of c.args.input.now) i (columns_of c.loop-i.input)) all c.loop-i.invariant.tokens in
    record {
      built = sofar_built _ _ _ _ _ _ done;
      reads = sofar_reads _ _ _ _ _ _ done;
      lent = c.loop-i.invariant.lent;
    }
