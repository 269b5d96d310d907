use Rattle.std.proofs.Common.{map, ap}
use Rattle.converter.specs.Lexing.{lex_error}
use Rattle.converter.proofs.Writing.{all_written}
use Rattle.converter.proofs.convert.Converter.write_errors.Goals as goal

pub returns-clause-errors : goal.returns-clause-errors
returns-clause-errors g c = all_written _ _ _ _ _ _ (ap (map (lex_error c.args.token)) c.in-None.ensures.steps.0) c.loop-message.invariant.7
