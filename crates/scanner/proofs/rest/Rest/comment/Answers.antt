use Rattle.std.proofs.Common.{rules}
use Rattle.scanner.proofs.Readings.{read_as, read_only}
use Rattle.scanner.proofs.rest.Rest.comment.Goals as goal

pub returns-in-47 : goal.returns-in-47
returns-in-47 c = record { value = search rules; grammar = read_as _ _ (search rules); only = read_only _ _ (search rules) }

pub returns-in-47-2 : goal.returns-in-47-2
returns-in-47-2 c = record { value = search rules; grammar = read_as _ _ (search rules); only = read_only _ _ (search rules) }

pub returns-in_default : goal.returns-in_default
returns-in_default c = record { value = search rules; grammar = read_as _ _ (search rules); only = read_only _ _ (search rules) }

pub returns-in_default-2 : goal.returns-in_default-2
returns-in_default-2 c = record { value = search rules; grammar = read_as _ _ (search rules); only = read_only _ _ (search rules) }

pub returns-in_default-3 : goal.returns-in_default-3
returns-in_default-3 c = record { value = search rules; grammar = read_as _ _ (search rules); only = read_only _ _ (search rules) }
