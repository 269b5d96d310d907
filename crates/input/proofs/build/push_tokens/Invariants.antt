use Rattle.syntax_kind.specs.Editions.{edition_number}
use Rattle.input.specs.Columns.{columns_of}
use Rattle.input.specs.Loans.{StillLent}
use Rattle.input.proofs.Building.{Sofar}
use Rattle.input.proofs.build.push_tokens.Given as goal

abbrev pub invariant-loop-i : goal.invariant-loop-i
invariant-loop-i l =
    record {
      tokens : Sofar l.lexed.script.bytes.now l.lexed.kinds.now l.lexed.starts.now (edition_number l.edition) (columns_of l.fn.input) l.i (columns_of l.input);
      lent : StillLent l.fn.input l.input;
    }
