use Rattle.syntax_kind.specs.Editions.{edition_number}
use Rattle.input.specs.Columns.{columns_of}
use Rattle.input.proofs.Kept.{pushed_fits, pushed_grown}
use Rattle.input.proofs.columns.Input.put.Goals as goal

pub invariant_of-self-4 : goal.invariant_of-self-4
invariant_of-self-4 c =
    record { fits = rw (c.begin.ensures, c.number.ensures) (pushed_fits (columns_of c.args.self.now) c.args.entry.kind c.args.entry.contextual_kind (edition_number c.args.entry.edition) c.args.self.now.fits c.requires) }

pub returns-clause-grown : goal.returns-clause-grown
returns-clause-grown c =
    rw (c.begin.ensures, c.number.ensures) (pushed_grown (columns_of c.args.self.now) c.args.entry.kind c.args.entry.contextual_kind (edition_number c.args.entry.edition) c.args.self.now.fits c.requires)
