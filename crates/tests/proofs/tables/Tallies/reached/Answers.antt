use Rattle.std.proofs.lemmas.Option.{slice_get_within, get_or_from_slice_get}
use Rattle.tests.specs.Tallies.{nothing}
use Rattle.tests.proofs.tables.Tallies.reached.Goals as goal

pub returns-in-Some-clause-allowed : goal.returns-in-Some-clause-allowed
returns-in-Some-clause-allowed c = slice_get_within c.args.self.now.tallies.keys c.in-Some.numbered.number c.args.tally c.in-Some.ensures.some

pub returns-in-Some-clause-same : goal.returns-in-Some-clause-same
returns-in-Some-clause-same c = get_or_from_slice_get c.args.self.now.tallies.keys c.in-Some.numbered.number c.args.tally nothing c.in-Some.ensures.some
