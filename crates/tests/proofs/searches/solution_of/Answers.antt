use Rattle.tests.proofs.searches.solution_of.Goals as goal

pub rebuild-requires : goal.rebuild-requires
rebuild-requires c = c.in_ok-finished.ensures.0 c.if-finished.true
