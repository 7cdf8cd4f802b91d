use Rattle.hddl_check.proofs.pair.task_of.Goals as goal

pub build-requires-clause-typed : goal.build-requires-clause-typed
build-requires-clause-typed c = c.requires.known.typed
