-- The faults of a search as faults of a run.
use Rattle.word_machine.specs.declared.found.SearchFault.{SearchFault}
use Rattle.word_machine.specs.declared.found.SearchFault.TheVariants as search
use Rattle.htn_review.specs.declared.outcome.RunFault.{RunFault}
use Rattle.htn_review.specs.declared.outcome.RunFault.TheVariants.{OutOfMemory, NoThread}

-- the fault of a run that a fault of the search is
abbrev pub of_search : SearchFault → RunFault
of_search search.OutOfMemory = OutOfMemory
of_search search.NoThread = NoThread
