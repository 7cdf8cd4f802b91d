use Rattle.std.proofs.Common.{◌≡◌, map, take}
use Rattle.hddl_meaning.specs.Building.{compound_of}
use Rattle.hddl_build.proofs.schema.compounds_of.Given as goal

abbrev pub invariant-loop-task : goal.invariant-loop-task
invariant-loop-task l = l.found.items ≡ map (compound_of l.vocabulary) (take l.task-index l.tasks)
