use Rattle.std.proofs.Common.{◌≡◌, map, take}
use Rattle.std.specs.List.{fold}
use Rattle.hddl_meaning.specs.Mentions.{folded}
use Rattle.hddl_meaning.specs.Names.{with_name}
use Rattle.hddl_names.proofs.vocabulary.declare_tasks.Given as goal

abbrev pub invariant-loop-task : goal.invariant-loop-task
invariant-loop-task l = l.names ≡ fold with_name l.initial.names (map (λ x. folded x.name.text) (take l.task-index l.tasks))
