use Rattle.std.proofs.Common.{take}
use Rattle.hddl_build.specs.Labels.{AreLabelsOf}
use Rattle.hddl_build.proofs.labels.Labels.of.Given as goal

abbrev pub invariant-loop-position : goal.invariant-loop-position
invariant-loop-position l = AreLabelsOf (take l.position l.subtasks) l.labels
