use Rattle.std.proofs.Common.{sym}
use Rattle.htn_ground.proofs.Steps.{types_differ}
use Rattle.htn_ground.proofs.instances.have_types.Goals as goal

pub returns-then-types-values : goal.returns-then-types-values
returns-then-types-values c = sym (types_differ c.args.task.now c.args.types.now c.args.values.now c.if-types-values.true)
