use Rattle.room_causes.proofs.Causes.{read_network}
use Rattle.room_causes.proofs.conflict.order_among.Goals as goal

pub order_conflict-requires-clause-one : goal.order_conflict-requires-clause-one
order_conflict-requires-clause-one g c =
    c.requires.ones c.instance-item.result.network (read_network c.args.instances.now c.loop-instance.instance-index c.instance-item.result c.loop-instance-test.true c.instance-item.is)
