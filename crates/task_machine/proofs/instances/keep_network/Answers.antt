use Rattle.std.proofs.Common.{subst, sym}
use Rattle.network_table.specs.Children.{AreBounds}
use Rattle.heuristics.specs.Sizes.{size_of}
use Rattle.task_machine.proofs.Wider.{more_wider, wider_then}
use Rattle.task_machine.proofs.instances.keep_network.Goals as goal

pub returns-clause-wider : goal.returns-clause-wider
returns-clause-wider c =
    wider_then c.args.networks.now c.number_network.new.networks c.keep.new.self c.in_ok-network.ensures.wider
    (more_wider c.number_network.new.networks c.keep.new.self c.in_ok-number.ensures.whole c.in_ok-number.ensures.more c.in_ok-number.ensures.sound)

pub returns-clause-sized : goal.returns-clause-sized
returns-clause-sized c = subst (AreBounds (size_of c.args.sizes.now)) (sym c.in_ok-number.ensures.more.children) c.in_ok-network.ensures.sized
