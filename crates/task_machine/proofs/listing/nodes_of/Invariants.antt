use Rattle.std.proofs.Common.{◌≡◌, map, take}
use Rattle.htn_model.specs.Choice.{child_of}
use Rattle.network_table.specs.Networks.{children}
use Rattle.task_machine.proofs.listing.nodes_of.Given as goal

-- the nodes of the numbers so far
abbrev pub invariant-loop-id : goal.invariant-loop-id
invariant-loop-id l = l.nodes ≡ map (child_of (children l.networks)) (take l.id-index l.ids)
