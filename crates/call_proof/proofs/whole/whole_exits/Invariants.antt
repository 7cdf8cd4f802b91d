use Rattle.std.proofs.Common.{◌≡◌, map, take}
use Rattle.state_table.specs.Table.{IsTable}
use Rattle.call_proof.specs.Parts.{exit_at, exit_in}
use Rattle.call_proof.proofs.whole.whole_exits.Given as goal

abbrev pub invariant-loop-exit : goal.invariant-loop-exit
invariant-loop-exit l =
    IsTable l.nodes.atoms
    → map (exit_at l.nodes) l.found.items ≡ map (exit_in l.nodes l.mask l.whole) (take l.exit-index l.exits)
