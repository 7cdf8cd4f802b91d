use Rattle.std.proofs.Common.{All, take}
use Rattle.state_table.specs.Table.{IsTable}
use Rattle.call_table.specs.Lists.{list_at}
use Rattle.call_table.specs.declared.call.Place.{Place}
use Rattle.call_proof.specs.Parts.{IsFollowedBy, masks_of}
use Rattle.call_proof.proofs.check.is_closed.Given as goal

abbrev pub invariant-loop-place : goal.invariant-loop-place
invariant-loop-place l =
    IsTable l.nodes.atoms
    → All (λ (p : Place). IsFollowedBy l.nodes (masks_of l.frames) l.table l.call l.site.number p.state (list_at l.nodes.lists p.blocks) p.distance)
    (take l.place-index l.place-items)
