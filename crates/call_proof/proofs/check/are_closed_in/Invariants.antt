use Rattle.std.proofs.Common.{All, take}
use Rattle.state_table.specs.Table.{IsTable}
use Rattle.call_table.specs.declared.call.Call.{Call}
use Rattle.call_table.specs.declared.site.Site.{Site}
use Rattle.call_proof.specs.Parts.{IsClosedCall, masks_of}
use Rattle.call_proof.proofs.check.are_closed_in.Given as goal

abbrev pub invariant-loop-k : goal.invariant-loop-k
invariant-loop-k l =
    IsTable l.nodes.atoms
    → All (λ (p : Site × Call). IsClosedCall l.nodes (masks_of l.frames) l.table p.0.state p.0.number p.1)
    (take l.k l.table.calls.entries)
