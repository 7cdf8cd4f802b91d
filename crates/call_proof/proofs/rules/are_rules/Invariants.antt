use Rattle.std.proofs.Common.{All, take}
use Rattle.htn_model.specs.Task.{Task}
use Rattle.call_table.specs.declared.call.Call.{Call}
use Rattle.call_table.specs.declared.site.Site.{Site}
use Rattle.call_nodes.specs.Nodes.{AreNodes}
use Rattle.call_proof.specs.Meaning.{AreRulesAt}
use Rattle.call_proof.proofs.rules.are_rules.Given as goal

abbrev pub invariant-loop-k : goal.invariant-loop-k
invariant-loop-k l =
    (t : Task) → AreNodes t l.nodes
    → All (λ (p : Site × Call). AreRulesAt l.nodes t p.0.state p.0.number p.1.rules.items) (take l.k l.table.calls.entries)
