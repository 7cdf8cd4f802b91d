use Rattle.std.proofs.Common.{◌≡◌, map, take}
use Rattle.htn_model.specs.Grounding.{problem_of}
use Rattle.htn_model.specs.Literal.{holds}
use Rattle.htn_model.specs.Task.{Task}
use Rattle.state_table.specs.Table.{state_of}
use Rattle.call_nodes.specs.Nodes.{AreNodes}
use Rattle.call_proof.proofs.least.ends_of.Given as goal

abbrev pub invariant-loop-state : goal.invariant-loop-state
invariant-loop-state l =
    (t : Task) → AreNodes t l.nodes
    → l.ends.items ≡ map (λ s. holds (state_of l.nodes.atoms s) (problem_of t).goal) (take l.state-index l.states)
