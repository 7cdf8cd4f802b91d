-- What is checked of calls in frames, and of calls in whole states that are lifted from them.
use Rattle.std.specs.Prelude.{◌≡◌, ℕ, List, Some, slice_get}
use Rattle.htn_model.specs.Grounding.{problem_of}
use Rattle.htn_model.specs.Problem.{Child}
use Rattle.htn_model.specs.Task.{Task}
use Rattle.call_rules.specs.Local.{IsFrameOf}
use Rattle.call_table.specs.declared.call.CallTable.{CallTable}
use Rattle.call_nodes.specs.Nodes.{children}
use Rattle.call_nodes.specs.declared.call_nodes.CallNodes.{CallNodes}
use Rattle.call_proof.specs.Meaning.{AreRules}
use Rattle.call_proof.specs.Parts.{frame_at, AreClosedCalls, AreWhole}

-- nodes read and write only what is in their frames; the rules of both tables are those of the nodes; the calls of the
-- one are closed in the frames, and those of the other are lifted from them
pub record AreFramed (t : Task) (n : CallNodes) (masks : List (List ℕ)) (table whole : CallTable) : Type 0 where
  pub reads : (j : ℕ) (x : Child) → slice_get (children n) j ≡ Some x → IsFrameOf (problem_of t) x (frame_at n masks j)
  pub rules : AreRules n t table
  pub closed : AreClosedCalls n masks table
  pub whole_rules : AreRules n t whole
  pub lifted : AreWhole n masks table whole
