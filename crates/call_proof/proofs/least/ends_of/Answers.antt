use Rattle.std.proofs.Common.{◌∙◌}
use Rattle.htn_model.specs.Grounding.{problem_of}
use Rattle.htn_model.specs.Literal.{holds}
use Rattle.state_table.specs.Table.{state_of}
use Rattle.call_proof.proofs.Numbers.{mapped_more}
use Rattle.call_proof.proofs.least.ends_of.Goals as goal

pub loop-state-preserved : goal.loop-state-preserved
loop-state-preserved c = λ t own.
    (let atoms = c.args.nodes.now.atoms in
    c.in_ok-push.ensures.items
    ∙ mapped_more (λ s. holds (state_of atoms s) (problem_of t).goal) c.states-states.result.now c.loop-state.state-index c.state-item.result
    c.loop-state.ends.items c.is_goal.result c.loop-state-test.true c.state-item.is (c.loop-state.invariant t own) (c.is_goal.ensures t own))
