use Rattle.std.proofs.Common.{◌∙◌, Some, ap}
use Rattle.htn_ground.specs.Trees.{node_of}
use Rattle.htn_model.specs.Numbered.{is_leaf}
use Rattle.htn_plan.proofs.Forests.{compound_seen, leaf_seen, step_seen}
use Rattle.htn_plan.proofs.actions.action_at.Goals as goal

pub returns-in_err-goal : goal.returns-in_err-goal
returns-in_err-goal c = λ numbers. rw c.from_residual.ensures (ap is_leaf (c.in_err-goal.ensures numbers))

pub returns-in-Leaf : goal.returns-in-Leaf
returns-in-Leaf c = λ numbers. c.in_ok-goal.ensures numbers ∙ ap (λ n. Some (node_of numbers n)) c.in-Leaf.is ∙ ap Some (leaf_seen numbers c.in-Leaf.goal)

pub returns-in-Step : goal.returns-in-Step
returns-in-Step c = λ numbers. ap is_leaf (c.in_ok-goal.ensures numbers ∙ ap (λ n. Some (node_of numbers n)) c.in-Step.is ∙ ap Some (step_seen numbers c.in-Step.field-0))

pub returns-in-Compound : goal.returns-in-Compound
returns-in-Compound c = λ numbers.
    ap is_leaf (c.in_ok-goal.ensures numbers ∙ ap (λ n. Some (node_of numbers n)) c.in-Compound.is ∙ ap Some (compound_seen numbers c.in-Compound.field-0 c.in-Compound.field-1 c.in-Compound.field-2))
