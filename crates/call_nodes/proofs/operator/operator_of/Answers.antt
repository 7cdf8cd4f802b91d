use Rattle.std.proofs.Common.{◌≡◌, ◌∙◌, List, Some, ap, subst, sym}
use Rattle.htn_model.specs.Grounding.{problem_of}
use Rattle.htn_model.specs.Literal.{Literal}
use Rattle.htn_model.proofs.Grounded.{tasks_are_grounded}
use Rattle.htn_ground.specs.Views.{child_view}
use Rattle.state_table.specs.Compiled.{AreCompiled}
use Rattle.call_nodes.proofs.operator.operator_of.Goals as goal

pub of-requires-in-Action-clause-deletes : goal.of-requires-in-Action-clause-deletes
of-requires-in-Action-clause-deletes c = λ a inside.
    let is : (problem_of c.args.task.now).action_of c.in-Action.goal ≡ Some c.in-Some.action = sym c.in_ok-action-in-Action.ensures ∙ c.in-Some.is in
    let effects = (tasks_are_grounded c.args.task.now c.initial_atoms-initial.ensures.typed).effects c.in-Action.goal c.in-Some.action is in
    c.requires.fluents a.predicate ∙ effects.1 a inside

pub of-requires-in-Action-clause-adds : goal.of-requires-in-Action-clause-adds
of-requires-in-Action-clause-adds c = λ a inside.
    let is : (problem_of c.args.task.now).action_of c.in-Action.goal ≡ Some c.in-Some.action = sym c.in_ok-action-in-Action.ensures ∙ c.in-Some.is in
    let effects = (tasks_are_grounded c.args.task.now c.initial_atoms-initial.ensures.typed).effects c.in-Action.goal c.in-Some.action is in
    c.requires.fluents a.predicate ∙ effects.0 a inside

pub returns-in_ok-compiled-in-Precondition-clause-operator :
    goal.returns-in_ok-compiled-in-Precondition-clause-operator
returns-in_ok-compiled-in-Precondition-clause-operator c = λ known l. (
  c.in-Precondition.literals,
  ap child_view c.in-Precondition.is,
  subst (λ (ls : List Literal). AreCompiled c.of.new.table c.in_ok-compiled-in-Precondition.compiled ls) c.as_slice.ensures c.in_ok-compiled-in-Precondition.ensures.compiled,
)

pub returns-in_ok-compiled-in-Action-clause-operator :
    goal.returns-in_ok-compiled-in-Action-clause-operator
returns-in_ok-compiled-in-Action-clause-operator c = λ known l.
    (let is : (problem_of c.args.task.now).action_of c.in-Action.goal ≡ Some c.in-Some.action = sym c.in_ok-action-in-Action.ensures ∙ c.in-Some.is in
    (c.in-Action.goal, c.in-Some.action, ap child_view c.in-Action.is, is, c.in_ok-compiled-in-Action.ensures.compiled))
