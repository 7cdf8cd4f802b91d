use Rattle.std.proofs.Common.{◌≡◌, ◌∙◌, List, Contains, Some, ap, sym, subst, rules}
use Rattle.htn_ground.specs.Views.{child_view}
use Rattle.htn_ground.specs.declared.child.Child.{Child as Node}
use Rattle.htn_task.specs.Literals.{literals_of}
use Rattle.htn_task.specs.declared.literal.Literal.{Literal}
use Rattle.htn_model.specs.Problem.{Child, action}
use Rattle.task_graph.specs.Graph.{id_of, nodes_of}
use Rattle.task_graph.proofs.Listed.{action_at}
use Rattle.heuristics.specs.CheckedNeeds.{IsLeafRight}
use Rattle.heuristics.proofs.Within.{each_literal}
use Rattle.heuristics.proofs.needs.Needs.is_leaf_right.Goals as goal

pub returns-in-Precondition : goal.returns-in-Precondition
returns-in-Precondition c = λ passes t _.
    let r = c.args.row.now in
    let pre : literals_of c.as_slice-in-Precondition.result.now ≡ c.in-Precondition.literals = search rules in
    subst (λ (x : Node). IsLeafRight t c.args.self.now (child_view x) r) (sym c.in-Precondition.is)
    (λ l at.
    subst (λ ls. Contains ls l) pre
    (each_literal (λ m. Contains (literals_of c.as_slice-in-Precondition.result.now) m) c.as_slice.result.now (c.are_among.ensures passes) l
    (subst (λ (ls : List Literal). Contains (literals_of ls) l) (sym c.as_slice.ensures.value) at)))

pub returns-in_ok-is_right-in-Some : goal.returns-in_ok-is_right-in-Some
returns-in_ok-is_right-in-Some c = λ passes t graph.
    let g = c.args.graph.now in
    let view : child_view c.args.leaf.now ≡ action c.in-Action.field-0 = ap child_view c.in-Action.is in
    let id : id_of (nodes_of g) (action c.in-Action.field-0) ≡ Some c.in-Some.id.index = ap (id_of (nodes_of g)) (sym view) ∙ sym c.in-Some.ensures in
    subst (λ (x : Child). IsLeafRight t c.args.self.now x c.args.row.now) (sym view)
    (λ a is. c.in_ok-is_right-in-Some.ensures passes a (c.action.ensures ∙ action_at t g c.in-Action.field-0 c.in-Some.id.index graph.grounded id ∙ is))
