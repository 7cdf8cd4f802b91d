use Rattle.std.proofs.Common.{◌≡◌, ◌∙◌, ◌<◌, List, None, Some, length, get_or, sym, ap, subst, true, arith}
use Rattle.std.proofs.lemmas.Option.{slice_get_within}
use Rattle.htn_model.specs.Problem.{Child}
use Rattle.task_graph.specs.Graph.{task_at}
use Rattle.task_graph.specs.declared.decomposition.Decomposition.{Decomposition}
use Rattle.heuristics.specs.Reach.{passes}
use Rattle.heuristics.specs.ReachTables.{reach_of}
use Rattle.heuristics.proofs.CheckedReach.{pass_more, pass_skip}
use Rattle.heuristics.proofs.reach.RelaxedReach.are_instances_right.Goals as goal

pub loop-decomposition-preserved : goal.loop-decomposition-preserved
loop-decomposition-preserved c =
    let r = reach_of c.args.self.now in
    let g = c.args.graph.now in
    let i = c.loop-decomposition.decomposition-index in
    let item = c.decomposition-item.result in
    let listed = c.decompositions-decomposition-items.ensures in
    let low : i < length g.decompositions.items = (let long = ap length listed in omega (arith, long, c.loop-decomposition-test.true)) in
    let is : item ≡ get_or g.decompositions.items i item = c.decomposition-item.is ∙ ap (λ (l : List Decomposition). get_or l i item) listed in
    let named : task_at g item.task.index ≡ Some c.in-Some.goal.now = sym c.in-Some.ensures in
    pass_more r g i item c.in-Some.goal.now low is named c.loop-decomposition.invariant
    (subst (λ (xs : List Child). passes r c.in-Some.goal.now xs ≡ true) c.as_slice.ensures (sym c.passes.ensures ∙ c.if-not-passes.false))

pub returns : goal.returns
returns c = λ _ j d h at named.
    let inside = slice_get_within c.args.graph.now.decompositions.items j d at in
    let long = ap length c.decompositions-decomposition-items.ensures in
    c.loop-decomposition.invariant j d h (omega (arith, inside, long, c.loop-decomposition-test.false)) at named

pub loop-decomposition-preserved-in_default : goal.loop-decomposition-preserved-in_default
loop-decomposition-preserved-in_default c =
    let r = reach_of c.args.self.now in
    let g = c.args.graph.now in
    let i = c.loop-decomposition.decomposition-index in
    let item = c.decomposition-item.result in
    let listed = c.decompositions-decomposition-items.ensures in
    let low : i < length g.decompositions.items = (let long = ap length listed in omega (arith, long, c.loop-decomposition-test.true)) in
    let is : item ≡ get_or g.decompositions.items i item = c.decomposition-item.is ∙ ap (λ (l : List Decomposition). get_or l i item) listed in
    let none : task_at g item.task.index ≡ None = sym c.in_default.ensures in
    pass_skip r g i item low is none c.loop-decomposition.invariant
