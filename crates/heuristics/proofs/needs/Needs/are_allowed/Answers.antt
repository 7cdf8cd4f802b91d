use Rattle.std.proofs.Common.{◌≡◌, ◌∙◌, ◌<◌, List, None, Some, length, get_or, sym, ap, subst, arith}
use Rattle.std.proofs.lemmas.Option.{slice_get_within}
use Rattle.htn_model.specs.Problem.{Network}
use Rattle.task_graph.specs.Graph.{network_of, task_at}
use Rattle.task_graph.specs.declared.decomposition.Decomposition.{Decomposition}
use Rattle.heuristics.specs.CheckedNeeds.{IsAllowed}
use Rattle.heuristics.proofs.Within.{allowed_more, allowed_skip, seen}
use Rattle.heuristics.proofs.needs.Needs.are_allowed.Goals as goal

pub loop-decomposition-preserved : goal.loop-decomposition-preserved
loop-decomposition-preserved c =
    let n = c.args.self.now in
    let g = c.args.graph.now in
    let i = c.loop-decomposition.decomposition-index in
    let item = c.decomposition-item.result in
    let listed = c.decompositions-decomposition-items.ensures in
    let low : i < length g.decompositions.items = (let long = ap length listed in omega (arith, long, c.loop-decomposition-test.true)) in
    let is : item ≡ get_or g.decompositions.items i item = c.decomposition-item.is ∙ ap (λ (l : List Decomposition). get_or l i item) listed in
    let named : task_at g item.task.index ≡ Some c.in-Some.goal.now = sym c.in-Some.ensures in
    let same : seen c.as_slice.result.now item.order ≡ network_of item = ap (λ xs. record { children = xs; order = item.order }) c.as_slice.ensures in
    allowed_more n g i item c.in-Some.goal.now low is named c.loop-decomposition.invariant
    (subst (λ (x : Network). IsAllowed n c.in-Some.goal.now x) same (c.is_allowed.ensures c.if-not-is_allowed.false))

pub loop-decomposition-preserved-in_default : goal.loop-decomposition-preserved-in_default
loop-decomposition-preserved-in_default c =
    let n = c.args.self.now in
    let g = c.args.graph.now in
    let i = c.loop-decomposition.decomposition-index in
    let item = c.decomposition-item.result in
    let listed = c.decompositions-decomposition-items.ensures in
    let low : i < length g.decompositions.items = (let long = ap length listed in omega (arith, long, c.loop-decomposition-test.true)) in
    let is : item ≡ get_or g.decompositions.items i item = c.decomposition-item.is ∙ ap (λ (l : List Decomposition). get_or l i item) listed in
    let none : task_at g item.task.index ≡ None = sym c.in_default.ensures in
    allowed_skip n g i item low is none c.loop-decomposition.invariant

pub returns : goal.returns
returns c = λ _ j d h at named.
    let inside = slice_get_within c.args.graph.now.decompositions.items j d at in
    let long = ap length c.decompositions-decomposition-items.ensures in
    c.loop-decomposition.invariant j d h (omega (arith, inside, long, c.loop-decomposition-test.false)) at named
