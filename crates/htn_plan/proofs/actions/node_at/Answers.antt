use Rattle.std.proofs.Common.{◌+◌, ◌∙◌, Some, drop, sym, ap, slice_index_or}
use Rattle.std.proofs.lemmas.List.{drop_more, drop_all}
use Rattle.htn_ground.specs.Trees.{node_of, nodes_view}
use Rattle.htn_model.specs.Tree.{child_at, node_at, node_below, nodes_of}
use Rattle.htn_plan.proofs.Forests.{below_first, below_later}
use Rattle.htn_plan.proofs.actions.node_at.Goals as goal

pub returns-in_err-node : goal.returns-in_err-node
returns-in_err-node c = λ numbers.
    rw c.from_residual-in_err-node.ensures
    (below_first (nodes_of (nodes_view numbers c.args.trees.now)) c.args.place.now c.in_ok-first.first.now c.in_ok-first.below.now c.in_ok-first.ensures.cases.0 (c.in_err-node.ensures numbers))

pub returns-in_err-node-2 : goal.returns-in_err-node-2
returns-in_err-node-2 c = λ numbers.
    rw c.from_residual-in_err-node-2.ensures
    (below_later (node_of numbers c.loop-position.node.now) c.in_ok-first.below.now c.loop-position.position-index _ c.loop-position-test.true (c.loop-position.invariant numbers)
    (ap (λ ns. child_at ns (slice_index_or c.in_ok-first.below.now c.loop-position.position-index 0)) (sym (c.children.ensures numbers)) ∙ c.in_err-node-2.ensures numbers))

pub loop-position-init : goal.loop-position-init
loop-position-init c = λ numbers.
    ap (λ n. node_below n c.in_ok-first.below.now) (sym (c.in_ok-node.ensures numbers)) ∙ sym (ap (node_at (nodes_of (nodes_view numbers c.args.trees.now))) c.in_ok-first.ensures.cases.0)

pub loop-position-preserved : goal.loop-position-preserved
loop-position-preserved c = λ numbers.
    let i = c.loop-position.position-index in
    let below = c.in_ok-first.below.now in
    ap (λ n. node_below n (drop (i + 1) below)) (sym (c.in_ok-node-2.ensures numbers) ∙ ap (λ ns. child_at ns (slice_index_or below i 0)) (c.children.ensures numbers))
    ∙ sym (ap (node_below (Some (node_of numbers c.loop-position.node.now))) (drop_more below i 0 c.loop-position-test.true))
    ∙ c.loop-position.invariant numbers

pub returns : goal.returns
returns c = λ numbers.
    sym (c.loop-position.invariant numbers)
    ∙ ap (node_below (Some (node_of numbers c.loop-position.node.now))) (drop_all c.loop-position.position-index c.in_ok-first.below.now c.loop-position-test.false)
