use Rattle.std.proofs.Common.{◌≡◌, ◌∙◌, ℕ, List, ap, ap₂, sym, length, map, arith, []}
use Rattle.std.proofs.lemmas.List.{length-map, get_or-map}
use Rattle.htn_ground.specs.Views.{child_view}
use Rattle.htn_model.specs.Problem.{Order, is_before, task, precondition}
use Rattle.htn_model.specs.Choice.{child_of, first_free_compound}
use Rattle.network_table.specs.Networks.{children}
use Rattle.network_table.proofs.First.{first_task, no_task}
use Rattle.network_table.proofs.table.NetworkTable.first_free_task_of.Goals as goal

pub returns-in-Task-clause-position : goal.returns-in-Task-clause-position
returns-in-Task-clause-position c =
    let f = child_of (children c.args.self.now) in
    let nodes = c.nodes-nodes.result.now in
    let order = c.order-order.result.now in
    let i = c.in-Some.position in
    let long : length order ≡ length nodes = ap length c.order-order.ensures.value ∙ c.order-order.ensures.square.0 ∙ sym (ap length c.nodes-nodes.ensures) in
    let whole : length order ≡ length (map f nodes) = long ∙ sym (length-map nodes f) in
    let high = c.in-Some.ensures.high in
    let stands : child_of (map f nodes) i ≡ task c.in-Task.goal =
    get_or-map f nodes i 0 (precondition []) (omega arith) ∙ sym c.child.ensures ∙ ap child_view c.in-Task.is in
    first_task (map f nodes) order c.loop-position.from i c.in-Task.goal whole c.loop-position.invariant c.in-Some.ensures stands
    ∙ ap₂ (λ (ns : List ℕ) (o : Order). first_free_compound (map f ns) (is_before o)) (c.nodes-nodes.ensures) (c.order-order.ensures.value)

pub returns-clause-position : goal.returns-clause-position
returns-clause-position c =
    let f = child_of (children c.args.self.now) in
    let nodes = c.nodes-nodes.result.now in
    let order = c.order-order.result.now in
    let long : length order ≡ length nodes = ap length c.order-order.ensures.value ∙ c.order-order.ensures.square.0 ∙ sym (ap length c.nodes-nodes.ensures) in
    let whole : length order ≡ length (map f nodes) = long ∙ sym (length-map nodes f) in
    no_task (map f nodes) order c.loop-position.from whole c.loop-position.invariant c.in_default.ensures
    ∙ ap₂ (λ (ns : List ℕ) (o : Order). first_free_compound (map f ns) (is_before o)) (c.nodes-nodes.ensures) (c.order-order.ensures.value)
