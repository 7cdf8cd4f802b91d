use Rattle.std.proofs.Common.{◌≡◌, ◌∙◌, ap, length, subst, arith}
use Rattle.htn_model.specs.Problem.{task}
use Rattle.htn_model.specs.Choice.{child_of}
use Rattle.htn_model.specs.Machine.{Config}
use Rattle.htn_order.specs.Free.{IsFirstFree, HasNoneFree}
use Rattle.htn_ground.specs.Views.{child_view}
use Rattle.htn_walk.proofs.First.{first_task, no_task, child_seen}
use Rattle.htn_net.proofs.config.Config.first_free_task.Goals as goal

pub returns-in-Task-clause-position : goal.returns-in-Task-clause-position
returns-in-Task-clause-position c =
    let self = c.args.self.now in
    let i = c.in-Some.position in
    let whole : length self.order ≡ length self.open_nodes = subst (λ (m : Config). length m.order ≡ length m.open_nodes) c.self.view_is c.self.invariant in
    let first : IsFirstFree self.order c.loop-position.from i = subst (λ (m : Config). IsFirstFree m.order c.loop-position.from i) c.self.view_is c.in-Some.ensures in
    let high = first.high in
    let seen = c.as_slice-nodes.ensures ∙ ap (λ (m : Config). m.open_nodes) c.self.view_is in
    let stands : child_of self.open_nodes i ≡ task c.in-Task.goal =
    child_seen c.as_slice-nodes.result.now self.open_nodes i c.index-nodes-position.result seen (omega arith) c.index-nodes-position.is ∙ ap child_view c.in-Task.is in
    first_task self.open_nodes self.order c.loop-position.from i c.in-Task.goal whole c.loop-position.invariant first stands

pub returns-clause-position : goal.returns-clause-position
returns-clause-position c =
    let self = c.args.self.now in
    let whole : length self.order ≡ length self.open_nodes = subst (λ (m : Config). length m.order ≡ length m.open_nodes) c.self.view_is c.self.invariant in
    let none : HasNoneFree self.order c.loop-position.from = subst (λ (m : Config). HasNoneFree m.order c.loop-position.from) c.self.view_is c.in_default.ensures in
    no_task self.open_nodes self.order c.loop-position.from whole c.loop-position.invariant none
