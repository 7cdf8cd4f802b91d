use Rattle.std.proofs.Common.{◌∙◌, length, sym, subst, ap₂}
use Rattle.htn_ground.specs.Trees.{number_of, nodes_view, solution_of}
use Rattle.htn_model.specs.Numbered.{is_leaf}
use Rattle.htn_model.specs.Tree.{node_at, nodes_of}
use Rattle.htn_plan.specs.Ids.{IsNumbered}
use Rattle.htn_plan.proofs.Lists.{drop_map}
use Rattle.htn_plan.proofs.Numbers.{nothing_added, action_added}
use Rattle.htn_plan.proofs.actions.add_action.Goals as goal

pub returns-in_default : goal.returns-in_default
returns-in_default c =
    nothing_added (solution_of c.args.task.now c.args.solution.now) c.args.index c.index-place.result.now.items _
    (drop_map (λ p. p.items) c.args.solution.now.linearisation.items c.args.index c.index-place.result.now c.requires.within c.index-place.ensures)
    c.args.task.now c.args.lines.now.items c.args.ids.now
    (sym (ap₂ (λ trees place. is_leaf (node_at (nodes_of (nodes_view (number_of c.args.task.now) trees)) place)) c.deref.ensures.value c.deref-2.ensures.value) ∙ c.in_default.ensures (number_of c.args.task.now))
    c.requires.before

pub returns : goal.returns
returns c =
    rw c.in_ok-push.ensures.items
    (action_added (solution_of c.args.task.now c.args.solution.now) c.args.index c.index-place.result.now.items _
    (drop_map (λ p. p.items) c.args.solution.now.linearisation.items c.args.index c.index-place.result.now c.requires.within c.index-place.ensures)
    c.args.task.now c.in-Some.goal.now c.args.lines.now.items c.args.ids.now c.number.new.self c.in_ok-id.id c.in_ok-action_line.field-0
    (sym (ap₂ (λ trees place. node_at (nodes_of (nodes_view (number_of c.args.task.now) trees)) place) c.deref.ensures.value c.deref-2.ensures.value) ∙ c.in-Some.ensures (number_of c.args.task.now))
    c.requires.before numbered c.in_ok-action_line.ensures.value c.in_ok-action_line.ensures.line)
  where
    numbered : IsNumbered c.args.ids.now c.number.new.self c.index-place.result.now.items (length c.args.lines.now.items) c.in_ok-id.id
    numbered =
        subst (λ n. IsNumbered c.args.ids.now c.number.new.self c.index-place.result.now.items n c.in_ok-id.id) (c.len.ensures ∙ c.args.lines.now.ok.0)
        (subst (λ place. IsNumbered c.args.ids.now c.number.new.self place c.len.result c.in_ok-id.id) c.deref-3.ensures.value c.in_ok-id.ensures)
