use Rattle.std.proofs.Common.{◌++◌, ◌∙◌, List, ap, length, ℕ}
use Rattle.std.specs.List.{flat_map}
use Rattle.htn_model.specs.Schema.{Formula, NetworkSchema, TaskSchema}
use Rattle.htn_model.specs.Instances.{formula_places, task_places}
use Rattle.htn_ground.specs.Places.{among, places_of}
use Rattle.htn_ground.proofs.Steps.{three_kept}
use Rattle.htn_ground.proofs.conditions.method_places.Goals as goal

pub returns : goal.returns
returns c =
    let t = c.args.task.now in
    let m = c.args.method.now in
    let n = length c.parameters-count.result.now in
    three_kept n (length m.parameters) (places_of c.new-places.result.items) (places_of c.push_task_places.new.places.items) (places_of c.push_all_task_places.new.places.items) (places_of c.push_conjunction_places.new.places.items)
    (task_places t m.task) (flat_map (task_places t) m.network.subtasks) (flat_map (formula_places t) m.precondition)
    (ap (λ (l : List ℕ). length l) c.parameters-count.ensures)
    (ap places_of c.new-places.ensures.items)
    (c.in_ok-push_task_places.ensures ∙ ap (λ (s : TaskSchema). places_of c.new-places.result.items ++ among n (task_places t s)) c.task.ensures)
    (c.in_ok-push_all_task_places.ensures
    ∙ ap (λ (l : List TaskSchema). places_of c.push_task_places.new.places.items ++ among n (flat_map (task_places t) l)) (c.subtasks.ensures ∙ ap (λ (s : NetworkSchema). s.subtasks) c.network.ensures))
    (c.in_ok-push_conjunction_places.ensures
    ∙ ap (λ (l : List Formula). places_of c.push_all_task_places.new.places.items ++ among n (flat_map (formula_places t) l)) c.precondition.ensures)
