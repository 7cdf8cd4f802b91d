use Rattle.std.proofs.Common.{◌++◌, ◌∙◌, List, ap, length, ℕ}
use Rattle.std.specs.List.{flat_map}
use Rattle.htn_model.specs.Schema.{NetworkSchema, TaskSchema}
use Rattle.htn_model.specs.Instances.{task_places}
use Rattle.htn_ground.specs.Places.{among, places_of}
use Rattle.htn_ground.proofs.Steps.{one_kept}
use Rattle.htn_ground.proofs.conditions.initial_places.Goals as goal

pub returns : goal.returns
returns c =
    let t = c.args.task.now in
    let s = c.args.initial.now in
    let n = length c.parameters-count.result.now in
    one_kept n (length s.parameters) (places_of c.new-places.result.items) (places_of c.push_all_task_places.new.places.items) (flat_map (task_places t) s.network.subtasks)
    (ap (λ (l : List ℕ). length l) c.parameters-count.ensures)
    (ap places_of c.new-places.ensures.items)
    (c.in_ok-push_all_task_places.ensures
    ∙ ap (λ (l : List TaskSchema). places_of c.new-places.result.items ++ among n (flat_map (task_places t) l)) (c.subtasks.ensures ∙ ap (λ (x : NetworkSchema). x.subtasks) c.network.ensures))
