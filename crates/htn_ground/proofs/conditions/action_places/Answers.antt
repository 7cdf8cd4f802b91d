use Rattle.std.proofs.Common.{◌++◌, ◌∙◌, List, ap, length, ℕ}
use Rattle.std.specs.List.{flat_map}
use Rattle.htn_model.specs.Schema.{AtomSchema, Formula}
use Rattle.htn_model.specs.Instances.{atom_places, formula_places}
use Rattle.htn_ground.specs.Places.{among, places_of}
use Rattle.htn_ground.proofs.Steps.{three_kept}
use Rattle.htn_ground.proofs.conditions.action_places.Goals as goal

pub returns : goal.returns
returns c =
    let t = c.args.task.now in
    let a = c.args.action.now in
    let n = length c.parameters-count.result.now in
    three_kept n (length a.parameters) (places_of c.new-places.result.items) (places_of c.push_conjunction_places.new.places.items) (places_of c.push_all_atom_places.new.places.items) (places_of c.push_all_atom_places-2.new.places.items)
    (flat_map (formula_places t) a.precondition) (flat_map (atom_places t) a.deletes) (flat_map (atom_places t) a.adds)
    (ap (λ (l : List ℕ). length l) c.parameters-count.ensures)
    (ap places_of c.new-places.ensures.items)
    (c.in_ok-push_conjunction_places.ensures ∙ ap (λ (l : List Formula). places_of c.new-places.result.items ++ among n (flat_map (formula_places t) l)) c.precondition.ensures)
    (c.in_ok-push_all_atom_places.ensures ∙ ap (λ (l : List AtomSchema). places_of c.push_conjunction_places.new.places.items ++ among n (flat_map (atom_places t) l)) c.deletes.ensures)
    (c.in_ok-push_all_atom_places-2.ensures ∙ ap (λ (l : List AtomSchema). places_of c.push_all_atom_places.new.places.items ++ among n (flat_map (atom_places t) l)) c.adds.ensures)
