use Rattle.std.proofs.Common.{◌≡◌, ◌∙◌, None, Some, ap, option_map, slice_get, subst, sym}
use Rattle.std.proofs.lemmas.Option.{slice_get-map}
use Rattle.htn_model.specs.Task.{InitialSchema}
use Rattle.htn_model.specs.Instances.{Conditions, initial_conditions, initial_instance, instances}
use Rattle.htn_ground.specs.Search.{AreBound}
use Rattle.htn_ground.proofs.Pinned.{initial_bound}
use Rattle.htn_ground.proofs.at_number.initial_at.Goals as goal

pub values_at-requires : goal.values_at-requires
values_at-requires c =
    let t = c.args.task.now in
    let are : c.in_ok-conditions.conditions ≡ initial_conditions t t.initial_network =
    c.in_ok-conditions.ensures ∙ ap (λ (s : InitialSchema). initial_conditions t s) c.initial_network.ensures.value in
    subst (λ (s : Conditions). AreBound s) (sym are) (initial_bound t t.initial_network c.initial_network.ensures.typed.initial_network)

pub returns-in_default : goal.returns-in_default
returns-in_default c =
    let t = c.args.task.now in
    let are : c.in_ok-conditions.conditions ≡ initial_conditions t t.initial_network =
    c.in_ok-conditions.ensures ∙ ap (λ (s : InitialSchema). initial_conditions t s) c.initial_network.ensures.value in
    let at : slice_get (instances t (initial_conditions t t.initial_network)) c.args.number ≡ None =
    ap (λ (s : Conditions). slice_get (instances t s) c.args.number) (sym are) ∙ sym c.in_ok-values.ensures.found ∙ c.in_default.is in
    sym (slice_get-map (initial_instance t) (instances t (initial_conditions t t.initial_network)) c.args.number ∙ ap (option_map (initial_instance t)) at)

pub returns : goal.returns
returns c =
    let t = c.args.task.now in
    let are : c.in_ok-conditions.conditions ≡ initial_conditions t t.initial_network =
    c.in_ok-conditions.ensures ∙ ap (λ (s : InitialSchema). initial_conditions t s) c.initial_network.ensures.value in
    let at : slice_get (instances t (initial_conditions t t.initial_network)) c.args.number ≡ Some c.in-Some.values =
    ap (λ (s : Conditions). slice_get (instances t s) c.args.number) (sym are) ∙ sym c.in_ok-values.ensures.found ∙ c.in-Some.is in
    ap Some c.in_ok-instance.ensures
    ∙ sym (slice_get-map (initial_instance t) (instances t (initial_conditions t t.initial_network)) c.args.number ∙ ap (option_map (initial_instance t)) at)
