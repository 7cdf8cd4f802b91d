-- The networks of listed instances have orders on their nodes.
use Rattle.std.proofs.Common.{◌≡◌, ◌∙◌, ℕ, All, ap, subst, map, length, get_or, slice_get, Some}
use Rattle.std.proofs.lemmas.Option.{slice_get-get_or, slice_get-map}
use Rattle.std.specs.Option.{option_map}
use Rattle.htn_model.specs.Instance.{Instance}
use Rattle.htn_model.specs.Problem.{GroundTask}
use Rattle.htn_model.specs.Instances.{methods_of}
use Rattle.htn_model.specs.Task.{Task, IsWellTyped}
use Rattle.htn_model.proofs.Grounded.{tasks_are_grounded}
use Rattle.htn_ground.specs.Distinct.{distinct, live_methods}
use Rattle.htn_walk.proofs.Words.{slice_get-map_back}
use Rattle.htn_walk.specs.Listed.{listed_methods}
use Rattle.htn_walk.proofs.Listed.{listed_instances, listed_method}

-- those of a compound task
pub methods_square : (t : Task) → IsWellTyped t → (g : GroundTask) → All (λ (i : Instance). length i.network.order ≡ length i.network.children) (distinct (live_methods t g))
methods_square t typed g = subst (All (λ (i : Instance). length i.network.order ≡ length i.network.children)) (listed_instances t g) each
  where
    each : All (λ (i : Instance). length i.network.order ≡ length i.network.children) (map (λ (p : ℕ × Instance). p.1) (listed_methods t g))
    each k d inside =
        let all = map (λ (p : ℕ × Instance). p.1) (listed_methods t g) in
        let x = get_or all k d in
        let p = slice_get-map_back (λ (q : ℕ × Instance). q.1) (listed_methods t g) k x (slice_get-get_or all k d inside) in
        let at : slice_get (methods_of t g) p.0.0 ≡ Some x = (listed_method t g k p.0 p.1).0 ∙ ap Some p.2 in
        ((tasks_are_grounded t typed).methods g p.0.0 x.network (slice_get-map (λ (y : Instance). y.network) (methods_of t g) p.0.0 ∙ ap (option_map (λ (y : Instance). y.network)) at)).square.0
