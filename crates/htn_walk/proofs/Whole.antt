-- The networks of a task's instances have orders on their nodes.
use Rattle.std.proofs.Common.{◌≡◌, ℕ, map, length, get_or, Some, All, Contains, slice_get, ap, ◌∙◌}
use Rattle.std.proofs.lemmas.Option.{slice_get-get_or, slice_get-map, slice_get_within, get_or_from_slice_get}
use Rattle.std.specs.Option.{option_map}
use Rattle.htn_model.specs.Instance.{Instance}
use Rattle.htn_model.specs.Instances.{initials}
use Rattle.htn_model.specs.Task.{Task, IsWellTyped}
use Rattle.htn_model.proofs.Grounded.{tasks_are_grounded}
use Rattle.htn_walk.proofs.Words.{slice_get-map_back}
use Rattle.htn_walk.specs.Listed.{listed_initials}
use Rattle.htn_walk.proofs.Listed.{listed_initial}

-- the order of an initial network is one on its nodes
pub initial_whole : (t : Task) → IsWellTyped t → (i : Instance) → Contains (initials t) i → length i.network.order ≡ length i.network.children
initial_whole t typed i here =
    let at : slice_get (initials t) here.0 ≡ Some i = slice_get-get_or (initials t) here.0 i here.1 ∙ ap Some here.2 in
    ((tasks_are_grounded t typed).initials here.0 i.network (slice_get-map (λ (x : Instance). x.network) (initials t) here.0 ∙ ap (option_map (λ (x : Instance). x.network)) at)).square.0

-- and so do those of the initial network that are listed
pub listed_whole : (t : Task) → IsWellTyped t → All (λ (i : Instance). length i.network.order ≡ length i.network.children) (map (λ (p : ℕ × Instance). p.1) (listed_initials t))
listed_whole t typed k d inside =
    let all = map (λ (p : ℕ × Instance). p.1) (listed_initials t) in
    let x = get_or all k d in
    let p = slice_get-map_back (λ (q : ℕ × Instance). q.1) (listed_initials t) k x (slice_get-get_or all k d inside) in
    let at : slice_get (initials t) p.0.0 ≡ Some x = listed_initial t k p.0 p.1 ∙ ap Some p.2 in
    initial_whole t typed x (p.0.0, slice_get_within (initials t) p.0.0 x at, get_or_from_slice_get (initials t) p.0.0 x x at)
