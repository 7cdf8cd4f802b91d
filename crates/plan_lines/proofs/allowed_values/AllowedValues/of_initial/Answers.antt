use Rattle.std.proofs.Common.{◌≡◌, ◌∙◌, ◌↔◌, List, Option, ap, length, subst, sym, ℕ}
use Rattle.htn_model.specs.Instances.{Conditions, initial_conditions}
use Rattle.htn_model.specs.Task.{InitialSchema}
use Rattle.plan_lines.specs.Allowed.{IsInstanceWith}
use Rattle.plan_lines.specs.Values.{IsForRoots}
use Rattle.plan_lines.proofs.Valued.{for_roots}
use Rattle.plan_lines.proofs.allowed_values.AllowedValues.of_initial.Goals as goal

pub returns : goal.returns
returns c values =
    let t = c.args.task.now in
    let initial = t.initial_network in
    let n = length c.parameters.result.now in
    let schema : c.initial_network-initial.result.now ≡ initial = c.initial_network-initial.ensures.value in
    let many : n ≡ length initial.parameters = ap (λ (l : List ℕ). length l) (c.parameters.ensures ∙ ap (λ (w : InitialSchema). w.parameters) schema) in
    subst (λ (k : Conditions). IsInstanceWith t k c.in_ok-given.given.items values ↔ IsForRoots t values) (sym (c.in_ok-conditions.ensures ∙ ap (initial_conditions t) schema))
    (subst (λ (l : List (Option ℕ)). IsInstanceWith t (initial_conditions t initial) l values ↔ IsForRoots t values) (sym c.in_ok-given.ensures) (for_roots t n many values))
