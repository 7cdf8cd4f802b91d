use Rattle.std.proofs.Common.{◌≡◌, ◌∙◌, List, Option, ap, map, refl, subst, sym, ℕ}
use Rattle.std.proofs.lemmas.List.{take_all}
use Rattle.htn_model.specs.Task.{InitialSchema}
use Rattle.htn_model.specs.Instances.{Conditions, initial_conditions, initial_instance, instances}
use Rattle.htn_ground.specs.Search.{AreBound}
use Rattle.htn_ground.proofs.Numbered.{all_live}
use Rattle.htn_ground.proofs.Pinned.{initial_bound}
use Rattle.htn_ground.proofs.methods.initials.Goals as goal

pub live_values-requires-clause-bound : goal.live_values-requires-clause-bound
live_values-requires-clause-bound c =
    let t = c.args.task.now in
    let are : c.in_ok-conditions.conditions ≡ initial_conditions t t.initial_network =
    c.in_ok-conditions.ensures ∙ ap (λ (s : InitialSchema). initial_conditions t s) c.initial_network.ensures.value in
    subst (λ (s : Conditions). AreBound s) (sym are) (initial_bound t t.initial_network c.initial_network.ensures.typed.initial_network)

pub returns : goal.returns
returns c =
    let t = c.args.task.now in
    let are : c.in_ok-conditions.conditions ≡ initial_conditions t t.initial_network =
    c.in_ok-conditions.ensures ∙ ap (λ (s : InitialSchema). initial_conditions t s) c.initial_network.ensures.value in
    c.loop-choice.invariant
    ∙ ap (λ (l : List (Option ℕ × List ℕ)). map (λ (p : Option ℕ × List ℕ). initial_instance t p.1) l)
    (take_all c.loop-choice.choice-index c.deref-choice-items.result.now c.loop-choice-test.false ∙ c.deref-choice-items.ensures.value ∙ c.in_ok-values.ensures.found 0 refl)
    ∙ all_live t.initial_atoms (initial_instance t) 0 (instances t c.in_ok-conditions.conditions)
    ∙ ap (λ (s : Conditions). map (initial_instance t) (instances t s)) are
