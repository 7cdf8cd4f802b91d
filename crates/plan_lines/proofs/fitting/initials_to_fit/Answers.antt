use Rattle.std.proofs.Common.{◌≡◌, ◌∙◌, Bor, List, None, [], ap, arith, length, map, replicate, subst, sym, take, ℕ}
use Rattle.std.proofs.lemmas.List.{take_all}
use Rattle.htn_model.specs.Instance.{Instance}
use Rattle.htn_model.specs.Instances.{initial_conditions, initial_instance}
use Rattle.htn_model.specs.Task.{InitialSchema, Task}
use Rattle.htn_ground.specs.declared.ground_task.GroundTask as declared
use Rattle.htn_task.specs.Formulas.{formula_of}
use Rattle.plan_lines.specs.Allowed.{IsInstanceWith}
use Rattle.plan_lines.specs.Fitting.{AreToFit}
use Rattle.plan_lines.specs.Found.{AreValuesToFit}
use Rattle.plan_lines.specs.Lines.{IsInitial}
use Rattle.plan_lines.proofs.Listed.{fit_same, initials_fit}
use Rattle.plan_lines.proofs.fitting.initials_to_fit.Goals as goal

pub returns : goal.returns
returns c =
    let t = c.task-task.result.now in
    let h = c.args.ever.now in
    let initial = t.initial_network in
    let roots = map (λ (r : Bor declared.GroundTask). r.now) c.args.roots.now in
    let tasks = c.in_ok-tasks.tasks in
    let left = c.in_ok-tasks.counts.items in
    let n = length c.parameters.result.now in
    let schema : c.initial_network-initial.result.now ≡ initial = c.initial_network-initial.ensures.value in
    let many : n ≡ length initial.parameters = ap (λ (l : List ℕ). length l) (c.parameters.ensures ∙ ap (λ (w : InitialSchema). w.parameters) schema) in
    let values = c.deref-choice-items.result.now in
    let all : take c.loop-choice.choice-index values ≡ values = take_all c.loop-choice.choice-index values (omega (arith, c.loop-choice-test.false)) in
    let none : c.of-empty.result ≡ [] = c.of-empty.ensures ∙ ap (map formula_of) c.new.ensures.items in
    subst (λ (u : Task). AreToFit h (IsInitial u) roots (map (λ (i : Instance). i.network) c.loop-choice.found.items)) c.task-task.ensures
    (initials_fit t h roots tasks left n values c.loop-choice.found.items many c.in_ok-tasks.ensures.counts
    (subst (λ (l : List (List ℕ)). AreValuesToFit t h tasks left [] initial.network (IsInstanceWith t (initial_conditions t initial) (replicate n None)) l) (sym c.deref-choice-items.ensures.value)
    (fit_same t h tasks c.deref.result.now left c.of-empty.result [] c.network.result.now initial.network c.in_ok-conditions.conditions (initial_conditions t initial) c.deref-2.result.now
    (replicate n None) c.in_ok-values.values.items c.deref.ensures.value none (c.network.ensures ∙ ap (λ (w : InitialSchema). w.network) schema)
    (c.in_ok-conditions.ensures ∙ ap (initial_conditions t) schema) (c.deref-2.ensures.value ∙ c.in_ok-given.ensures) c.in_ok-values.ensures))
    (c.loop-choice.invariant ∙ ap (map (initial_instance t)) all))
