use Rattle.std.proofs.Common.{◌≡◌, ◌∙◌, ap, subst, sym, true}
use Rattle.htn_model.specs.Schema.{TaskSchema}
use Rattle.htn_model.specs.Instances.{Conditions, instances, method_conditions}
use Rattle.htn_task.specs.Views.{terms_of}
use Rattle.htn_ground.specs.Methods.{fits_task}
use Rattle.htn_ground.specs.Search.{AreBound}
use Rattle.htn_ground.proofs.Pinned.{fit_length, fit_name, instances_pinned, method_bound, no_fit, pin_same, pinned_conditions}
use Rattle.htn_ground.proofs.methods.conditions_for.Goals as goal

pub returns-then-not-fits_task-clause-none : goal.returns-then-not-fits_task-clause-none
returns-then-not-fits_task-clause-none c =
    no_fit c.args.task.now c.args.goal.now c.args.method.now (c.if-not-fits_task.ensures ∙ ap (λ (s : TaskSchema). fits_task s c.args.goal.now) c.task.ensures)

pub returns-clause-instances : goal.returns-clause-instances
returns-clause-instances c =
    let t = c.args.task.now in
    let g = c.args.goal.now in
    let m = c.args.method.now in
    let fits : true ≡ fits_task m.task g = c.if-not-fits_task.ensures ∙ ap (λ (s : TaskSchema). fits_task s g) c.task.ensures in
    let are : c.in_ok-pinned.pinned ≡ pinned_conditions t g m =
    c.in_ok-pinned.ensures
    ∙ pin_same c.in_ok-conditions.conditions (method_conditions t m) (terms_of c.arguments.result.now) m.task.arguments c.arguments-2.result.now g.arguments
    c.in_ok-conditions.ensures (c.arguments.ensures ∙ ap (λ (s : TaskSchema). s.arguments) c.task-2.ensures) c.arguments-2.ensures in
    ap (λ (s : Conditions). instances t s) are ∙ instances_pinned t g m (fit_name m g fits) (fit_length m g fits)

pub returns-clause-parameters : goal.returns-clause-parameters
returns-clause-parameters c =
    ap (λ (s : Conditions). s.parameters) c.in_ok-pinned.ensures ∙ ap (λ (s : Conditions). s.parameters) c.in_ok-conditions.ensures

pub returns-clause-bound : goal.returns-clause-bound
returns-clause-bound c =
    let t = c.args.task.now in
    let g = c.args.goal.now in
    let m = c.args.method.now in
    let are : c.in_ok-pinned.pinned ≡ pinned_conditions t g m =
    c.in_ok-pinned.ensures
    ∙ pin_same c.in_ok-conditions.conditions (method_conditions t m) (terms_of c.arguments.result.now) m.task.arguments c.arguments-2.result.now g.arguments
    c.in_ok-conditions.ensures (c.arguments.ensures ∙ ap (λ (s : TaskSchema). s.arguments) c.task-2.ensures) c.arguments-2.ensures in
    subst (λ (s : Conditions). AreBound s) (sym are) (method_bound t g m c.requires)
