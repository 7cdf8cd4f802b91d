use Rattle.std.proofs.Common.{◌∙◌, List, None, ap, arith, false, length, refl, replicate, subst, sym, true, ℕ}
use Rattle.htn_model.specs.Instances.{method_conditions}
use Rattle.htn_model.specs.Schema.{TaskSchema}
use Rattle.htn_task.specs.Views.{terms_of}
use Rattle.plan_lines.specs.Found.{AreValuesToFit, IsFor}
use Rattle.plan_lines.proofs.Listed.{fit_same, goal_fit, none_fit}
use Rattle.plan_lines.proofs.Narrowed.{narrows_same}
use Rattle.plan_lines.proofs.fitting.method_values.Goals as goal

pub returns-then-not-bind_all : goal.returns-then-not-bind_all
returns-then-not-bind_all c =
    let m = c.args.method.now in
    let g = c.args.goal.now in
    let n = length c.parameters.result.now in
    subst (λ (l : List (List ℕ)). AreValuesToFit c.args.task.now c.args.ever.now c.args.children.now c.args.counts.now m.precondition m.network (IsFor c.args.task.now g m) l)
    (sym c.new-then-not-bind_all.ensures.items)
    (none_fit c.args.task.now c.args.ever.now g m c.args.children.now c.args.counts.now n c.bind_all.new.given.items (ap (λ (l : List ℕ). length l) c.parameters.ensures)
    (narrows_same (terms_of c.arguments.result.now) m.task.arguments c.arguments-2.result.now g.arguments c.in_ok-given.given.items (replicate n None) c.bind_all.new.given.items false
    (c.arguments.ensures ∙ ap (λ (s : TaskSchema). s.arguments) c.task-2.ensures) c.arguments-2.ensures c.in_ok-given.ensures c.if-not-bind_all.ensures.narrows))

pub returns : goal.returns
returns c =
    let t = c.args.task.now in
    let m = c.args.method.now in
    let g = c.args.goal.now in
    let n = length c.parameters.result.now in
    let new = c.bind_all.new.given.items in
    let name_is = ap (λ (s : TaskSchema). s.name) c.task.ensures in
    goal_fit t c.args.ever.now g m c.args.children.now c.args.counts.now n new (ap (λ (l : List ℕ). length l) c.parameters.ensures) c.in_ok-values.values.items
    (omega (arith, name_is, c.name.ensures, c.name-2.ensures, c.if-name.false))
    (narrows_same (terms_of c.arguments.result.now) m.task.arguments c.arguments-2.result.now g.arguments c.in_ok-given.given.items (replicate n None) new true
    (c.arguments.ensures ∙ ap (λ (s : TaskSchema). s.arguments) c.task-2.ensures) c.arguments-2.ensures c.in_ok-given.ensures c.if-not-bind_all.ensures.narrows)
    (fit_same t c.args.ever.now c.args.children.now c.args.counts.now c.args.counts.now c.precondition.result.now m.precondition c.network.result.now m.network c.in_ok-conditions.conditions
    (method_conditions t m) c.deref.result.now new c.in_ok-values.values.items refl c.precondition.ensures c.network.ensures c.in_ok-conditions.ensures c.deref.ensures.value c.in_ok-values.ensures)
