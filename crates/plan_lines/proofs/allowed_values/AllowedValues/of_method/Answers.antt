use Rattle.std.proofs.Common.{◌∙◌, ◌↔◌, List, None, ap, arith, false, length, replicate, subst, sym, true, ℕ}
use Rattle.htn_model.specs.Instances.{Conditions}
use Rattle.htn_model.specs.Schema.{TaskSchema}
use Rattle.htn_task.specs.Views.{terms_of}
use Rattle.plan_lines.specs.Allowed.{IsInstanceWith}
use Rattle.plan_lines.specs.Found.{IsFor}
use Rattle.plan_lines.proofs.Narrowed.{narrows_same}
use Rattle.plan_lines.proofs.Valued.{none_for, some_for}
use Rattle.plan_lines.proofs.allowed_values.AllowedValues.of_method.Goals as goal

pub returns-then-not-bind_all : goal.returns-then-not-bind_all
returns-then-not-bind_all c =
    let m = c.args.method.now in
    let g = c.args.goal.now in
    let n = length c.parameters.result.now in
    none_for c.args.task.now g m n (ap (λ (l : List ℕ). length l) c.parameters.ensures) c.bind_all.new.given.items
    (narrows_same (terms_of c.arguments.result.now) m.task.arguments c.arguments-2.result.now g.arguments c.in_ok-given.given.items (replicate n None) c.bind_all.new.given.items false
    (c.arguments.ensures ∙ ap (λ (s : TaskSchema). s.arguments) c.task-2.ensures) c.arguments-2.ensures c.in_ok-given.ensures c.if-not-bind_all.ensures.narrows)

pub returns : goal.returns
returns c values =
    let t = c.args.task.now in
    let m = c.args.method.now in
    let g = c.args.goal.now in
    let n = length c.parameters.result.now in
    let new = c.bind_all.new.given.items in
    let name_is = ap (λ (s : TaskSchema). s.name) c.task.ensures in
    subst (λ (k : Conditions). IsInstanceWith t k new values ↔ IsFor t g m values) (sym c.in_ok-conditions.ensures)
    (some_for t g m n (ap (λ (l : List ℕ). length l) c.parameters.ensures) new (omega (arith, name_is, c.name.ensures, c.name-2.ensures, c.if-name.false))
    (narrows_same (terms_of c.arguments.result.now) m.task.arguments c.arguments-2.result.now g.arguments c.in_ok-given.given.items (replicate n None) new true
    (c.arguments.ensures ∙ ap (λ (s : TaskSchema). s.arguments) c.task-2.ensures) c.arguments-2.ensures c.in_ok-given.ensures c.if-not-bind_all.ensures.narrows)
    values)
