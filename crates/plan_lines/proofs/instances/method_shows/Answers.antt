use Rattle.std.proofs.Common.{◌≡◌, ◌∙◌, Bor, List, None, ap, arith, false, length, map, refl, replicate, true, ℕ}
use Rattle.htn_model.specs.Instances.{method_conditions}
use Rattle.htn_model.specs.Schema.{NetworkSchema, TaskSchema}
use Rattle.htn_task.specs.Views.{terms_of}
use Rattle.htn_task.specs.declared.term.TaskSchema as declared
use Rattle.plan_lines.proofs.Narrowed.{narrows_same}
use Rattle.plan_lines.proofs.Searched.{iff_trans, none_true, shows_same}
use Rattle.plan_lines.proofs.Shown.{none_for_goal, with_goal}
use Rattle.plan_lines.proofs.instances.method_shows.Goals as goal

pub returns-then-not-bind_all : goal.returns-then-not-bind_all
returns-then-not-bind_all c =
    let t = c.args.task.now in
    let g = c.args.goal.now in
    let m = c.args.method.now in
    let n = length c.parameters.result.now in
    none_true
    (none_for_goal t g m c.args.children.now c.args.counts.now n c.bind_all.new.given.items (ap (λ (l : List ℕ). length l) c.parameters.ensures)
    (narrows_same (terms_of c.arguments.result.now) m.task.arguments c.arguments-2.result.now g.arguments c.in_ok-given.given.items (replicate n None) c.bind_all.new.given.items false
    (c.arguments.ensures ∙ ap (λ (s : TaskSchema). s.arguments) c.task-2.ensures) c.arguments-2.ensures c.in_ok-given.ensures c.if-not-bind_all.ensures.narrows))

pub returns : goal.returns
returns c =
    let t = c.args.task.now in
    let g = c.args.goal.now in
    let m = c.args.method.now in
    let n = length c.parameters.result.now in
    let new = c.bind_all.new.given.items in
    let name_is = ap (λ (s : TaskSchema). s.name) c.task.ensures in
    let subtasks : map (λ (r : Bor declared.TaskSchema). r.now) c.deref.result.now ≡ m.network.subtasks =
    ap (map (λ (r : Bor declared.TaskSchema). r.now)) c.deref.ensures.value ∙ c.in_ok-all.ensures ∙ c.subtasks.ensures ∙ ap (λ (w : NetworkSchema). w.subtasks) c.network.ensures in
    iff_trans
    (shows_same t t c.in_ok-conditions.conditions (method_conditions t m) c.args.children.now c.in_ok-left.left.items c.args.counts.now (map (λ (r : Bor declared.TaskSchema). r.now) c.deref.result.now)
    m.network.subtasks c.deref-2.result.now new c.in_ok-found.found refl c.in_ok-conditions.ensures c.in_ok-left.ensures.items subtasks c.deref-2.ensures.value c.in_ok-found.ensures)
    (with_goal t g m c.args.children.now c.args.counts.now n new (ap (λ (l : List ℕ). length l) c.parameters.ensures) (omega (arith, name_is, c.name.ensures, c.name-2.ensures, c.if-name.false))
    (narrows_same (terms_of c.arguments.result.now) m.task.arguments c.arguments-2.result.now g.arguments c.in_ok-given.given.items (replicate n None) new true
    (c.arguments.ensures ∙ ap (λ (s : TaskSchema). s.arguments) c.task-2.ensures) c.arguments-2.ensures c.in_ok-given.ensures c.if-not-bind_all.ensures.narrows))
