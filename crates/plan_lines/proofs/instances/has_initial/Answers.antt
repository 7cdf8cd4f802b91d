use Rattle.std.proofs.Common.{◌≡◌, ◌∙◌, Bor, List, None, ap, arith, length, map, refl, replicate, ℕ}
use Rattle.htn_model.specs.Instances.{initial_conditions}
use Rattle.htn_model.specs.Schema.{NetworkSchema, TaskSchema}
use Rattle.htn_model.specs.Task.{InitialSchema, Task}
use Rattle.htn_ground.specs.declared.ground_task.GroundTask as declared
use Rattle.htn_task.specs.declared.term.TaskSchema as schemas
use Rattle.plan_lines.proofs.Searched.{iff_trans, none_true, shows_same}
use Rattle.plan_lines.proofs.Shown.{initial_long, initial_with, mapped_long}
use Rattle.plan_lines.proofs.instances.has_initial.Goals as goal

pub returns-then-subtasks-roots : goal.returns-then-subtasks-roots
returns-then-subtasks-roots c =
    let t = c.args.names.now in
    let roots = map (λ (r : Bor declared.GroundTask). r.now) c.args.roots.now in
    let schema : c.initial_network-initial.result.now ≡ t.initial_network = c.initial_network-initial.ensures.value ∙ ap (λ (u : Task). u.initial_network) c.task-task.ensures in
    let subtasks : c.subtasks-subtasks.result.now ≡ t.initial_network.network.subtasks =
    c.subtasks-subtasks.ensures ∙ ap (λ (n : NetworkSchema). n.subtasks) (c.network.ensures ∙ ap (λ (n : InitialSchema). n.network) schema) in
    let m : length roots ≡ length c.args.roots.now = mapped_long (λ (r : Bor declared.GroundTask). r.now) c.args.roots.now in
    none_true
    (λ h.
    let e = initial_long t roots h in
    let f = ap (λ (l : List TaskSchema). length l) subtasks in
    absurd (omega (arith, e, f, m, c.if-subtasks-roots.true)))

pub returns : goal.returns
returns c =
    let t = c.args.names.now in
    let roots = map (λ (r : Bor declared.GroundTask). r.now) c.args.roots.now in
    let tasks = c.in_ok-tasks.tasks in
    let n = length c.parameters.result.now in
    let task_is : c.task-task.result.now ≡ t = c.task-task.ensures in
    let schema : c.initial_network-initial.result.now ≡ t.initial_network = c.initial_network-initial.ensures.value ∙ ap (λ (u : Task). u.initial_network) task_is in
    let subtasks : c.subtasks-subtasks.result.now ≡ t.initial_network.network.subtasks =
    c.subtasks-subtasks.ensures ∙ ap (λ (w : NetworkSchema). w.subtasks) (c.network.ensures ∙ ap (λ (w : InitialSchema). w.network) schema) in
    let all : map (λ (r : Bor schemas.TaskSchema). r.now) c.deref.result.now ≡ t.initial_network.network.subtasks =
    ap (map (λ (r : Bor schemas.TaskSchema). r.now)) c.deref.ensures.value ∙ c.in_ok-all.ensures ∙ subtasks in
    let conditions : c.in_ok-conditions.conditions ≡ initial_conditions t t.initial_network = c.in_ok-conditions.ensures ∙ (λ i. initial_conditions (task_is i) (schema i)) in
    let many : n ≡ length t.initial_network.parameters = ap (λ (l : List ℕ). length l) (c.parameters.ensures ∙ ap (λ (w : InitialSchema). w.parameters) schema) in
    iff_trans
    (shows_same c.task-task.result.now t c.in_ok-conditions.conditions (initial_conditions t t.initial_network) tasks c.in_ok-tasks.counts.items c.in_ok-tasks.counts.items
    (map (λ (r : Bor schemas.TaskSchema). r.now) c.deref.result.now) t.initial_network.network.subtasks c.deref-2.result.now (replicate n None) c.in_ok-found.found task_is conditions refl all
    (c.deref-2.ensures.value ∙ c.in_ok-given.ensures) c.in_ok-found.ensures)
    (initial_with t tasks roots c.in_ok-tasks.counts.items n many c.in_ok-tasks.ensures.counts)
