use Rattle.std.proofs.Common.{◌≡◌, ◌∙◌, ◌<◌, Bor, List, Some, ap, arith, bytes_eq, false, length, map, refl, slice_get, sym, true}
use Rattle.std.proofs.lemmas.Option.{slice_get-get_or}
use Rattle.std.proofs.lemmas.Slice.Eq.{bytes_eq-Decides}
use Rattle.htn_model.specs.Schema.{NetworkSchema, TaskSchema}
use Rattle.htn_model.specs.Task.{MethodSchema, Task}
use Rattle.htn_ground.specs.declared.ground_task.GroundTask as declared
use Rattle.plan_lines.specs.Left.{MethodShows}
use Rattle.plan_lines.proofs.Searched.{none_true, some_true, turned_off}
use Rattle.plan_lines.proofs.Shown.{got_below, mapped_long, method_same, method_shown, method_step, shows_method}
use Rattle.plan_lines.proofs.instances.has_instance.Goals as goal
use Rattle.plan_lines.proofs.instances.has_instance.Goals.{else-eq-via-then-eq+then-subtasks-children+in_ok-method_shows+else-branch, else-eq-via-then-eq+else-subtasks-children, else-eq-via-else-eq}

differ : true ≡ false → ⊥
differ e = cc

pub returns-then-branch : goal.returns-then-branch
returns-then-branch c =
    let t = c.args.names.now in
    let g = c.args.goal.now in
    let tasks = c.in_ok-tasks.tasks in
    let left = c.in_ok-tasks.counts.items in
    let methods = c.methods-methods.result.now in
    let i = c.loop-schema.schema-index in
    let m = c.schema-item.result in
    let methods_are : methods ≡ t.methods = c.methods-methods.ensures.value ∙ ap (λ (u : Task). u.methods) c.task-task.ensures in
    let at : slice_get t.methods i ≡ Some m =
    ap (λ (ms : List MethodSchema). slice_get ms i) (sym methods_are) ∙ slice_get-get_or methods i m c.loop-schema-test.true ∙ ap Some (sym c.schema-item.is) in
    let named : m.name ≡ c.args.method.now =
    sym (c.as_bytes.ensures.value ∙ c.name.ensures) ∙ (bytes_eq-Decides c.as_bytes.result.now c.as_bytes-in-loop-schema.result.now).0 (sym c.if-eq.ensures) ∙ c.as_bytes-in-loop-schema.ensures in
    some_true
    (shows_method t g c.args.method.now tasks (map (λ (r : Bor declared.GroundTask). r.now) c.args.children.now) left i m c.in_ok-tasks.ensures.counts at named
    (method_same c.task-task.result.now t g m tasks tasks c.deref.result.now left c.task-task.ensures refl c.deref.ensures.value (c.in_ok-method_shows.ensures.0 c.if-branch.true)))

pub loop-schema-preserved : goal.loop-schema-preserved
loop-schema-preserved c =
    let task = c.task-task.result.now in
    let g = c.args.goal.now in
    let tasks = c.in_ok-tasks.tasks in
    let left = c.in_ok-tasks.counts.items in
    let methods = c.methods-methods.result.now in
    let i = c.loop-schema.schema-index in
    let m = c.schema-item.result in
    let bytes : m.name ≡ c.as_bytes.result.now = sym (c.as_bytes.ensures.value ∙ c.name.ensures) in
    let word : c.as_bytes-in-loop-schema.result.now ≡ c.args.method.now = c.as_bytes-in-loop-schema.ensures in
    let P : MethodSchema → Type 0 =
    λ n. n.name ≡ c.args.method.now → length n.network.subtasks ≡ length c.args.children.now → MethodShows task g n tasks left → ⊥ in
    let here : P m =
    elim c.else-eq.branch [
      | else-eq-via-then-eq+then-subtasks-children+in_ok-method_shows+else-branch w ↦
          (λ named long shown.
          turned_off w.in_ok-method_shows.field-0 w.if-branch.false w.in_ok-method_shows.ensures
          (method_same task task g m tasks tasks left w.deref.result.now refl refl (sym w.deref.ensures.value) shown))
      | else-eq-via-then-eq+else-subtasks-children w ↦
          (λ named long shown.
          let e = ap (λ (l : List TaskSchema). length l) (w.subtasks.ensures ∙ ap (λ (n : NetworkSchema). n.subtasks) w.network.ensures) in
          absurd (omega (arith, e, long, w.if-subtasks-children.false)))
      | else-eq-via-else-eq w ↦
          (λ named long shown.
          let yes : bytes_eq c.as_bytes.result.now c.as_bytes-in-loop-schema.result.now ≡ true =
          (bytes_eq-Decides c.as_bytes.result.now c.as_bytes-in-loop-schema.result.now).1 (sym bytes ∙ named ∙ sym word) in
          let clash : true ≡ false = sym yes ∙ sym w.if-eq.ensures in
          absurd (differ clash))
    ] in
    method_step methods i m P (slice_get-get_or methods i m c.loop-schema-test.true ∙ ap Some (sym c.schema-item.is)) c.loop-schema.invariant here

pub returns : goal.returns
returns c =
    let t = c.args.names.now in
    let g = c.args.goal.now in
    let tasks = c.in_ok-tasks.tasks in
    let left = c.in_ok-tasks.counts.items in
    let methods = c.methods-methods.result.now in
    let children = map (λ (r : Bor declared.GroundTask). r.now) c.args.children.now in
    let methods_are : methods ≡ t.methods = c.methods-methods.ensures.value ∙ ap (λ (u : Task). u.methods) c.task-task.ensures in
    let many : length children ≡ length c.args.children.now = mapped_long (λ (r : Bor declared.GroundTask). r.now) c.args.children.now in
    none_true
    (λ h.
    let b = method_shown t g c.args.method.now tasks children left c.in_ok-tasks.ensures.counts h in
    let at : slice_get methods b.number ≡ Some b.schema = ap (λ (ms : List MethodSchema). slice_get ms b.number) methods_are ∙ b.at in
    let below : b.number < length methods = got_below methods b.number b.schema at in
    c.loop-schema.invariant b.number b.schema (omega (arith, below, c.loop-schema-test.false)) at b.named (b.long ∙ many)
    (method_same t c.task-task.result.now g b.schema tasks tasks left left (sym c.task-task.ensures) refl refl b.shows))
