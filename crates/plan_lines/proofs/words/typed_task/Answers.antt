use Rattle.std.proofs.Common.{◌≡◌, ◌∙◌, List, None, Some, ap, ap₂, length, subst, sym, ℕ}
use Rattle.std.specs.List.{zip}
use Rattle.htn_model.specs.Task.{Task, task_types}
use Rattle.plan_lines.specs.First.{HasNone, IsFirst}
use Rattle.plan_lines.specs.Words.{HasForm, IsOtherType}
use Rattle.plan_lines.proofs.Naming.{form_is, form_names, moved}
use Rattle.plan_lines.proofs.words.typed_task.Goals as goal

pub unreachable-requires : goal.unreachable-requires
unreachable-requires c =
    let form = subst (λ (t : Task). HasForm t c.args.compound c.args.name.now c.args.arguments.now) c.task-task.ensures (rw c.in_default.is at c.in_ok-cause.ensures) in
    let h = form_names c.args.names.now c.args.compound c.args.name.now c.args.arguments.now form in
    let clash : None ≡ Some h.0 = sym c.in_default-2.is ∙ c.in_ok-goal.ensures ∙ h.1.named in
    absurd cc

pub first_other_type-requires : goal.first_other_type-requires
first_other_type-requires c =
    let form = subst (λ (t : Task). HasForm t c.args.compound c.args.name.now c.args.arguments.now) c.task-task.ensures (rw c.in_default.is at c.in_ok-cause.ensures) in
    let g = c.in-Some-2.goal in
    let counted = form_is c.args.names.now c.args.compound c.args.name.now c.args.arguments.now g form (sym c.in_ok-goal.ensures ∙ c.in-Some-2.is) in
    ap (λ (l : List ℕ). length l) (c.task_types.ensures ∙ ap₂ task_types c.task-task.ensures c.name.ensures) ∙ sym counted.count ∙ ap (λ (l : List ℕ). length l) (sym c.arguments.ensures)

pub returns-in-Some-first_other_type : goal.returns-in-Some-first_other_type
returns-in-Some-first_other_type c =
    let form = subst (λ (t : Task). HasForm t c.args.compound c.args.name.now c.args.arguments.now) c.task-task.ensures (rw c.in_default.is at c.in_ok-cause.ensures) in
    let g = c.in-Some-2.goal in
    let counted = form_is c.args.names.now c.args.compound c.args.name.now c.args.arguments.now g form (sym c.in_ok-goal.ensures ∙ c.in-Some-2.is) in (
      g,
      counted,
      moved (λ t types objects. IsFirst (IsOtherType t) (zip types objects) c.in-Some-first_other_type.place) c.task-task.result.now c.args.names.now c.task_types.result.now
          (task_types c.args.names.now g.name) c.arguments.result.now g.arguments c.task-task.ensures (c.task_types.ensures ∙ ap₂ task_types c.task-task.ensures c.name.ensures)
          c.arguments.ensures c.in-Some-first_other_type.ensures,
    )

pub returns-in-None : goal.returns-in-None
returns-in-None c =
    let form = subst (λ (t : Task). HasForm t c.args.compound c.args.name.now c.args.arguments.now) c.task-task.ensures (rw c.in_default.is at c.in_ok-cause.ensures) in
    let g = c.in-Some-2.goal in
    let counted = form_is c.args.names.now c.args.compound c.args.name.now c.args.arguments.now g form (sym c.in_ok-goal.ensures ∙ c.in-Some-2.is) in (
      counted,
      moved (λ t types objects. HasNone (IsOtherType t) (zip types objects)) c.task-task.result.now c.args.names.now c.task_types.result.now (task_types c.args.names.now g.name)
          c.arguments.result.now g.arguments c.task-task.ensures (c.task_types.ensures ∙ ap₂ task_types c.task-task.ensures c.name.ensures) c.arguments.ensures c.in-None.ensures,
    )
