use Rattle.std.proofs.Common.{◌≡◌, ◌-◌, suc, cond, length, Some, sym, ap, ◌∙◌, subst, arith}
use Rattle.htn_model.specs.Problem.{GroundTask, ground_task_eq}
use Rattle.plan_room.specs.Links.{place_of, task_at}
use Rattle.plan_room.proofs.Linked.{noted_first, none_next, some_next}
use Rattle.plan_room.proofs.links.next_places.Goals as goal

pub loop-place-preserved-in-Some : goal.loop-place-preserved-in-Some
loop-place-preserved-in-Some g c =
    let tasks = task_at (g.L.PlanLines.lines c.args.lines.now) c.args.children.now in
    let n = length c.args.children.now in
    let p = c.loop-place.place - 1 in
    let inv = c.loop-place.invariant in
    let after : c.loop-place.place ≡ suc p = omega arith in
    let low = inv.low in
    let noted : (t : GroundTask) → place_of c.note.new.self t ≡ cond (ground_task_eq (tasks p) t) (Some p) (place_of c.loop-place.places t) =
    subst (λ k. (t : GroundTask) → place_of c.note.new.self t ≡ cond (ground_task_eq k t) (Some p) (place_of c.loop-place.places t)) c.task.ensures c.in_ok-next.ensures.noted in
    record {
      low = omega arith;
      next = some_next tasks p c.loop-place.place n after (omega arith) c.loop-place.after.items inv.next (place_of c.loop-place.places (tasks p)) c.in-Some.next
          (ap (place_of c.loop-place.places) (sym c.task.ensures) ∙ sym c.in_ok-next.ensures.before ∙ c.in-Some.is) (inv.first (tasks p));
      first = noted_first tasks p c.loop-place.place n after (omega arith) (place_of c.loop-place.places) (place_of c.note.new.self) inv.first noted;
    }

pub loop-place-preserved : goal.loop-place-preserved
loop-place-preserved g c =
    let tasks = task_at (g.L.PlanLines.lines c.args.lines.now) c.args.children.now in
    let n = length c.args.children.now in
    let p = c.loop-place.place - 1 in
    let inv = c.loop-place.invariant in
    let after : c.loop-place.place ≡ suc p = omega arith in
    let low = inv.low in
    let noted : (t : GroundTask) → place_of c.note.new.self t ≡ cond (ground_task_eq (tasks p) t) (Some p) (place_of c.loop-place.places t) =
    subst (λ k. (t : GroundTask) → place_of c.note.new.self t ≡ cond (ground_task_eq k t) (Some p) (place_of c.loop-place.places t)) c.task.ensures c.in_ok-next.ensures.noted in
    record {
      low = omega arith;
      next = none_next tasks p c.loop-place.place n after (omega arith) c.loop-place.after.items inv.next (place_of c.loop-place.places (tasks p))
          (ap (place_of c.loop-place.places) (sym c.task.ensures) ∙ sym c.in_ok-next.ensures.before ∙ c.in_default.is) (inv.first (tasks p));
      first = noted_first tasks p c.loop-place.place n after (omega arith) (place_of c.loop-place.places) (place_of c.note.new.self) inv.first noted;
    }
