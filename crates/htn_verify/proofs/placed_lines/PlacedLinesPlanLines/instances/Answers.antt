use Rattle.std.proofs.Common.{◌≡◌, ◌<◌, ◌-◌, ◌∙◌, Bor, ap, get_or, length, map, subst, sym, arith}
use Rattle.std.specs.List.{All}
use Rattle.htn_ground.specs.declared.ground_task.GroundTask as declared
use Rattle.plan_text.specs.Plans.{method_at}
use Rattle.plan_text.specs.Reached.{children_at}
use Rattle.plan_lines.specs.Fitting.{AreToFit}
use Rattle.plan_lines.specs.Lines.{IsNamedInstance}
use Rattle.htn_verify.specs.Tasks.{task_at}
use Rattle.htn_verify.proofs.Candidates.{children_read, line_candidates, method_read, task_read}
use Rattle.htn_verify.proofs.placed_lines.PlacedLinesPlanLines.instances.Goals as goal

pub tasks_of-requires : goal.tasks_of-requires
tasks_of-requires c =
    let s = c.args.self.now in
    subst (All (λ n. n < length s.tasks.now)) (sym (c.children.ensures ∙ children_read s.file.now s.forest.now c.actions.result.now c.args.line c.actions.ensures.value c.requires.0)) (s.placed.children_low c.args.line)

pub returns : goal.returns
returns c =
    let s = c.args.self.now in
    let i = c.args.line in
    let networks = map (λ x. x.network) c.in_ok-found.found.items in
    let children = children_at (length s.file.now.actions) s.forest.now.children i in
    let tasks_are : map (λ (r : Bor declared.GroundTask). r.now) c.deref.result.now ≡ map (task_at s.tasks.now) children =
    ap (map (λ (r : Bor declared.GroundTask). r.now)) c.deref.ensures.value ∙ c.in_ok-children.ensures
    ∙ ap (map (task_at s.tasks.now)) (c.children.ensures ∙ children_read s.file.now s.forest.now c.actions.result.now i c.actions.ensures.value c.requires.0) in
    let goal_read = get_or s.tasks.now i c.index-self-line.result in
    let goal_is : goal_read ≡ task_at s.tasks.now i = task_read s.tasks.now i c.index-self-line.result c.requires.1 in
    let many = s.placed.many in
    let some = ap length c.actions.ensures.value in
    let others = ap length c.decompositions.ensures.value in
    let high = c.requires.0 in
    let low = c.requires.1 in
    let place : (i - length c.actions.result.now) < length c.decompositions.result.now = omega arith in
    let method_is : c.method-method.result.now ≡ method_at s.file.now i = c.method-method.ensures
    ∙ method_read s.file.now c.actions.result.now c.decompositions.result.now i c.index-decompositions-place.result c.actions.ensures.value c.decompositions.ensures.value place c.index-decompositions-place.is in
    line_candidates s.task.now s.file.now s.forest.now s.tasks.now s.turns.now s.placed i networks c.requires.0 c.requires.1
    (subst (λ t. AreToFit s.turns.now (IsNamedInstance t (task_at s.tasks.now i) (method_at s.file.now i)) (map (task_at s.tasks.now) children) networks) c.new-names.ensures
    (subst (λ g. AreToFit s.turns.now (IsNamedInstance c.new-names.result g (method_at s.file.now i)) (map (task_at s.tasks.now) children) networks) goal_is
    (subst (λ m. AreToFit s.turns.now (IsNamedInstance c.new-names.result goal_read m) (map (task_at s.tasks.now) children) networks) method_is
    (subst (λ ts. AreToFit s.turns.now (IsNamedInstance c.new-names.result goal_read c.method-method.result.now) ts networks) tasks_are
    (subst (λ h. AreToFit h (IsNamedInstance c.new-names.result goal_read c.method-method.result.now) (map (λ (r : Bor declared.GroundTask). r.now) c.deref.result.now) networks) s.same
    c.in_ok-found.ensures)))))
