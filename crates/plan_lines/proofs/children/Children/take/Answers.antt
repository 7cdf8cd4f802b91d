use Rattle.std.proofs.Common.{◌≡◌, ◌∙◌, ◌-◌, Some, ap, arith, get_or, position, set}
use Rattle.htn_model.specs.Problem.{ground_task_eq}
use Rattle.plan_lines.proofs.Exchanged.{any_default}
use Rattle.plan_lines.proofs.Left.{found_place, left-less}
use Rattle.plan_lines.proofs.children.Children.take.Goals as goal

pub returns-clause-taken : goal.returns-clause-taken
returns-clause-taken c g =
    let tasks = c.args.self.now in
    let left = c.args.left.now.items in
    let n = c.in-Some.number in
    let found : position (ground_task_eq c.args.task.now) tasks ≡ Some n = cc (c.get_index_of.ensures.index, c.in-Some.is, c.self.view_is) in
    let below = (found_place tasks c.args.task.now n found).1 in
    let was : c.index_mut.result.now ≡ get_or left n 0 = c.index_mut.ensures.value ∙ any_default left n c.index_mut.result.now 0 (omega (arith, below, c.requires)) in
    let read : c.index.result.now ≡ get_or left n 0 = c.index.ensures ∙ any_default left n c.index.result.now 0 (omega (arith, below, c.requires)) in
    left-less tasks left (set left n (c.index_mut.result.now - 1)) c.args.task.now n g c.requires found (omega (arith, read, c.if-index-eq0.false)) (ap (λ k. set left n (k - 1)) was)
