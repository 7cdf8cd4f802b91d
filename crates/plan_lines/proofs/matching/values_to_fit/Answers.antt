use Rattle.std.proofs.Common.{◌≡◌, ◌∙◌, Bor, List, [], ap, length, map, subst, sym, true, ℕ}
use Rattle.htn_model.specs.Instances.{network_of}
use Rattle.htn_model.specs.PlanFile.{IsIn}
use Rattle.htn_model.specs.Schema.{AtomSchema, TaskSchema, literal}
use Rattle.htn_ground.specs.Shown.{AreShown}
use Rattle.htn_task.specs.declared.term.AtomSchema as atoms
use Rattle.htn_task.specs.declared.term.TaskSchema as declared
use Rattle.plan_lines.specs.Allowed.{IsInstanceWith}
use Rattle.plan_lines.specs.Fitting.{StepsMayHold}
use Rattle.plan_lines.specs.Found.{AreAlike, AreFound, AreValuesToFit, MayFit}
use Rattle.plan_lines.specs.Left.{Fill}
use Rattle.plan_lines.proofs.Alike.{alike_network, steps_ever}
use Rattle.plan_lines.proofs.Gathering.{found_like, found_none}
use Rattle.plan_lines.proofs.matching.values_to_fit.Goals as goal

abbrev at : Bor atoms.AtomSchema → AtomSchema
at r = r.now

abbrev task_at : Bor declared.TaskSchema → TaskSchema
task_at r = r.now

pub returns-then-branch : goal.returns-then-branch
returns-then-branch c =
    let t = c.args.task.now in
    let h = c.args.ever.now in
    let pre = c.args.precondition.now in
    let n = c.args.network.now in
    let tasks = c.args.children.now in
    let left = c.args.counts.now in
    let A : List ℕ → Type 0 = IsInstanceWith t c.args.conditions.now c.args.given.now in
    let W : List ℕ → Type 0 = λ values. A values × Fill tasks left n.subtasks values × StepsMayHold h (network_of t values pre n).children in
    let wanted = map at c.deref.result.now in
    let inside : (a : AtomSchema) → IsIn a wanted → IsIn (literal true a) pre =
    subst (λ (l : List (Bor atoms.AtomSchema)). (a : AtomSchema) → IsIn a (map at l) → IsIn (literal true a) pre) (sym c.deref.ensures.value) c.in_ok-atoms.ensures in
    subst (λ (l : List (List ℕ)). AreValuesToFit t h tasks left pre n A l) (sym c.new-found.ensures.items)
    (found_none (λ values others. network_of t values pre n ≡ network_of t others pre n) A W []
    (λ values w. c.in_ok-is_ruled_out.ensures c.if-branch.true values (w.0, steps_ever t h pre n values wanted inside w.2)))

pub returns : goal.returns
returns c =
    let t = c.args.task.now in
    let h = c.args.ever.now in
    let pre = c.args.precondition.now in
    let n = c.args.network.now in
    let tasks = c.args.children.now in
    let left = c.args.counts.now in
    let given = c.args.given.now in
    let A : List ℕ → Type 0 = IsInstanceWith t c.args.conditions.now given in
    let W : List ℕ → Type 0 = λ values. A values × Fill tasks left n.subtasks values × StepsMayHold h (network_of t values pre n).children in
    let wanted = map at c.deref.result.now in
    let inside : (a : AtomSchema) → IsIn a wanted → IsIn (literal true a) pre =
    subst (λ (l : List (Bor atoms.AtomSchema)). (a : AtomSchema) → IsIn a (map at l) → IsIn (literal true a) pre) (sym c.deref.ensures.value) c.in_ok-atoms.ensures in
    let schemas = map task_at c.deref-3.result.now in
    let subtasks : schemas ≡ n.subtasks = ap (map task_at) c.deref-3.ensures.value ∙ c.in_ok-all.ensures ∙ c.subtasks.ensures in
    let shown = c.deref-2.result.now in
    let are : AreShown pre n.subtasks (length given) shown = subst (AreShown pre n.subtasks (length given)) (sym c.deref-2.ensures.value) c.in_ok-shown.ensures in
    let V : List ℕ → Type 0 = λ values. MayFit t c.args.conditions.now h wanted given values × Fill tasks c.in_ok-left.left.items schemas values in
    found_like (λ values others. network_of t values pre n ≡ network_of t others pre n) A W (AreAlike shown) A V [] c.push_matching.new.found.items
    (subst (λ (l : List (List ℕ)). AreFound (AreAlike shown) A V l c.push_matching.new.found.items) c.new-found.ensures.items c.in_ok-push_matching.ensures) (λ values a. a)
    (λ values w. (
      (w.0, steps_ever t h pre n values wanted inside w.2),
      subst (λ (l : List ℕ). Fill tasks l schemas values) (sym c.in_ok-left.ensures.items) (subst (λ (s : List TaskSchema). Fill tasks left s values) (sym subtasks) w.1),
    )) (λ values others w alike. alike_network t pre n shown (length given) are values others w.0.0.long alike)
