use Rattle.std.proofs.Common.{◌≡◌, ◌<◌, ◌≤◌, ℕ, List, ap₂, ◌+◌, ◌++◌, ◌∷◌, [], refl, sym, ap, subst, ◌∙◌, take, length, get_or, false, true, arith}
use Rattle.std.proofs.lemmas.List.{length-take-le, take_more}
use Rattle.htn_model.specs.Grounding.{problem_of}
use Rattle.htn_model.specs.Literal.{Action}
use Rattle.plan_lines.specs.Run.{IsHistoryOf}
use Rattle.plan_lines.specs.Turns.{literals_truth}
use Rattle.plan_lines.proofs.Running.{begun, fails_at, no_action, not_ready, goes_on}
use Rattle.plan_lines.proofs.course.run.Goals as goal

pub loop-line-init : goal.loop-line-init
loop-line-init c = begun (problem_of c.args.task.now) c.initial_atoms.result.now _ c.initial_atoms.ensures.value c.in_ok-turns.ensures

pub returns-in_default : goal.returns-in_default
returns-in_default c =
    let problem = problem_of c.args.task.now in
    let tasks = c.args.tasks.now in
    let n = c.loop-line.line in
    let g = c.index-tasks-line.result in
    fails_at problem (take n tasks) g c.loop-line.turns c.loop-line.invariant tasks n refl c.loop-line-test.true c.index-tasks-line.is
    (no_action problem (take n tasks) g c.loop-line.turns c.loop-line.invariant (sym c.in_ok-action.ensures ∙ c.in_default.is))

pub returns-then-not-holds : goal.returns-then-not-holds
returns-then-not-holds c =
    let problem = problem_of c.args.task.now in
    let tasks = c.args.tasks.now in
    let n = c.loop-line.line in
    let g = c.index-tasks-line.result in
    let turns = c.loop-line.turns in
    let test = c.loop-line-test.true in
    let low : n ≤ length tasks = omega arith in
    let wrong : literals_truth turns c.in-Some.action.precondition (length (take n tasks)) ≡ false =
    ap₂ (λ ls k. literals_truth turns ls k) (sym (c.as_slice.ensures ∙ ap (λ (a : Action). a.precondition) c.action.view_is)) (length-take-le n tasks low)
    ∙ sym c.holds.ensures ∙ c.if-not-holds.true in
    fails_at problem (take n tasks) g turns c.loop-line.invariant tasks n refl test c.index-tasks-line.is
    (not_ready problem (take n tasks) g turns c.loop-line.invariant c.in-Some.action (sym c.in_ok-action.ensures ∙ c.in-Some.is) wrong)

-- one more of a list
taken : {X : Type 0} (xs : List X) (i : ℕ) (x : X) → i < length xs → x ≡ get_or xs i x → take (i + 1) xs ≡ take i xs ++ x ∷ []
taken xs i x h is = take_more xs i x h ∙ ap (λ y. take i xs ++ y ∷ []) (sym is)

pub loop-line-preserved : goal.loop-line-preserved
loop-line-preserved c =
    let problem = problem_of c.args.task.now in
    let tasks = c.args.tasks.now in
    let n = c.loop-line.line in
    let g = c.index-tasks-line.result in
    let turns = c.loop-line.turns in
    let test = c.loop-line-test.true in
    let low : n ≤ length tasks = omega arith in
    let here : literals_truth turns c.in-Some.action.precondition (length (take n tasks)) ≡ true =
    ap₂ (λ ls k. literals_truth turns ls k) (sym (c.as_slice.ensures ∙ ap (λ (a : Action). a.precondition) c.action.view_is)) (length-take-le n tasks low)
    ∙ sym c.holds.ensures ∙ c.if-not-holds.false in
    subst (λ ts. IsHistoryOf problem ts c.apply.new.self) (sym (taken tasks n g test c.index-tasks-line.is))
    (goes_on problem (take n tasks) g turns c.loop-line.invariant c.apply.new.self c.in-Some.action (sym c.in_ok-action.ensures ∙ c.in-Some.is) here
    c.in_ok-apply.ensures.history c.in_ok-apply.ensures.applied)
