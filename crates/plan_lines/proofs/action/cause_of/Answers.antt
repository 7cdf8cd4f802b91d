use Rattle.std.proofs.Common.{◌≡◌, ◌∙◌, List, Some, [], ap₂, false, subst, sym, ℕ}
use Rattle.htn_model.specs.Instances.{action_at}
use Rattle.htn_model.specs.PlanFile.{Word}
use Rattle.htn_model.specs.Schema.{Formula}
use Rattle.plan_lines.specs.First.{HasNone}
use Rattle.plan_lines.specs.Words.{Fails, IsTyped}
use Rattle.plan_lines.proofs.Acting.{atom_type}
use Rattle.plan_lines.proofs.action.cause_of.Goals as goal

pub returns : goal.returns
returns c =
    let t = c.args.names.now in
    let line = c.args.line.now in
    let g = c.in-Ok.goal in
    let a = c.in-Some.action.now in
    let typed : IsTyped t false line.name line.arguments g =
    subst (λ (w : Word). IsTyped t false w line.arguments g) c.name.ensures
    (subst (λ (ws : List Word). IsTyped t false c.name.result.now ws g) c.arguments.ensures (rw c.in-Ok.is at c.in_ok-goal.ensures)) in
    let at : action_at t g.name ≡ Some a = sym (ap₂ action_at c.task.ensures c.name-2.ensures) ∙ c.in-Some.ensures in
    let fails : HasNone (Fails g.arguments) a.precondition =
    subst (λ (l : List ℕ). HasNone (Fails l) a.precondition) c.arguments-2.ensures
    (subst (λ (fs : List Formula). HasNone (Fails c.arguments-2.result.now) fs) c.precondition.ensures c.in-None.ensures) in (
      g,
      a,
      (typed, at),
      fails,
      atom_type t line.name line.arguments g a (typed, at) (λ action of. c.requires (record { actions = []; roots = []; decompositions = [] }) (g, action, typed.0.named, of)) fails,
    )
