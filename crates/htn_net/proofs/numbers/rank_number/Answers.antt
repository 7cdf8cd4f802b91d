use Rattle.std.proofs.Common.{◌≡◌, inl, inr, sym, ap, ◌∙◌, subst}
use Rattle.std.proofs.lemmas.Result.{IfOk-weaker}
use Rattle.htn_ground.specs.Views.{child_view}
use Rattle.htn_model.specs.Exhaustion.{is_dead}
use Rattle.htn_model.specs.Grounding.{problem_of}
use Rattle.htn_model.specs.Problem.{task}
use Rattle.htn_walk.specs.Choices.{IsNumberOf, chosen_of, network_of}
use Rattle.htn_net.proofs.Numbered.{carried_out, chosen_alive, instance_number_is, same_task}
use Rattle.htn_walk.proofs.Way.{position_within}
use Rattle.htn_net.proofs.numbers.rank_number.Goals as goal

pub node_at-requires : goal.node_at-requires
node_at-requires c =
    let at = c.args.config.now in
    position_within (problem_of c.args.task.now) at c.requires.0 (chosen_of at (c.args.position, c.args.change.now)) c.requires.2.0

pub instance_number-requires-clause-stands : goal.instance_number-requires-clause-stands
instance_number-requires-clause-stands c =
    let t = c.args.task.now in
    let at = c.args.config.now in
    let n = c.requires.0 in
    (n, same_task t at n c.args.position c.in-Decomposed.instance c.in-Task.goal (subst (λ x. IsNumberOf t at n (c.args.position, x)) c.in-Decomposed.is c.requires.2.1) (sym c.node_at.ensures ∙ ap child_view c.in-Task.is))

pub instance_number-requires-clause-alive : goal.instance_number-requires-clause-alive
instance_number-requires-clause-alive c =
    let t = c.args.task.now in
    let n = c.requires.0 in
    ap (λ x. is_dead (problem_of t) (network_of x)) (sym c.in-Decomposed.is)
    ∙ chosen_alive t c.args.config.now c.args.rank n c.requires.1 (c.args.position, c.args.change.now) c.requires.2

pub unreachable-requires : goal.unreachable-requires
unreachable-requires c =
    let t = c.args.task.now in
    let at = c.args.config.now in
    let own = subst (λ x. IsNumberOf t at c.requires.0 (c.args.position, x)) c.in-Decomposed.is c.requires.2.1 in
    let stands : child_view c.node_at.result.now ≡ task own.0 = c.node_at.ensures ∙ own.1 in
    elim c.in-Action.is [
      | inl a ↦ (let e = ap child_view (sym a.1) ∙ stands in absurd cc)
      | inr b ↦ (let e = ap child_view (sym b.1) ∙ stands in absurd cc)
    ]

pub returns-in-Task : goal.returns-in-Task
returns-in-Task c =
    let t = c.args.task.now in
    let at = c.args.config.now in
    let n = c.requires.0 in
    let i = c.in-Decomposed.instance in
    let g = c.in-Task.goal in
    let own = same_task t at n c.args.position i g (subst (λ x. IsNumberOf t at n (c.args.position, x)) c.in-Decomposed.is c.requires.2.1) (sym c.node_at.ensures ∙ ap child_view c.in-Task.is) in
    IfOk-weaker c.instance_number.result _ _ (λ m found. instance_number_is t at c.args.rank n c.requires.1 c.objects-typed.ensures.typed g i m own found) c.instance_number.ensures

pub returns-in-Performed : goal.returns-in-Performed
returns-in-Performed c =
    let t = c.args.task.now in
    let at = c.args.config.now in
    let n = c.requires.0 in
    carried_out t at c.args.rank n (chosen_of at (c.args.position, c.args.change.now)) c.requires.2.0 (subst (λ x. IsNumberOf t at n (c.args.position, x)) c.in-Performed.is c.requires.2.1)
