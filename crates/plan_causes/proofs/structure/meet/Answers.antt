use Rattle.std.proofs.Common.{inl, inr, subst, sym}
use Rattle.htn_model.specs.PlanFile.{IsIn}
use Rattle.plan_causes.proofs.Sets.{in_after, once_after, was_in, was_new}
use Rattle.plan_causes.proofs.structure.meet.Goals as goal

pub returns-in_ok-insert-2-clause-met : goal.returns-in_ok-insert-2-clause-met
returns-in_ok-insert-2-clause-met c = in_after c.args.id c.args.met.now.keys c.insert.new.self.keys c.in_ok-insert.ensures.keys

pub returns-in_ok-insert-2-clause-met_once : goal.returns-in_ok-insert-2-clause-met_once
returns-in_ok-insert-2-clause-met_once c = once_after c.args.id c.args.met.now.keys c.insert.new.self.keys c.in_ok-insert.ensures.keys c.requires.met

pub returns-in_ok-insert-2-clause-again : goal.returns-in_ok-insert-2-clause-again
returns-in_ok-insert-2-clause-again c x =
    let after = in_after c.args.id c.args.again.now.keys c.insert-then-not-branch.new.self.keys c.in_ok-insert-2.ensures.keys x in
    let there = was_in c.args.id c.args.met.now.keys c.in_ok-insert.field-0 c.in_ok-insert.ensures.added c.if-not-branch.true in (
      (λ i. elim (after.0 i) [ inl old ↦ inl old | inr e ↦ inr (e, subst (λ z. IsIn z c.args.met.now.keys) (sym e) there) ]),
      (λ w. after.1 (elim w [ inl old ↦ inl old | inr e ↦ inr e.0 ])),
    )

pub returns-in_ok-insert-2-clause-once : goal.returns-in_ok-insert-2-clause-once
returns-in_ok-insert-2-clause-once c = once_after c.args.id c.args.again.now.keys c.insert-then-not-branch.new.self.keys c.in_ok-insert-2.ensures.keys c.requires.again

pub returns-else-not-branch-clause-met : goal.returns-else-not-branch-clause-met
returns-else-not-branch-clause-met c = in_after c.args.id c.args.met.now.keys c.insert.new.self.keys c.in_ok-insert.ensures.keys

pub returns-else-not-branch-clause-met_once : goal.returns-else-not-branch-clause-met_once
returns-else-not-branch-clause-met_once c = once_after c.args.id c.args.met.now.keys c.insert.new.self.keys c.in_ok-insert.ensures.keys c.requires.met

pub returns-else-not-branch-clause-again : goal.returns-else-not-branch-clause-again
returns-else-not-branch-clause-again c x = (
  (λ i. inl i),
  (λ w. elim w [
    | inl old ↦ old
    | inr e ↦ absurd (was_new c.args.id c.args.met.now.keys c.in_ok-insert.field-0 c.in_ok-insert.ensures.added c.if-not-branch.false (subst (λ z. IsIn z c.args.met.now.keys) e.0 e.1))
  ]),
)
