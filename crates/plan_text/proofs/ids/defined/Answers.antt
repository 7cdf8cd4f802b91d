use Rattle.std.proofs.Common.{◌++◌, sym, subst}
use Rattle.htn_model.specs.PlanFile.{IsWithoutRepeats, action_ids, decomposition_ids}
use Rattle.plan_text.proofs.Adding.{refused_left}
use Rattle.plan_text.proofs.ids.defined.Goals as goal

pub returns-then-not-branch : goal.returns-then-not-branch
returns-then-not-branch c = λ d. refused_left c.new-ids.result.keys c.add_actions.new.ids.keys (action_ids c.actions.result.now) (decomposition_ids c.args.file.now.decompositions)
    c.in_ok-add_actions.field-0 c.new-ids.ensures.empty c.if-not-branch.true c.in_ok-add_actions.ensures
    (subst (λ ls. IsWithoutRepeats (action_ids ls ++ decomposition_ids c.args.file.now.decompositions)) (sym c.actions.ensures.value) d)
