use Rattle.std.proofs.Common.{[], subst, sym}
use Rattle.std.specs.List.{AllZip, zip}
use Rattle.htn_model.specs.PlanFile.{action_ids, decomposition_ids}
use Rattle.plan_messages.specs.Mentions.{IsMention}
use Rattle.plan_messages.proofs.Mentioned.{same_lines}
use Rattle.plan_messages.proofs.mentions.definitions.Goals as goal

pub returns : goal.returns
returns c =
    let none = subst (AllZip (IsMention c.text-text.result.now) []) (sym c.new-mentions.ensures.items) tt in
    same_lines (λ ls ps. zip (action_ids ls) ps) (λ ls ps. zip (decomposition_ids ls) ps) _ _ _ _ _ _ _ _ _ _ _ c.text-text.ensures c.actions.ensures.value c.as_slice.ensures.value
    c.decompositions.ensures.value c.as_slice-2.ensures.value (c.in_ok-add_decompositions.ensures _ (c.in_ok-add_actions.ensures [] none))
