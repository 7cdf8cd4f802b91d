use Rattle.std.proofs.Common.{◌≡◌, ◌∙◌, ◌∷◌, [], ap, subst}
use Rattle.std.specs.List.{flat_map}
use Rattle.hddl_words.specs.declared.network.SubtaskText.{SubtaskText}
use Rattle.hddl_meaning.specs.Names.{optional_mention}
use Rattle.hddl_meaning.specs.Items.{most_subtasks, subtask_mentions, label_mentions}
use Rattle.hddl_uses.specs.Contexts.{Fails, PassedOver}
use Rattle.hddl_scope.specs.Findings.{Adds}
use Rattle.hddl_uses.specs.Parts.{Different, Limited, Network}
use Rattle.hddl_scope.proofs.Adding.{Adds-cons, Adds-single}
use Rattle.hddl_uses.proofs.networks.check_network.Goals as goal

pub returns : goal.returns
returns c =
    let O = PassedOver c.args.context.now in
    let P = Fails c.args.context.now in
    let n = c.args.network.now in
    let labels : c.deref.result.now ≡ label_mentions n = c.deref.ensures.value ∙ c.in_ok-labels.ensures ∙ ap (flat_map (λ (s : SubtaskText). optional_mention s.label)) c.as_slice.ensures in
    Adds-cons O P (Different (label_mentions n)) (Limited most_subtasks (subtask_mentions n) ∷ Network c.args.place n ∷ [])
    (subst (λ ms. Adds (O (Different ms)) (P (Different ms)) c.args.found.now c.check_different.new.found) labels c.in_ok-check_different.ensures)
    (Adds-cons O P (Limited most_subtasks (subtask_mentions n)) (Network c.args.place n ∷ []) c.in_ok-check_subtasks.ensures
    (Adds-single O P (Network c.args.place n) c.in_ok-check_order.ensures))
