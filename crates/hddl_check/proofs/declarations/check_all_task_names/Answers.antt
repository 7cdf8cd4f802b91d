use Rattle.std.proofs.Common.{◌∙◌, ◌++◌, subst, List, map}
use Rattle.hddl_words.specs.declared.domain.TaskText.{TaskText}
use Rattle.hddl_words.specs.declared.domain.ActionText.{ActionText}
use Rattle.hddl_meaning.specs.Mentions.{Mention, mention_of}
use Rattle.hddl_uses.specs.Contexts.{Fails, PassedOver}
use Rattle.hddl_scope.specs.Findings.{Adds}
use Rattle.hddl_uses.specs.Parts.{Different}
use Rattle.hddl_check.proofs.declarations.check_all_task_names.Goals as goal

pub returns : goal.returns
returns c =
    let O = PassedOver c.args.context.now in
    let P = Fails c.args.context.now in
    let task_mentions : List TaskText → List Mention = λ xs. map (λ x. mention_of x.name) xs in
    let action_mentions : List ActionText → List Mention = λ xs. map (λ x. mention_of x.name) xs in
    subst (λ ms. Adds (O (Different ms)) (P (Different ms)) c.args.found.now c.check_different.new.found)
    (c.deref.ensures.value ∙ c.in_ok-names.ensures ∙ (λ i. task_mentions (c.as_slice.ensures i) ++ action_mentions (c.as_slice-2.ensures i)))
    c.in_ok-check_different.ensures
