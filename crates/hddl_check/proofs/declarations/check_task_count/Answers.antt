use Rattle.std.proofs.Common.{◌∙◌, ap, subst, List, map, append-nil}
use Rattle.hddl_words.specs.declared.domain.TaskText.{TaskText}
use Rattle.hddl_meaning.specs.Items.{most_declarations}
use Rattle.hddl_meaning.specs.Mentions.{Mention, mention_of}
use Rattle.hddl_uses.specs.Contexts.{Fails, PassedOver}
use Rattle.hddl_scope.specs.Findings.{Adds}
use Rattle.hddl_uses.specs.Parts.{Limited}
use Rattle.hddl_check.proofs.declarations.check_task_count.Goals as goal

pub returns : goal.returns
returns c =
    let O = PassedOver c.args.context.now in
    let P = Fails c.args.context.now in
    let task_mentions : List TaskText → List Mention = λ xs. map (λ x. mention_of x.name) xs in
    subst (λ ms. Adds (O (Limited most_declarations ms)) (P (Limited most_declarations ms)) c.args.found.now c.check_limit.new.found)
    (c.deref.ensures.value ∙ c.in_ok-tasks.ensures ∙ append-nil (task_mentions c.as_slice.result.now) ∙ ap task_mentions c.as_slice.ensures)
    c.in_ok-check_limit.ensures
