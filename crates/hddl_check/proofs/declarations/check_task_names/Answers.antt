use Rattle.std.proofs.Common.{◌∙◌, ap, List, map}
use Rattle.hddl_words.specs.declared.domain.ActionText.{ActionText}
use Rattle.hddl_meaning.specs.Mentions.{Mention, mention_of}
use Rattle.hddl_check.proofs.declarations.check_task_names.Goals as goal

pub check_task_names_with-requires : goal.check_task_names_with-requires
check_task_names_with-requires c =
    let action_mentions : List ActionText → List Mention = λ xs. map (λ x. mention_of x.name) xs in
    c.deref.ensures.value ∙ c.in_ok-actions.ensures ∙ ap action_mentions c.as_slice.ensures
