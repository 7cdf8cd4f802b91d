use Rattle.std.proofs.Common.{◌∙◌, IfSome, ap, subst}
use Rattle.hddl_meaning.specs.Mentions.{folded}
use Rattle.pair_messages.specs.Notes.{IsFirstObject}
use Rattle.pair_messages.proofs.compared.object_at.Goals as goal

pub returns : goal.returns
returns c =
    let t = c.args.index.now.texts.now in
    subst (λ text. IfSome c.first_object.result (IsFirstObject t.domain_tree.now t.problem_tree.now text)) (c.as_slice.ensures ∙ c.in_ok-text.ensures ∙ ap folded c.text.ensures.value)
    c.first_object.ensures
