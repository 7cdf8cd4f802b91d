use Rattle.std.proofs.Common.{◌∙◌, IfSome, subst, sym}
use Rattle.pair_messages.specs.Notes.{IsFirst, IsInDomain}
use Rattle.pair_messages.specs.declared.firsts.Sort.{Sort}
use Rattle.pair_messages.proofs.firsts.first_at.Goals as goal

pub returns-in-Type : goal.returns-in-Type
returns-in-Type c =
    let index = c.args.index.now in
    let t = index.texts.now in
    let text = c.args.text.now in
    subst (λ (s : Sort). IfSome c.in_domain.result (IsFirst t.domain_tree.now t.problem_tree.now s text)) (sym c.in-Type.is)
    (subst (λ o. IfSome c.in_domain.result (IsInDomain o)) (c.get.ensures ∙ index.are_typed.types text) c.in_domain.ensures)

pub returns-in-Object : goal.returns-in-Object
returns-in-Object c =
    let t = c.args.index.now.texts.now in
    subst (λ (s : Sort). IfSome c.first_object.result (IsFirst t.domain_tree.now t.problem_tree.now s c.args.text.now)) (sym c.in-Object.is) c.first_object.ensures

pub returns-in-Called : goal.returns-in-Called
returns-in-Called c =
    let t = c.args.index.now.texts.now in
    subst (λ (s : Sort). IfSome c.in_domain-in-Called.result (IsFirst t.domain_tree.now t.problem_tree.now s c.args.text.now)) (sym c.in-Called.is)
    (subst (λ o. IfSome c.in_domain-in-Called.result (IsInDomain o)) c.called_place.ensures c.in_domain-in-Called.ensures)
