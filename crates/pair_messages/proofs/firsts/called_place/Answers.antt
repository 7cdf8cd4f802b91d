use Rattle.std.proofs.Common.{◌∙◌, ap, sym}
use Rattle.pair_messages.specs.Notes.{called_mentions, first_place}
use Rattle.pair_messages.proofs.FirstPlaces.{predicates_called}
use Rattle.pair_messages.proofs.firsts.called_place.Goals as goal

pub returns-in-Predicate : goal.returns-in-Predicate
returns-in-Predicate c =
    let index = c.args.index.now in
    let d = index.texts.now.domain_tree.now in
    let text = c.args.text.now in
    c.get.ensures ∙ index.are_called.predicates text ∙ ap (λ l. first_place l text) (predicates_called d) ∙ ap (λ k. first_place (called_mentions d k) text) (sym c.in-Predicate.is)

pub returns-in-Compound : goal.returns-in-Compound
returns-in-Compound c =
    let d = c.args.index.now.texts.now.domain_tree.now in
    c.first_task.ensures ∙ ap (λ k. first_place (called_mentions d k) c.args.text.now) (sym c.in-Compound.is)

pub returns-in-Task : goal.returns-in-Task
returns-in-Task c =
    let d = c.args.index.now.texts.now.domain_tree.now in
    c.first_task-in-Task.ensures ∙ ap (λ k. first_place (called_mentions d k) c.args.text.now) (sym c.in-Task.is)
