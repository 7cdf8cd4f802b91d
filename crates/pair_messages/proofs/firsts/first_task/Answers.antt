use Rattle.std.proofs.Common.{◌∙◌, ap, map, sym}
use Rattle.hddl_meaning.specs.Mentions.{mention_of}
use Rattle.pair_messages.specs.Notes.{first_place}
use Rattle.pair_messages.proofs.FirstPlaces.{join_none, join_some, tasks_called}
use Rattle.pair_messages.proofs.firsts.first_task.Goals as goal

pub returns-in-Some : goal.returns-in-Some
returns-in-Some c =
    let index = c.args.index.now in
    let d = index.texts.now.domain_tree.now in
    let text = c.args.text.now in
    join_some (map (λ x. mention_of x.name) d.tasks) (map (λ x. mention_of x.name) d.actions) text c.in-Some.place (sym (index.are_called.tasks text) ∙ sym c.get.ensures ∙ c.in-Some.is)
    ∙ ap (λ l. first_place l text) (tasks_called d)

pub returns-in-None : goal.returns-in-None
returns-in-None c =
    let index = c.args.index.now in
    let d = index.texts.now.domain_tree.now in
    let text = c.args.text.now in
    c.get-in-None.ensures ∙ index.are_called.actions text
    ∙ join_none (map (λ x. mention_of x.name) d.tasks) (map (λ x. mention_of x.name) d.actions) text (sym (index.are_called.tasks text) ∙ sym c.get.ensures ∙ c.in-None.is)
    ∙ ap (λ l. first_place l text) (tasks_called d)
