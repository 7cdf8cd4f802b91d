use Rattle.std.proofs.Common.{◌≡◌, map, ap, subst, ◌∙◌}
use Rattle.hddl_warnings.specs.Tells.{IsListedBut, Tells}
use Rattle.hddl_meaning.specs.Mentions.{mention_of}
use Rattle.hddl_warnings.specs.declared.warning.WarningKind.TheVariants as kind
use Rattle.hddl_warnings.proofs.Unlisted.{listed_used}
use Rattle.hddl_warnings.proofs.tasks.tell_undone.Goals as goal

pub returns : goal.returns
returns c = λ named wanted asked done.
    let es = c.args.asked.now in
    let fs = c.args.done.now in
    let old = c.args.out.now.items in
    let new = c.tell_listed_but.new.out.items in
    let names = map (λ x. mention_of x.name) c.args.domain.now.tasks in
    let tasks_is : c.deref.result.now ≡ names = c.deref.ensures.value ∙ c.in_ok-tasks.ensures ∙ ap (map (λ x. mention_of x.name)) c.as_slice.ensures in
    listed_used old new kind.NoMethod names es fs named wanted asked done
    (subst (λ ms. Tells old new (IsListedBut kind.NoMethod ms es fs)) tasks_is c.in_ok-tell_listed_but.ensures)
