use Rattle.std.proofs.Common.{◌∙◌, map, subst, sym}
use Rattle.hddl_meaning.specs.Mentions.{IsIn}
use Rattle.hddl_meaning.proofs.Listed.{in_map, in_right}
use Rattle.pair_messages.specs.declared.stands.Kind.TheVariants as kind
use Rattle.pair_messages.specs.Notes.{declarations_of}
use Rattle.pair_messages.proofs.FirstPlaces.{called_action, called_task}
use Rattle.pair_messages.proofs.firsts.action_at.Goals as goal

pub returns-then-place : goal.returns-then-place
returns-then-place c =
    let d = c.args.domain.now in
    let x = c.in_ok-action.action.now in (
      subst (λ groups. IsIn (x.name, groups) (declarations_of d kind.Task)) (sym c.as_slice-then-place.ensures)
          (in_right (called_action x) (map called_task d.tasks) (map called_action d.actions) (in_map called_action x d.actions (subst (λ xs. IsIn x xs) c.as_slice.ensures c.in_ok-action.ensures))),
      sym c.place.ensures ∙ c.if-place.true,
    )
