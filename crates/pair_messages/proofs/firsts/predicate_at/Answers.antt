use Rattle.std.proofs.Common.{◌∙◌, subst, sym}
use Rattle.hddl_meaning.specs.Mentions.{IsIn}
use Rattle.hddl_meaning.proofs.Listed.{in_map}
use Rattle.pair_messages.specs.declared.stands.Kind.TheVariants as kind
use Rattle.pair_messages.specs.Notes.{declarations_of}
use Rattle.pair_messages.proofs.FirstPlaces.{called_predicate}
use Rattle.pair_messages.proofs.firsts.predicate_at.Goals as goal

pub returns-then-place : goal.returns-then-place
returns-then-place c =
    let d = c.args.domain.now in
    let x = c.in_ok-predicate.predicate.now in (
      subst (λ groups. IsIn (x.name, groups) (declarations_of d kind.Predicate)) (sym c.as_slice-then-place.ensures)
          (in_map called_predicate x d.predicates (subst (λ xs. IsIn x xs) c.as_slice.ensures c.in_ok-predicate.ensures)),
      sym c.place.ensures ∙ c.if-place.true,
    )
