use Rattle.std.proofs.Common.{◌∙◌, List, ℕ, ap, length, subst, sym}
use Rattle.std.proofs.lemmas.List.{length-map}
use Rattle.hddl_meaning.specs.Building.{Vocabulary}
use Rattle.hddl_names.specs.Members.{AreNamedMembersOf}
use Rattle.hddl_build.proofs.objects.types_with_objects.Goals as goal

pub object_types-requires : goal.object_types-requires
object_types-requires c =
    sym (length-map c.into_lists.result.items (λ v. v.items)) ∙ ap length c.into_lists.ensures ∙ c.in_ok-objects.ensures.count
    ∙ ap length (sym (c.types.ensures ∙ ap (λ (w : Vocabulary). w.types) c.requires.vocabulary))

pub returns : goal.returns
returns c = record {
  names = c.in_ok-found.ensures.names ∙ c.types.ensures ∙ ap (λ (w : Vocabulary). w.types) c.requires.vocabulary;
  objects = subst (λ (l : List (List ℕ)). AreNamedMembersOf c.args.types.now c.args.problem.now c.args.named.now l) (sym (c.in_ok-found.ensures.objects ∙ c.into_lists.ensures)) c.in_ok-objects.ensures;
}
