use Rattle.std.proofs.Common.{◌∙◌, [], ap, refl, sym, subst, List, map, ◌++◌}
use Rattle.std.specs.List.{flat_map}
use Rattle.hddl_words.specs.declared.term.NameGroup.{NameGroup}
use Rattle.hddl_meaning.specs.Mentions.{Mention, mention_of, mentions_of, typed_names}
use Rattle.hddl_meaning.specs.Names.{optional_mention}
use Rattle.hddl_meaning.specs.declared.fault.Source.{Source}
use Rattle.hddl_meaning.specs.declared.fault.Source.TheVariants as source
use Rattle.hddl_meaning.specs.declared.fault.CheckFault.TheVariants.{TooMany}
use Rattle.hddl_meaning.specs.Items as items
use Rattle.hddl_scope.specs.Findings.{Adds, Faulted, Finds}
use Rattle.hddl_scope.specs.Repeats.{IsPastAfter}
use Rattle.hddl_scope.proofs.Adding.{found_none, found_once}
use Rattle.hddl_scope.proofs.Distinctness.{past_after_once}
use Rattle.hddl_check.proofs.shape.check_types.Goals as goal

pub returns : goal.returns
returns c =
    let mentions : List NameGroup → List Mention = λ gs. flat_map (λ g. map mention_of g.names ++ optional_mention g.of_type) gs in
    let ms : List Mention = mentions c.args.context.now.domain.now.types in
    let found : Finds (IsPastAfter [] ms) c.in_ok-past.past =
    subst (λ ms. Finds (IsPastAfter [] ms) c.in_ok-past.past) (c.deref.ensures.value ∙ c.in_ok-types.ensures ∙ ap mentions c.as_slice.ensures) c.in_ok-past.ensures in
    found_once TooMany c.args.context.now.source c.in-Some.place c.at.result found c.in-Some.is (past_after_once [] ms) c.at.ensures c.in_ok-push.ensures

pub returns-in_default : goal.returns-in_default
returns-in_default c =
    let mentions : List NameGroup → List Mention = λ gs. flat_map (λ g. map mention_of g.names ++ optional_mention g.of_type) gs in
    let ms : List Mention = mentions c.args.context.now.domain.now.types in
    let found : Finds (IsPastAfter [] ms) c.in_ok-past.past =
    subst (λ ms. Finds (IsPastAfter [] ms) c.in_ok-past.past) (c.deref.ensures.value ∙ c.in_ok-types.ensures ∙ ap mentions c.as_slice.ensures) c.in_ok-past.ensures in
    found_none TooMany c.args.context.now.source found c.in_default.is refl
