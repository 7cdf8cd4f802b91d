use Rattle.std.proofs.Common.{◌∙◌, [], ap, refl, sym, subst, List}
use Rattle.std.specs.List.{flat_map}
use Rattle.hddl_words.specs.declared.term.NameGroup.{NameGroup}
use Rattle.hddl_meaning.specs.Mentions.{Mention, mention_of, mentions_of, typed_names}
use Rattle.hddl_meaning.specs.Names.{optional_mention}
use Rattle.hddl_meaning.specs.declared.fault.Source.{Source}
use Rattle.hddl_meaning.specs.declared.fault.Source.TheVariants as source
use Rattle.hddl_meaning.specs.declared.fault.CheckFault.TheVariants.{TooMany}
use Rattle.hddl_meaning.specs.Items as items
use Rattle.hddl_scope.specs.Findings.{Adds, Faulted, Finds}
use Rattle.hddl_scope.specs.Repeats.{IsPastAfter}
use Rattle.hddl_scope.proofs.Adding.{found_none, found_once}
use Rattle.hddl_scope.proofs.Distinctness.{past_after_once}
use Rattle.hddl_check.proofs.shape.check_constants.Goals as goal

pub returns : goal.returns
returns c =
    let d = c.args.context.now.domain.now in
    let p = c.args.context.now.problem.now in
    let mentions : List NameGroup → List Mention = λ gs. mentions_of (typed_names gs) in
    let ms : List Mention = mentions d.constants in
    let found : Finds (IsPastAfter [] ms) c.in_ok-past.past =
    subst (λ ms. Finds (IsPastAfter [] ms) c.in_ok-past.past) (c.deref.ensures.value ∙ c.in_ok-constants.ensures ∙ ap mentions c.as_slice.ensures) c.in_ok-past.ensures in
    subst (λ (s : Source). Adds (λ _. ⊥) (Faulted TooMany s (λ place. items.IsPastObjects d p (record { source = s; place = place }))) c.args.found.now c.push.new.self) (sym c.requires)
    (found_once TooMany source.Domain c.in-Some.place c.at.result found c.in-Some.is (past_after_once [] ms) (c.at.ensures ∙ ap (λ (s : Source). record { source = s; place = c.in-Some.place }) c.requires)
    c.in_ok-push.ensures)

pub returns-in_default : goal.returns-in_default
returns-in_default c =
    let d = c.args.context.now.domain.now in
    let p = c.args.context.now.problem.now in
    let mentions : List NameGroup → List Mention = λ gs. mentions_of (typed_names gs) in
    let ms : List Mention = mentions d.constants in
    let found : Finds (IsPastAfter [] ms) c.in_ok-past.past =
    subst (λ ms. Finds (IsPastAfter [] ms) c.in_ok-past.past) (c.deref.ensures.value ∙ c.in_ok-constants.ensures ∙ ap mentions c.as_slice.ensures) c.in_ok-past.ensures in
    subst (λ (s : Source). Adds (λ _. ⊥) (Faulted TooMany s (λ place. items.IsPastObjects d p (record { source = s; place = place }))) c.args.found.now c.args.found.now) (sym c.requires)
    (found_none TooMany source.Domain found c.in_default.is refl)
