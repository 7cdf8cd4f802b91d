use Rattle.std.proofs.Common.{◌≡◌, map, ap, subst, ◌∙◌}
use Rattle.hddl_warnings.specs.Tells.{IsListedBut, IsUnlisted, Tells}
use Rattle.hddl_warnings.specs.Warnings.{IsUnused, IsUsedBut}
use Rattle.hddl_meaning.specs.Mentions.{mention_of}
use Rattle.hddl_warnings.specs.declared.warning.WarningKind.TheVariants as kind
use Rattle.hddl_warnings.proofs.Telling.{Tells-then}
use Rattle.hddl_warnings.proofs.Unlisted.{listed_used, unlisted_unused}
use Rattle.hddl_warnings.proofs.predicates.tell_unknown.Goals as goal

pub returns : goal.returns
returns c = λ named tested all tests.
    let d = c.args.domain.now in
    let es = c.args.all.now in
    let fs = c.args.tests.now in
    let old = c.args.out.now.items in
    let mid = c.tell_unlisted.new.out.items in
    let new = c.tell_listed_but.new.out.items in
    let names = map (λ x. mention_of x.name) d.predicates in
    let first_is : c.deref.result.now ≡ names = c.deref.ensures.value ∙ c.in_ok-declared.ensures ∙ ap (map (λ x. mention_of x.name)) c.as_slice.ensures in
    let second_is : c.deref-2.result.now ≡ names = c.deref-2.ensures.value ∙ c.in_ok-declared.ensures ∙ ap (map (λ x. mention_of x.name)) c.as_slice.ensures in
    Tells-then old mid new (IsUnused kind.UnusedPredicate names named) (IsUsedBut kind.UntestedPredicate names named tested)
    (unlisted_unused old mid kind.UnusedPredicate names es named all (subst (λ ms. Tells old mid (IsUnlisted kind.UnusedPredicate ms es)) first_is c.in_ok-tell_unlisted.ensures))
    (listed_used mid new kind.UntestedPredicate names es fs named tested all tests
    (subst (λ ms. Tells mid new (IsListedBut kind.UntestedPredicate ms es fs)) second_is c.in_ok-tell_listed_but.ensures))
