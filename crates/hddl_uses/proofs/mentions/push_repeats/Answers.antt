use Rattle.std.proofs.Common.{◌≡◌, ◌∙◌, ◌++◌, ◌∷◌, [], ap, get_or, map}
use Rattle.std.specs.List.{fold}
use Rattle.std.proofs.lemmas.List.{map-append, take_all, take_more}
use Rattle.hddl_meaning.specs.declared.fault.CheckFault.TheVariants.{Duplicate}
use Rattle.hddl_scope.specs.Findings.{keep}
use Rattle.hddl_scope.proofs.Adding.{fold-more}
use Rattle.hddl_uses.proofs.Duplicates.{any_default}
use Rattle.hddl_uses.specs.Contexts.{duplicate_at}
use Rattle.hddl_uses.proofs.mentions.push_repeats.Goals as goal

pub loop-place-preserved : goal.loop-place-preserved
loop-place-preserved c =
    let dup = duplicate_at c.args.context.now.source in
    let places = c.args.places.now in
    c.in_ok-push.ensures
    ∙ (λ i. keep (c.loop-place.invariant i) (Duplicate (c.at.ensures i)))
    ∙ fold-more dup c.args.found.now places c.loop-place.place-index (get_or places c.loop-place.place-index 0) c.loop-place-test.true
    (any_default places c.loop-place.place-index 0 (get_or places c.loop-place.place-index 0) c.loop-place-test.true)

pub returns : goal.returns
returns c =
    c.loop-place.invariant
    ∙ ap (λ l. fold keep c.args.found.now (map (duplicate_at c.args.context.now.source) l)) (take_all c.loop-place.place-index c.args.places.now c.loop-place-test.false)
