use Rattle.std.proofs.Common.{◌≡◌, ◌∙◌, ℕ, List, ap, subst, sym, take}
use Rattle.std.proofs.lemmas.List.{take_all}
use Rattle.hddl_words.specs.declared.condition.Condition.{Condition}
use Rattle.plan_findings.specs.Conditions.{AddsAmong, AreAmong, places_in, places_of}
use Rattle.plan_findings.proofs.Placed.{among_more, places_of_forall, wider_added}
use Rattle.plan_findings.proofs.conditions.+push_places.Goals as goal

pub loop-part-preserved : goal.loop-part-preserved
loop-part-preserved t c =
    among_more c.as_slice-part-items.result.now c.loop-part.part-index c.part-item.result c.loop-part.block.items c.push_places.new.places.items
    c.loop-part-test.true c.part-item.is c.loop-part.invariant c.in_ok-push_places-in-Forall.ensures

pub returns-in_ok-push_repeated-in-Forall : goal.returns-in_ok-push_repeated-in-Forall
returns-in_ok-push_repeated-in-Forall t c =
    let items = c.as_slice-part-items.result.now in
    let block = c.loop-part.block.items in
    let old = c.args.places.now.items in
    let new = c.push_repeated.new.places.items in
    let whole : take c.loop-part.part-index items ≡ items = take_all c.loop-part.part-index items c.loop-part-test.false in
    let inside : AreAmong block (places_of items) = subst (λ (l : List Condition). AreAmong block (places_of l)) whole c.loop-part.invariant in
    let adds : AddsAmong old new block = subst (λ (l : List ℕ). AddsAmong old new l) c.as_slice-in-Forall.ensures.value c.in_ok-push_repeated-in-Forall.ensures in
    let same : places_of items ≡ places_in c.args.condition.now =
    ap places_of c.as_slice-part-items.ensures ∙ sym (places_of_forall c.in-Forall.groups c.in-Forall.body) ∙ sym (ap places_in c.in-Forall.is) in
    subst (λ (l : List ℕ). AddsAmong old new l) same (wider_added old new block (places_of items) adds inside)
