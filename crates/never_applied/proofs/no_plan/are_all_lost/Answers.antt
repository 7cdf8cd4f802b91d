use Rattle.std.proofs.Common.{◌≡◌, ◌∙◌, ap, false, sym}
use Rattle.std.specs.List.{list_all}
use Rattle.heuristics.proofs.ReachLists.{all_more, all_taken}
use Rattle.never_applied.specs.Fine.{is_fine}
use Rattle.never_applied.proofs.no_plan.are_all_lost.Goals as goal

pub loop-initial-preserved : goal.loop-initial-preserved
loop-initial-preserved c =
    let test = list_all (is_fine c.args.fine.now) in
    all_more (λ i. test i.network.children ≡ false) c.args.initials.now c.loop-initial.initial-index c.initial-item.result c.loop-initial-test.true c.initial-item.is c.loop-initial.invariant
    (sym (c.are_fine-is_used.ensures ∙ ap test (c.as_slice.ensures ∙ c.children.ensures)) ∙ c.if-is_used.false)

pub returns : goal.returns
returns c = λ _.
    all_taken (λ i. list_all (is_fine c.args.fine.now) i.network.children ≡ false) c.args.initials.now c.loop-initial.initial-index c.loop-initial-test.false c.loop-initial.invariant
