use Rattle.std.proofs.Common.{◌≡◌, ◌∙◌, ap, false, sym}
use Rattle.std.specs.List.{list_all}
use Rattle.heuristics.proofs.ReachLists.{all_more, all_taken}
use Rattle.never_applied.specs.Fine.{is_fine}
use Rattle.never_applied.proofs.fine.Fine.are_lost.Goals as goal

pub loop-pair-preserved : goal.loop-pair-preserved
loop-pair-preserved c =
    let test = list_all (is_fine c.args.self.now) in
    all_more (λ p. test p.1.network.children ≡ false) c.args.instances.now c.loop-pair.pair-index c.pair-item.result c.loop-pair-test.true c.pair-item.is c.loop-pair.invariant
    (sym (c.are_fine-is_used.ensures ∙ ap test (c.as_slice.ensures ∙ c.children.ensures)) ∙ c.if-is_used.false)

pub returns : goal.returns
returns c = λ _.
    all_taken (λ p. list_all (is_fine c.args.self.now) p.1.network.children ≡ false) c.args.instances.now c.loop-pair.pair-index c.loop-pair-test.false c.loop-pair.invariant
