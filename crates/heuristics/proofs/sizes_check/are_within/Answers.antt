use Rattle.std.proofs.Common.{◌≤◌, All, subst, arith}
use Rattle.std.proofs.lemmas.List.{take_all}
use Rattle.std.proofs.lemmas.List.Elements.{All-more}
use Rattle.task_graph.specs.declared.decomposition.Decomposition.{Decomposition}
use Rattle.heuristics.specs.Sizes.{size_at, size_by}
use Rattle.heuristics.proofs.sizes_check.are_within.Goals as goal

pub loop-decomposition-preserved : goal.loop-decomposition-preserved
loop-decomposition-preserved c =
    let Within : Decomposition → Type 0 = λ d. size_at c.args.sizes.now d.task.index ≤ size_by c.args.sizes.now d in
    All-more Within c.args.decompositions.now c.loop-decomposition.decomposition-index c.decomposition-item.result c.loop-decomposition-test.true c.loop-decomposition.invariant
    (subst Within c.decomposition-item.is (c.is_within.ensures c.if-not-is_within.false))

pub returns : goal.returns
returns c = λ _.
    subst (All (λ (d : Decomposition). size_at c.args.sizes.now d.task.index ≤ size_by c.args.sizes.now d))
    (take_all c.loop-decomposition.decomposition-index c.args.decompositions.now (omega (arith, c.loop-decomposition-test.false))) c.loop-decomposition.invariant
