use Rattle.std.proofs.Common.{[], ◌∷◌, ap, arith}
use Rattle.htn_plan.specs.Items.{item_of}
use Rattle.htn_plan.specs.Preorder.{compound_count}
use Rattle.htn_plan.proofs.Counted.{count_one}
use Rattle.htn_plan.proofs.compounds.count_compounds.Goals as goal
use Rattle.htn_plan.proofs.compounds.count_compounds.Goals.{in-Action, in-Step, in-Compound}

pub loop-item-preserved : goal.loop-item-preserved
loop-item-preserved c =
    let one = count_one c.args.items.now c.loop-item.item-index c.item-item.result c.loop-item.count c.match-item.count c.loop-item-test.true c.item-item.is c.loop-item.invariant.0 in
    let few = c.loop-item.invariant.1 in
    elim c.match-item.branch [
      | in-Action w ↦ let e = ap (λ y. compound_count (item_of y ∷ [])) w.in-Action.is in let h = w.count-is in (one (omega (arith, e, h)), omega (arith, h, few))
      | in-Step w ↦ let e = ap (λ y. compound_count (item_of y ∷ [])) w.in-Step.is in let h = w.count-is in (one (omega (arith, e, h)), omega (arith, h, few))
      | in-Compound w ↦ let e = ap (λ y. compound_count (item_of y ∷ [])) w.in-Compound.is in let h = w.count-is in (one (omega (arith, e, h)), omega (arith, h, few))
    ]
