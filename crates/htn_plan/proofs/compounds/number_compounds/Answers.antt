use Rattle.std.proofs.Common.{◌∙◌, [], ◌∷◌, sym, ap, subst}
use Rattle.std.specs.List.{AllByRecursion}
use Rattle.plan_text.specs.PlanFile.{IsDecompositionLine}
use Rattle.htn_plan.specs.Gathered.{by_instance, gather_all}
use Rattle.htn_plan.specs.Items.{item_of, items_of}
use Rattle.htn_plan.proofs.Counted.{gather_last}
use Rattle.htn_plan.proofs.Lists.{all_reversed, map_join}
use Rattle.htn_plan.proofs.compounds.number_compounds.Goals as goal

pub loop-item-preserved : goal.loop-item-preserved
loop-item-preserved c =
    ap (gather_all c.args.task.now (by_instance c.args.task.now) c.args.end (items_of c.pop.new.self.items)) c.in_ok-add.ensures
    ∙ sym (gather_last c.args.task.now (by_instance c.args.task.now) c.args.end (items_of c.pop.new.self.items) (item_of c.in-Some.item) c.loop-item.gathered)
    ∙ sym (ap (λ xs. gather_all c.args.task.now (by_instance c.args.task.now) c.args.end xs c.loop-item.gathered) (ap items_of c.in-Some.ensures.items ∙ map_join item_of c.pop.new.self.items (c.in-Some.item ∷ [])))
    ∙ c.loop-item.invariant

pub returns-clause-each : goal.returns-clause-each
returns-clause-each c =
    subst (AllByRecursion IsDecompositionLine) (sym c.reverse.ensures.items) (all_reversed IsDecompositionLine c.gathered-2.inside.lines.items c.gathered-2.invariant)
