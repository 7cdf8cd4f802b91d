use Rattle.std.proofs.Common.{◌≡◌, map, take}
use Rattle.htn_task.specs.Formulas.{formulas_view}
use Rattle.hddl_meaning.specs.Building.{formula_of}
use Rattle.hddl_build.proofs.formula.+formula_of.Given as goal

abbrev pub decreases-formula_of : goal.decreases-formula_of
decreases-formula_of l = goal.size-formula_of l

abbrev pub invariant-loop-part : goal.invariant-loop-part
invariant-loop-part l = record {
  parts : formulas_view l.formulas.items ≡ map (λ c. formula_of l.vocabulary c l.initial.scope) (take l.part-index l.part-items);
  kept : l.scope ≡ l.initial.scope;
}
