use Rattle.std.proofs.Common.{◌≡◌, map, take}
use Rattle.htn_task.specs.Formulas.{formulas_view}
use Rattle.hddl_meaning.specs.Building.{formula_of}
use Rattle.hddl_build.proofs.formula.formulas_of.Given as goal

abbrev pub invariant-loop-condition : goal.invariant-loop-condition
invariant-loop-condition l = record {
  parts : formulas_view l.formulas.items ≡ map (λ c. formula_of l.vocabulary c l.initial.scope) (take l.condition-index l.conditions);
  kept : l.scope ≡ l.initial.scope;
}
