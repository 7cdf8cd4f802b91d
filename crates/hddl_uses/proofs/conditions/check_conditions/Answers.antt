use Rattle.std.proofs.Common.{◌∙◌, ap, refl, subst}
use Rattle.std.proofs.lemmas.List.{take_all}
use Rattle.std.specs.List.{flat_map}
use Rattle.hddl_uses.specs.Contexts.{Fails, PassedInside}
use Rattle.hddl_scope.specs.Findings.{AddsAny}
use Rattle.hddl_uses.specs.Parts.{conditions_parts}
use Rattle.hddl_uses.specs.Conditions.{condition_parts}
use Rattle.hddl_scope.proofs.Adding.{Adds-next, Adds-nil, Adds-list, Adds-within}
use Rattle.hddl_uses.proofs.Folding.{to_conditions, from_conditions}
use Rattle.hddl_uses.proofs.conditions.check_conditions.Goals as goal

pub loop-condition-init : goal.loop-condition-init
loop-condition-init c = record { found = Adds-nil (PassedInside c.args.context.now c.args.scope.now) (Fails c.args.context.now) refl; kept = refl }

pub loop-condition-preserved : goal.loop-condition-preserved
loop-condition-preserved c =
    let context = c.args.context.now in
    let w = c.args.scope.now in
    let old = c.loop-condition.invariant in
    record {
      found = Adds-next (PassedInside context w) (Fails context) (condition_parts w) c.args.conditions.now c.loop-condition.condition-index c.condition-item.result c.loop-condition-test.true
          c.condition-item.is old.found
          (subst (λ v. AddsAny (PassedInside context v) (Fails context) (condition_parts v c.condition-item.result) c.loop-condition.found c.check_condition.new.found) old.kept
          c.in_ok-check_condition.ensures.found);
      kept = c.in_ok-check_condition.ensures.kept ∙ old.kept;
    }

pub returns-clause-found : goal.returns-clause-found
returns-clause-found c =
    let context = c.args.context.now in
    let w = c.args.scope.now in
    let cs = c.args.conditions.now in
    Adds-within (PassedInside context w) (Fails context) (flat_map (condition_parts w) cs) (conditions_parts w cs) (to_conditions w cs) (from_conditions w cs)
    (Adds-list (PassedInside context w) (Fails context) (ap (flat_map (condition_parts w)) (take_all c.loop-condition.condition-index cs c.loop-condition-test.false)) c.loop-condition.invariant.found)
