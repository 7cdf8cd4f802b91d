use Rattle.std.proofs.Common.{map, take}
use Rattle.std.specs.List.{flat_map}
use Rattle.hddl_uses.specs.Contexts.{Fails, PassedOver}
use Rattle.hddl_scope.specs.Findings.{AddsAny}
use Rattle.hddl_meaning.specs.Uses.{sides}
use Rattle.hddl_uses.specs.Parts.{Side}
use Rattle.hddl_uses.proofs.uses.check_constraints.Given as goal

abbrev pub invariant-loop-constraint : goal.invariant-loop-constraint
invariant-loop-constraint l = AddsAny (PassedOver l.context) (Fails l.context) (flat_map (λ e. map Side (sides l.scope e)) (take l.constraint-index l.constraints)) l.initial.found l.found
