use Rattle.std.specs.List.{flat_map}
use Rattle.std.proofs.Common.{take}
use Rattle.hddl_scope.specs.Scopes.{group_variables}
use Rattle.hddl_scope.proofs.InForce.{kept_on}
use Rattle.hddl_scope.proofs.in_force.Scope.push_groups.Goals as goal

pub returns-in_err-push_group-clause-kept : goal.returns-in_err-push_group-clause-kept
returns-in_err-push_group-clause-kept c =
    kept_on c.args.self.now c.loop-group.self c.push_group.new.self (flat_map (group_variables c.args.is_quantified) (take c.loop-group.group-index c.args.groups.now))
    c.loop-group.invariant c.push_group.ensures.kept
