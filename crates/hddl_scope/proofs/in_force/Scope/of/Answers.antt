use Rattle.std.proofs.Common.{◌++◌, ◌∙◌, ap, false}
use Rattle.std.specs.List.{flat_map}
use Rattle.hddl_scope.specs.Scopes.{group_variables}
use Rattle.hddl_scope.proofs.ScopeLists.{scope_groups}
use Rattle.hddl_scope.proofs.in_force.Scope.of.Goals as goal

pub returns : goal.returns
returns c =
    c.in_ok-push_groups.ensures.ok ∙ ap (λ l. l ++ flat_map (group_variables false) c.args.groups.now) c.in_ok-scope.ensures ∙ scope_groups false c.args.groups.now
