use Rattle.std.proofs.Common.{◌∙◌, ap, false}
use Rattle.std.proofs.lemmas.List.{take_all}
use Rattle.std.specs.List.{flat_map}
use Rattle.hddl_scope.specs.Scopes.{group_variables}
use Rattle.hddl_scope.proofs.ScopeLists.{scope_groups}
use Rattle.hddl_scope.proofs.scope.parameters.Goals as goal

pub returns : goal.returns
returns c =
    c.loop-group.invariant ∙ ap (flat_map (group_variables false)) (take_all c.loop-group.group-index c.args.groups.now c.loop-group-test.false)
    ∙ scope_groups false c.args.groups.now
