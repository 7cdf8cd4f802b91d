use Rattle.std.proofs.Common.{◌≡◌, ◌++◌, OnOk, subst, true}
use Rattle.hddl_scope.proofs.ScopeLists.{scope_groups}
use Rattle.hddl_scope.proofs.in_force.Scope.push_quantified.Goals as goal

pub returns-else-is_err-clause-ok : goal.returns-else-is_err-clause-ok
returns-else-is_err-clause-ok c =
    subst (λ l. OnOk c.push_groups-pushed.result (c.push_groups-pushed.new.self ≡ c.args.self.now ++ l)) (scope_groups true c.args.groups.now)
    c.push_groups-pushed.ensures.ok
