use Rattle.hddl_scope.proofs.Adding.{Adds-both}
use Rattle.hddl_check.proofs.Gathering.{one_holds}
use Rattle.hddl_check.proofs.pair.check_pair.Goals as goal

pub returns-clause-added : goal.returns-clause-added
returns-clause-added c =
    Adds-both c.in_ok-check_cycles.ensures c.in_ok-check_with.ensures

pub returns-clause-known : goal.returns-clause-known
returns-clause-known c = one_holds _ c.in_ok-objects.objects c.in_ok-objects.ensures
