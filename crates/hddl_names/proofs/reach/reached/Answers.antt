use Rattle.std.proofs.Common.{subst}
use Rattle.hddl_names.specs.Reach.{AreReached}
use Rattle.hddl_names.proofs.Fronts.{one_start}
use Rattle.hddl_names.proofs.reach.reached.Goals as goal

pub returns : goal.returns
returns c =
    one_start c.args.rows.now c.args.start c.in_ok-found.found.keys
    (subst (λ starts. AreReached c.args.rows.now starts c.in_ok-found.found.keys) c.as_slice.ensures c.in_ok-found.ensures)
