use Rattle.std.proofs.Common.{subst}
use Rattle.hddl_scope.specs.Findings.{Adds, Kept}
use Rattle.hddl_check.specs.Faults.{PairFails}
use Rattle.hddl_check.proofs.pair.found_with.Goals as goal

pub returns : goal.returns
returns c =
    let d = c.args.domain.now in
    let p = c.args.problem.now in
    record {
      added = subst (λ (k : Kept). Adds (λ _. ⊥) (PairFails d p) k c.find_faults.new.found) c.all-found.ensures c.in_ok-find_faults.ensures.added;
      known = c.in_ok-find_faults.ensures.known;
    }
