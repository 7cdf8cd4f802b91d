use Rattle.std.proofs.Common.{◌++◌, subst}
use Rattle.hddl_warnings.specs.Known.{Knows}
use Rattle.hddl_warnings.specs.Used.{predicates_of, set_atoms, tested_atoms}
use Rattle.hddl_warnings.proofs.predicates.tell_predicates.Goals as goal

pub returns : goal.returns
returns c =
    let d = c.args.domain.now in
    let p = c.args.problem.now in
    c.in_ok-tell_unknown.ensures (predicates_of (tested_atoms d p ++ set_atoms d p)) (predicates_of (tested_atoms d p)) c.in_ok-all.ensures
    (subst (λ xs. Knows c.in_ok-tests.tests (predicates_of xs)) c.requires c.in_ok-tests.ensures)
