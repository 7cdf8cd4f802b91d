use Rattle.hddl_warnings.specs.Warnings.{IsDeclaredAgain, IsUnusedAction, IsUnusedPredicate, IsUnusedTask, IsUnusedType, IsUntestedPredicate}
use Rattle.hddl_warnings.proofs.Joining.{six_kinds}
use Rattle.hddl_warnings.proofs.report.tell_pair.Goals as goal

pub returns : goal.returns
returns c =
    let d = c.args.domain.now in
    let p = c.args.problem.now in
    six_kinds c.args.out.now.items c.tell_types.new.out.items c.tell_predicates.new.out.items c.tell_unused_tasks.new.out.items c.tell_objects.new.out.items
    (IsUnusedType d p) (IsUnusedPredicate d p) (IsUntestedPredicate d p) (IsUnusedTask d p) (IsUnusedAction d p) (IsDeclaredAgain d p)
    c.in_ok-tell_types.ensures c.in_ok-tell_predicates.ensures c.in_ok-tell_unused_tasks.ensures c.in_ok-tell_objects.ensures
