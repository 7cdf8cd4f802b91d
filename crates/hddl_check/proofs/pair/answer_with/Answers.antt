use Rattle.std.proofs.Common.{IfSome, Option, subst}
use Rattle.hddl_meaning.specs.declared.fault.CheckFault.{CheckFault}
use Rattle.hddl_check.specs.Faults.{IsFirst, IsNamed, PairFails}
use Rattle.hddl_check.proofs.Whole.{are_known, faults_sound, pair_is_well_typed}
use Rattle.hddl_check.proofs.pair.answer_with.Goals as goal

pub task_of-requires-clause-fits : goal.task_of-requires-clause-fits
task_of-requires-clause-fits c =
    let d = c.args.domain.now in
    let p = c.args.problem.now in
    pair_is_well_typed d p (c.in_ok-fault.ensures.finds.complete c.in_default.is) (are_known d p (c.in_ok-fault.ensures.finds.complete c.in_default.is))

pub task_of-requires-clause-known : goal.task_of-requires-clause-known
task_of-requires-clause-known c = are_known c.args.domain.now c.args.problem.now (c.in_ok-fault.ensures.finds.complete c.in_default.is)

pub returns-in-Some-clause-fault : goal.returns-in-Some-clause-fault
returns-in-Some-clause-fault c =
    let d = c.args.domain.now in
    let p = c.args.problem.now in
    faults_sound d p c.in-Some.fault (subst (λ (o : Option CheckFault). IfSome o (PairFails d p)) c.in-Some.is c.in_ok-fault.ensures.finds.sound)

pub returns-in-Some-clause-first : goal.returns-in-Some-clause-first
returns-in-Some-clause-first c =
    subst (λ (o : Option CheckFault). IfSome o (IsFirst c.args.domain.now c.args.problem.now)) c.in-Some.is c.in_ok-fault.ensures.first

pub returns-in-Some-clause-named : goal.returns-in-Some-clause-named
returns-in-Some-clause-named c =
    subst (λ (o : Option CheckFault). IfSome o (IsNamed c.args.domain.now c.args.problem.now)) c.in-Some.is c.in_ok-fault.ensures.named

pub returns-clause-fits : goal.returns-clause-fits
returns-clause-fits c =
    let d = c.args.domain.now in
    let p = c.args.problem.now in
    pair_is_well_typed d p (c.in_ok-fault.ensures.finds.complete c.in_default.is) (are_known d p (c.in_ok-fault.ensures.finds.complete c.in_default.is))

pub returns-clause-task : goal.returns-clause-task
returns-clause-task c = c.in_ok-task.ensures
