use Rattle.std.proofs.Common.{Option, subst}
use Rattle.std.specs.Prelude.{IfSome}
use Rattle.htn_model.proofs.Grounded.{tasks_are_grounded}
use Rattle.never_applied.specs.Fine.{IsClosed}
use Rattle.never_applied.specs.declared.usable.Usable.{Usable}
use Rattle.never_applied.proofs.Sound.{closed_used}
use Rattle.never_applied.proofs.stages.stage_by.Goals as goal

pub returns-in-Some : goal.returns-in-Some
returns-in-Some c = record {
  fine = c.requires;
  usable = closed_used c.args.task.now (tasks_are_grounded c.args.task.now c.initial_atoms-typed.ensures.typed) c.args.fine c.in-Some.usable
      (subst (λ (o : Option Usable). IfSome o (IsClosed c.args.task.now c.args.fine)) c.in-Some.is c.in_ok-gathered.ensures) c.requires.nodes;
}
