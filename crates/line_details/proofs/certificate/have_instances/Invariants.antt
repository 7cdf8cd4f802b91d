use Rattle.std.proofs.Common.{◌≡◌, ◌+◌, ◌<◌, ℕ, Some, slice_get}
use Rattle.htn_model.specs.PlanFile.{DecompositionLine}
use Rattle.plan_room.specs.Lines.{task_of}
use Rattle.line_details.specs.Found.{IsNumbered}
use Rattle.line_details.specs.declared.entry.Entry.{Entry}
use Rattle.line_details.proofs.certificate.have_instances.Given as goal

abbrev pub invariant-loop-place : goal.invariant-loop-place
invariant-loop-place g l = (j : ℕ) (e : Entry) → j < l.place → slice_get l.entries j ≡ Some e → (line : DecompositionLine) → slice_get l.decompositions j ≡ Some line
    → (n : ℕ) × IsNumbered l.task (task_of ((g.L.PlanLines.lines l.lines).plan_of ((g.L.PlanLines.lines l.lines).actions + j))) line.method n e.instance
