use Rattle.std.proofs.Common.{◌≡◌, ◌<◌, Some, ℕ, slice_get}
use Rattle.htn_model.specs.PlanFile.{IsIn}
use Rattle.plan_lines.specs.EverTrue.{AreMore, listed}
use Rattle.plan_lines.specs.declared.ever_true.Slot.TheVariants.{Argument, Predicate}
use Rattle.plan_lines.proofs.ever_true.Lists.add_all.Given as goal

abbrev pub invariant-loop-place : goal.invariant-loop-place
invariant-loop-place l = record {
  more : AreMore l.initial.self l.self;
  predicate : IsIn l.atom (listed l.self (Predicate l.predicate));
  arguments : (k o : ℕ) → k < l.place → slice_get l.atom.arguments k ≡ Some o → IsIn l.atom (listed l.self (Argument l.predicate k o));
}
