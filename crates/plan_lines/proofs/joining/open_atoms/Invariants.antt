use Rattle.std.proofs.Common.{◌≤◌, length, map}
use Rattle.htn_model.specs.PlanFile.{IsIn}
use Rattle.htn_model.specs.Schema.{AtomSchema}
use Rattle.plan_lines.proofs.joining.open_atoms.Given as goal

abbrev pub invariant-loop-schema : goal.invariant-loop-schema
invariant-loop-schema l = record {
  kept : (a : AtomSchema) → IsIn a (map (λ s. s.now) l.kept.items) → IsIn a (map (λ s. s.now) l.schemas);
  fewer : length l.kept.items ≤ l.schema-index;
}
