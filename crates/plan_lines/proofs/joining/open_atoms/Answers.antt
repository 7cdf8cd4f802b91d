use Rattle.std.proofs.Common.{Bor, Global, List, Vec, ap, arith, length, map, subst, sym}
use Rattle.htn_model.specs.PlanFile.{IsIn}
use Rattle.htn_model.specs.Schema.{AtomSchema}
use Rattle.htn_task.specs.declared.term.AtomSchema as declared
use Rattle.plan_lines.proofs.Gathering.{in_mapped, pushed_in}
use Rattle.plan_lines.proofs.Left.{length_push}
use Rattle.plan_lines.proofs.joining.open_atoms.Goals as goal
use Rattle.plan_lines.proofs.joining.open_atoms.Goals.{then-is_open+in_ok-push, else-is_open}

abbrev at : Bor declared.AtomSchema → AtomSchema
at r = r.now

abbrev AreOf : List (Bor declared.AtomSchema) → Vec (Bor declared.AtomSchema) Global → Type 0
AreOf schemas v = (a : AtomSchema) → IsIn a (map at v.items) → IsIn a (map at schemas)

pub loop-schema-preserved : goal.loop-schema-preserved
loop-schema-preserved c =
    let schemas = c.args.schemas.now in
    let inv = c.loop-schema.invariant in
    let x = c.schema-item.result in
    let fewer = inv.fewer in
    elim c.if-is_open.branch [
      | then-is_open+in_ok-push w ↦
          let pushed = w.in_ok-push.ensures.items in
          let many = ap (λ (l : List (Bor declared.AtomSchema)). length l) pushed in
          let one = length_push c.loop-schema.kept.items x in
          let same = ap (λ (v : Vec (Bor declared.AtomSchema) Global). length v.items) w.kept-is in
          record {
            kept = subst (AreOf schemas) (sym w.kept-is)
                (pushed_in at c.loop-schema.kept.items w.push.new.self.items x (λ a. IsIn a (map at schemas)) pushed inv.kept
                (in_mapped at schemas c.loop-schema.schema-index x c.loop-schema-test.true c.schema-item.is));
            fewer = omega (arith, many, one, same, fewer);
          }
      | else-is_open w ↦
          let same = ap (λ (v : Vec (Bor declared.AtomSchema) Global). length v.items) w.kept-is in
          record { kept = subst (AreOf schemas) (sym w.kept-is) inv.kept; fewer = omega (arith, same, fewer) }
    ]
