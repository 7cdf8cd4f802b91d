use Rattle.std.proofs.Common.{◌∙◌, Bor, Bool, Global, Vec, ap, map, subst, sym, true}
use Rattle.htn_model.specs.PlanFile.{IsIn}
use Rattle.htn_model.specs.Schema.{AtomSchema, literal}
use Rattle.htn_task.specs.declared.formula.Formula.{Literal}
use Rattle.htn_task.specs.declared.term.AtomSchema as declared
use Rattle.plan_lines.proofs.Gathering.{pushed_in}
use Rattle.plan_lines.proofs.Positive.{positive_at}
use Rattle.plan_lines.proofs.ever.positive_atoms.Goals as goal
use Rattle.plan_lines.proofs.ever.positive_atoms.Goals.{in-Literal+then-is_positive+in_ok-push, in-Literal+else-is_positive, in_default}

abbrev at : Bor declared.AtomSchema → AtomSchema
at r = r.now

pub loop-formula-preserved : goal.loop-formula-preserved
loop-formula-preserved c =
    let pre = c.args.precondition.now in
    let AllIn : Vec (Bor declared.AtomSchema) Global → Type 0 = λ v. (a : AtomSchema) → IsIn a (map at v.items) → IsIn (literal true a) pre in
    elim c.match-formula.branch [
      | in-Literal+then-is_positive+in_ok-push w ↦
          subst AllIn (sym w.atoms-is)
          (pushed_in at c.loop-formula.atoms.items w.push.new.self.items _ (λ a. IsIn (literal true a) pre) w.in_ok-push.ensures.items c.loop-formula.invariant
          (positive_at pre c.as_slice-formula-items.result.now c.loop-formula.formula-index c.formula-item.result w.in-Literal.atom c.loop-formula-test.true c.formula-item.is
          c.as_slice-formula-items.ensures (w.in-Literal.is ∙ ap (λ (b : Bool). Literal b w.in-Literal.atom) w.if-is_positive.true)))
      | in-Literal+else-is_positive w ↦ subst AllIn (sym w.atoms-is) c.loop-formula.invariant
      | in_default w ↦ subst AllIn (sym w.atoms-is) c.loop-formula.invariant
    ]
