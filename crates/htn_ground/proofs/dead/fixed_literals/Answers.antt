use Rattle.std.proofs.Common.{Global, List, Vec, ap, subst, sym, ◌∙◌}
use Rattle.std.specs.List.{All}
use Rattle.std.proofs.lemmas.List.Elements.{All-push}
use Rattle.htn_model.specs.Grounding.{is_changed}
use Rattle.htn_ground.specs.declared.fixed.FixedLiteral.{FixedLiteral}
use Rattle.htn_ground.specs.Fixed.{IsFixed}
use Rattle.htn_ground.proofs.Stands.{fixed_at}
use Rattle.htn_ground.proofs.dead.fixed_literals.Goals as goal
use Rattle.htn_ground.proofs.dead.fixed_literals.Goals.{in-Literal+then-not-is_fluent+in_ok-fixed_literal+in_ok-push, in-Literal+else-not-is_fluent, in_default}

pub loop-formula-preserved : goal.loop-formula-preserved
loop-formula-preserved c =
    let t = c.args.task.now in
    let pre = c.args.precondition.now in
    elim c.match-formula.branch [
      | in-Literal+then-not-is_fluent+in_ok-fixed_literal+in_ok-push w ↦
          let l = w.in_ok-fixed_literal.field-0 in
          let is : IsFixed t pre l =
          fixed_at t pre c.as_slice-formula-items.result.now c.loop-formula.formula-index c.formula-item.result w.in-Literal.is_positive w.in-Literal.atom l
          c.loop-formula-test.true c.formula-item.is c.as_slice-formula-items.ensures w.in-Literal.is w.in_ok-fixed_literal.ensures.sign w.in_ok-fixed_literal.ensures.atom
          (w.if-not-is_fluent.ensures ∙ ap (is_changed t) w.predicate.ensures) in
          subst (λ (v : Vec FixedLiteral Global). All (IsFixed t pre) v.items) (sym w.literals-is)
          (subst (λ (ls : List FixedLiteral). All (IsFixed t pre) ls) (sym w.in_ok-push.ensures.items) (All-push (IsFixed t pre) c.loop-formula.literals.items l c.loop-formula.invariant is))
      | in-Literal+else-not-is_fluent w ↦ subst (λ (v : Vec FixedLiteral Global). All (IsFixed t pre) v.items) (sym w.literals-is) c.loop-formula.invariant
      | in_default w ↦ subst (λ (v : Vec FixedLiteral Global). All (IsFixed t pre) v.items) (sym w.literals-is) c.loop-formula.invariant
    ]
