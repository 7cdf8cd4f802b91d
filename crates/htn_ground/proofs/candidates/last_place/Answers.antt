use Rattle.std.proofs.Common.{Option, ap, get_or, subst, sym, ◌∙◌, ℕ}
use Rattle.htn_model.specs.Instances.{value_of}
use Rattle.htn_task.specs.Views.{term_of}
use Rattle.htn_task.specs.declared.term.Term.{Term}
use Rattle.htn_task.specs.declared.term.Term.TheVariants.{Parameter}
use Rattle.htn_ground.proofs.Marked.{IsPlaced, place_value}
use Rattle.htn_ground.proofs.candidates.last_place.Goals as goal
use Rattle.htn_ground.proofs.candidates.last_place.Goals.{in-Parameter+then-number-parameter, in-Parameter+else-number-parameter, in_default}

pub loop-place-preserved : goal.loop-place-preserved
loop-place-preserved c =
    let terms = c.args.terms.now in
    let p = c.args.parameter in
    elim c.match-term.branch [
      | in-Parameter+then-number-parameter w ↦
          subst (λ (o : Option ℕ). IsPlaced terms p o) (sym w.last-is) (
            c.loop-place-test.true,
            λ values. place_value values terms c.loop-place.place (Parameter 0) c.loop-place-test.true
                ∙ ap (λ (t : Term). value_of values (term_of t)) w.in-Parameter.is ∙ ap (λ n. get_or values n 0) w.if-number-parameter.true,
          )
      | in-Parameter+else-number-parameter w ↦ subst (λ (o : Option ℕ). IsPlaced terms p o) (sym w.last-is) c.loop-place.invariant
      | in_default w ↦ subst (λ (o : Option ℕ). IsPlaced terms p o) (sym w.last-is) c.loop-place.invariant
    ]
