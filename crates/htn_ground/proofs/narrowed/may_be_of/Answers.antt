use Rattle.std.proofs.Common.{List, ap, get_or, ◌∙◌, ℕ}
use Rattle.htn_model.specs.Instances.{value_of}
use Rattle.htn_task.specs.Views.{term_of}
use Rattle.htn_task.specs.declared.term.Term.{Term}
use Rattle.htn_task.specs.declared.term.Term.TheVariants.{Parameter}
use Rattle.htn_ground.proofs.Marked.{place_value}
use Rattle.htn_ground.proofs.narrowed.may_be_of.Goals as goal

pub returns-then-arguments-place : goal.returns-then-arguments-place
returns-then-arguments-place c values e =
    absurd (c.if-arguments-place.true
    (ap (λ (l : List ℕ). get_or l c.loop-place.place 0) e
    ∙ place_value values c.args.terms.now c.loop-place.place (Parameter 0) c.loop-place-test.true
    ∙ ap (λ (t : Term). value_of values (term_of t)) c.in-Object.is))
