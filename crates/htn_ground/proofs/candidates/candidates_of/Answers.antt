use Rattle.std.proofs.Common.{◌≡◌, ◌∙◌, ◌<◌, ap, length, map, refl, subst, List, Some}
use Rattle.htn_model.specs.State.{State}
use Rattle.htn_task.specs.Views.{term_of}
use Rattle.htn_task.specs.declared.term.Term.{Term}
use Rattle.htn_ground.specs.Candidates.{moved_last}
use Rattle.htn_ground.proofs.Moved.{agrees_moved, map-moved_last}
use Rattle.htn_ground.proofs.candidates.candidates_of.Goals as goal

pub returns-clause-agrees : goal.returns-clause-agrees
returns-clause-agrees c =
    let l = c.args.literal.now in
    let place = c.in-Some.place in
    let inside : place < length l.arguments.items = subst (λ (ts : List Term). place < length ts) c.deref.ensures.value c.in-Some.ensures.place in
    let moved : c.in_ok-arguments-2.arguments.items ≡ moved_last place l.arguments.items = c.in_ok-arguments-2.ensures ∙ ap (λ (ts : List Term). moved_last place ts) c.deref-2.ensures.value in
    agrees_moved c.args.state.now l (record { depth = c.args.depth; predicate = l.predicate; arguments = c.in_ok-arguments-2.arguments; rows = Some c.in_ok-rows.rows }) place c.requires inside (ap (λ (s : State). Some s) c.in_ok-rows.ensures) refl
    (ap (λ (ts : List Term). map term_of ts) moved ∙ map-moved_last term_of place l.arguments.items)
