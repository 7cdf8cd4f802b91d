use Rattle.std.proofs.Common.{◌≡◌, ◌∙◌, true, List, Some, sym, subst}
use Rattle.std.proofs.lemmas.List.Folds.{list_all-map}
use Rattle.std.proofs.lemmas.Option.{same_Some}
use Rattle.htn_model.specs.Grounding.{problem_of}
use Rattle.htn_model.specs.Literal.{Action, Literal}
use Rattle.call_rules.specs.Local.{are_literals_in, is_literal_in, IsActionIn, IsFrameOf}
use Rattle.htn_ground.specs.Views.{child_view}
use Rattle.htn_ground.specs.declared.child.Child.{Child as Node}
use Rattle.htn_task.specs.Literals.{literal_of}
use Rattle.call_proof.specs.Masks.{frame_of}
use Rattle.call_proof.proofs.reads.is_node_in.Goals as goal

pub returns-in-Task : goal.returns-in-Task
returns-in-Task c = λ _.
    subst
    (λ (x : Node). IsFrameOf (problem_of c.args.task.now) (child_view x) (frame_of c.args.atoms.now c.args.mask.now))
    (sym c.in-Task.is) tt

pub returns-in-Precondition : goal.returns-in-Precondition
returns-in-Precondition c = λ is.
    (let frame = frame_of c.args.atoms.now c.args.mask.now in
    subst (λ (x : Node). IsFrameOf (problem_of c.args.task.now) (child_view x) frame) (sym c.in-Precondition.is)
    (subst (λ (ls : List Literal). are_literals_in frame ls ≡ true) c.as_slice.ensures
    (list_all-map (is_literal_in frame) literal_of c.as_slice.result.now ∙ sym c.are_literals_in.ensures ∙ is)))

pub returns-in-Some : goal.returns-in-Some
returns-in-Some c = λ is.
    (let frame = frame_of c.args.atoms.now c.args.mask.now in
    let own : (problem_of c.args.task.now).action_of c.in-Action.goal ≡ Some c.in-Some.action =
    sym c.in_ok-action-in-Action.ensures ∙ c.in-Some.is in
    subst (λ (x : Node). IsFrameOf (problem_of c.args.task.now) (child_view x) frame) (sym c.in-Action.is)
    (λ (a : Action) known. subst (λ (b : Action). IsActionIn frame b)
    (same_Some c.in-Some.action a (sym own ∙ known)) (c.is_action_in.ensures is)))
