use Rattle.std.proofs.Common.{◌≡◌, ◌∙◌, length, sym, ap, subst}
use Rattle.std.proofs.lemmas.List.{length-map}
use Rattle.htn_ground.specs.Views.{child_view}
use Rattle.htn_model.specs.Grounding.{problem_of}
use Rattle.htn_model.proofs.Grounded.{tasks_are_grounded}
use Rattle.htn_walk.specs.Choices.{chosen_of, network_of}
use Rattle.htn_walk.specs.declared.change.Change.{Change}
use Rattle.htn_walk.proofs.Chosen.{chosen_within, chosen_whole}
use Rattle.htn_walk.proofs.front.Front.after.Goals as goal

pub replaced-requires-clause-placed : goal.replaced-requires-clause-placed
replaced-requires-clause-placed c = chosen_within (problem_of c.args.task.now) c.args.self c.requires.0 (chosen_of c.args.self (c.args.position, c.args.change.now)) c.requires.1

pub replaced-requires-clause-whole : goal.replaced-requires-clause-whole
replaced-requires-clause-whole c =
    let t = c.args.task.now in
    let whole = subst (λ (x : Change). length (network_of x).order ≡ length (network_of x).children) c.in-Decomposed.is
    (chosen_whole (problem_of t) c.args.self c.requires.0 (chosen_of c.args.self (c.args.position, c.args.change.now)) c.requires.1 (tasks_are_grounded t c.initial_atoms-initial.ensures.typed)) in
    ap length c.order.ensures ∙ whole ∙ sym (ap length (c.as_slice-children.ensures ∙ c.children.ensures)) ∙ length-map c.as_slice-children.result.now child_view

pub replaced-requires-in-Performed-clause-placed : goal.replaced-requires-in-Performed-clause-placed
replaced-requires-in-Performed-clause-placed c = chosen_within (problem_of c.args.task.now) c.args.self c.requires.0 (chosen_of c.args.self (c.args.position, c.args.change.now)) c.requires.1
