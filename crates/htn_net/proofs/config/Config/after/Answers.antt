use Rattle.std.proofs.Common.{◌≡◌, length, subst}
use Rattle.htn_model.specs.Grounding.{problem_of}
use Rattle.htn_model.proofs.Grounded.{tasks_are_grounded}
use Rattle.htn_walk.specs.Choices.{chosen_of, network_of}
use Rattle.htn_walk.specs.declared.change.Change.{Change}
use Rattle.htn_walk.proofs.Chosen.{chosen_within, chosen_whole}
use Rattle.htn_net.proofs.config.Config.after.Goals as goal

pub decomposed-requires-clause-placed : goal.decomposed-requires-clause-placed
decomposed-requires-clause-placed c = chosen_within (problem_of c.args.task.now) c.args.self.now c.requires.0 (chosen_of c.args.self.now (c.args.position, c.args.change.now)) c.requires.1

pub decomposed-requires-clause-whole : goal.decomposed-requires-clause-whole
decomposed-requires-clause-whole c =
    let t = c.args.task.now in
    subst (λ (x : Change). length (network_of x).order ≡ length (network_of x).children) c.in-Decomposed.is
    (chosen_whole (problem_of t) c.args.self.now c.requires.0 (chosen_of c.args.self.now (c.args.position, c.args.change.now)) c.requires.1 (tasks_are_grounded t c.initial_atoms-initial.ensures.typed))

pub performed-requires : goal.performed-requires
performed-requires c = chosen_within (problem_of c.args.task.now) c.args.self.now c.requires.0 (chosen_of c.args.self.now (c.args.position, c.args.change.now)) c.requires.1
