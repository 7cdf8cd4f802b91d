use Rattle.std.proofs.Common.{◌≡◌, map, take}
use Rattle.hddl_meaning.specs.Mentions.{mention_of}
use Rattle.hddl_warnings.proofs.tasks.action_names.Given as goal

abbrev pub invariant-loop-action : goal.invariant-loop-action
invariant-loop-action l = l.mentions.items ≡ map (λ x. mention_of x.name) (take l.action-index l.actions)
