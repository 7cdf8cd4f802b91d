use Rattle.std.proofs.Common.{◌≡◌, map, take}
use Rattle.std.specs.List.{fold}
use Rattle.hddl_meaning.specs.Mentions.{folded}
use Rattle.hddl_meaning.specs.Names.{with_name}
use Rattle.hddl_names.proofs.vocabulary.declare_actions.Given as goal

abbrev pub invariant-loop-action : goal.invariant-loop-action
invariant-loop-action l = l.names ≡ fold with_name l.initial.names (map (λ x. folded x.name.text) (take l.action-index l.actions))
