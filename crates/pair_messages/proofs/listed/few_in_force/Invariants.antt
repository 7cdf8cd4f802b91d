use Rattle.std.proofs.Common.{◌≡◌, ◌++◌, take}
use Rattle.std.specs.List.{flat_map}
use Rattle.hddl_meaning.specs.Mentions.{mentions_of, typed_variables}
use Rattle.pair_messages.specs.Stands.{section_parameters}
use Rattle.pair_messages.proofs.listed.few_in_force.Given as goal

-- those so far
abbrev pub invariant-loop-groups : goal.invariant-loop-groups
invariant-loop-groups l = l.all.items ≡ mentions_of (typed_variables (section_parameters l.scope.section)) ++ flat_map (λ g. mentions_of (typed_variables g.now)) (take l.groups-index l.scope.quantified.items)
