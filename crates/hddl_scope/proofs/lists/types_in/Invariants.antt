use Rattle.std.proofs.Common.{◌≡◌, ◌++◌, map, take}
use Rattle.std.specs.List.{flat_map}
use Rattle.hddl_meaning.specs.Mentions.{mention_of}
use Rattle.hddl_meaning.specs.Names.{optional_mention}
use Rattle.hddl_scope.proofs.lists.types_in.Given as goal

abbrev pub invariant-loop-group : goal.invariant-loop-group
invariant-loop-group l = l.mentions.items ≡ flat_map (λ g. map mention_of g.names ++ optional_mention g.of_type) (take l.group-index l.groups)
