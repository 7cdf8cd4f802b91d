use Rattle.std.proofs.Common.{map, take}
use Rattle.hddl_warnings.specs.Known.{Knows}
use Rattle.hddl_warnings.specs.Used.{name_text}
use Rattle.hddl_warnings.proofs.known.known_names.Given as goal

abbrev pub invariant-loop-name : goal.invariant-loop-name
invariant-loop-name l = Knows l.known (map name_text (map (λ x. x.now) (take l.name-index l.names)))
