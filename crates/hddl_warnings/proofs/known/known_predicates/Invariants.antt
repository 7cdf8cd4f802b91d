use Rattle.std.proofs.Common.{map, take}
use Rattle.hddl_warnings.specs.Known.{Knows}
use Rattle.hddl_warnings.specs.Used.{name_text}
use Rattle.hddl_warnings.proofs.known.known_predicates.Given as goal

abbrev pub invariant-loop-atom : goal.invariant-loop-atom
invariant-loop-atom l = Knows l.known (map (λ a. name_text a.name) (map (λ x. x.now) (take l.atom-index l.atoms)))
