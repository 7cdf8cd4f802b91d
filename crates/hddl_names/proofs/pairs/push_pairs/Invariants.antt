use Rattle.std.proofs.Common.{◌≡◌, ◌++◌, map, take}
use Rattle.hddl_meaning.specs.Mentions.{folded}
use Rattle.hddl_meaning.specs.Names.{number_in}
use Rattle.hddl_names.proofs.pairs.push_pairs.Given as goal

abbrev pub invariant-loop-name : goal.invariant-loop-name
invariant-loop-name l = l.pairs.items ≡ l.initial.pairs.items ++ map (λ x. (number_in l.names (folded x.text), l.parent)) (take l.name-index l.group)
