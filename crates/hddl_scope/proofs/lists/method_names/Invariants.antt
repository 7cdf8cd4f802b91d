use Rattle.std.proofs.Common.{◌≡◌, map, take}
use Rattle.hddl_meaning.specs.Mentions.{mention_of}
use Rattle.hddl_scope.proofs.lists.method_names.Given as goal

abbrev pub invariant-loop-method : goal.invariant-loop-method
invariant-loop-method l = l.mentions.items ≡ map (λ x. mention_of x.name) (take l.method-index l.methods)
