use Rattle.std.proofs.Common.{◌≡◌, ◌++◌, take}
use Rattle.hddl_names.specs.Members.{declared_in}
use Rattle.hddl_names.proofs.declared_types.declarations.Given as goal

abbrev pub invariant-loop-group : goal.invariant-loop-group
invariant-loop-group l = l.pairs.items ≡ declared_in l.vocabulary.objects l.vocabulary.types (take l.group-index l.constants)

abbrev pub invariant-loop-group-2 : goal.invariant-loop-group-2
invariant-loop-group-2 l = l.pairs.items ≡ l.initial.pairs.items ++ declared_in l.vocabulary.objects l.vocabulary.types (take l.group-index l.objects)
