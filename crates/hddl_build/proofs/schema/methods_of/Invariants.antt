use Rattle.std.proofs.Common.{take}
use Rattle.std.specs.List.{AllZip}
use Rattle.hddl_meaning.specs.Building.{IsMethodOf}
use Rattle.hddl_build.proofs.schema.methods_of.Given as goal

abbrev pub invariant-loop-method : goal.invariant-loop-method
invariant-loop-method l = AllZip (IsMethodOf l.vocabulary) (take l.method-index l.methods) l.found.items
