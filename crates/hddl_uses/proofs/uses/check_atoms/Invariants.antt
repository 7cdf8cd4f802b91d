use Rattle.std.proofs.Common.{take}
use Rattle.hddl_uses.specs.Contexts.{Fails, PassedOver}
use Rattle.hddl_scope.specs.Findings.{AddsAny}
use Rattle.hddl_uses.specs.Parts.{Atom}
use Rattle.hddl_uses.proofs.uses.check_atoms.Given as goal

abbrev pub invariant-loop-atom : goal.invariant-loop-atom
invariant-loop-atom l =
    AddsAny (λ x. PassedOver l.context (Atom (record { variables = l.scope; atom = x }))) (λ x. Fails l.context (Atom (record { variables = l.scope; atom = x }))) (take l.atom-index l.atoms) l.initial.found l.found
