use Rattle.std.proofs.Common.{take}
use Rattle.hddl_uses.specs.Contexts.{Fails, PassedOver}
use Rattle.hddl_scope.specs.Findings.{AddsAny}
use Rattle.hddl_uses.specs.Parts.{Atom}
use Rattle.hddl_uses.proofs.uses.check_effects.Given as goal

abbrev pub invariant-loop-effect : goal.invariant-loop-effect
invariant-loop-effect l =
    AddsAny (λ x. PassedOver l.context (Atom (record { variables = l.scope; atom = x.atom }))) (λ x. Fails l.context (Atom (record { variables = l.scope; atom = x.atom }))) (take l.effect-index l.effects) l.initial.found l.found
