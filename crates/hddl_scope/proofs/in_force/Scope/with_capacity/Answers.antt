use Rattle.std.proofs.Common.{[], None, subst, sym}
use Rattle.hddl_scope.specs.InForce.{IsScope}
use Rattle.hddl_scope.proofs.InForce.{scope_none}
use Rattle.hddl_scope.proofs.in_force.Scope.with_capacity.Goals as goal

pub invariant_of-result : goal.invariant_of-result
invariant_of-result c =
    subst (λ l. IsScope l c.in_ok-with_capacity-2.field-0 None) (sym c.in_ok-with_capacity.ensures.items)
    (subst (λ k. IsScope [] k None) (sym c.in_ok-with_capacity-2.ensures) scope_none)
