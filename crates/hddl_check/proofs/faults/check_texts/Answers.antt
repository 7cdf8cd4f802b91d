use Rattle.std.proofs.Common.{inl, inr}
use Rattle.hddl_scope.proofs.Adding.{Adds-either, Adds-same}
use Rattle.hddl_check.proofs.faults.check_texts.Goals as goal

pub returns : goal.returns
returns c =
    Adds-same (λ f o. elim o [ inl (x, at, gone) ↦ absurd gone | inr (x, at, gone) ↦ absurd gone ]) (λ f h. h) (λ f h. h)
    (Adds-either c.in_ok-check_domain.ensures c.in_ok-check_problem.ensures)
