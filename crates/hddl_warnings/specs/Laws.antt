-- The laws of the order of warnings.
use Rattle.std.specs.Prelude.{refl}
use Rattle.std.specs.Cmp.{IsEquivalence, IsPartialEquivalence, IsPartialOrder, IsTotalOrder, partial_equiv_from_equiv, po}
use Rattle.std.specs.Ordering.{as_partial_cmp, eq_by_cmp}
use Rattle.std.proofs.lemmas.Cmp.{eq_by_cmp_equiv, nat_cmp_total, on_total, then_total}
use Rattle.hddl_warnings.specs.Order.{kind_number, source_number, warning_cmp}

-- the order of warnings is total
pub warning_cmp-total : IsTotalOrder warning_cmp
warning_cmp-total =
    then_total (on_total (λ w. source_number w.at.source) nat_cmp_total)
    (then_total (on_total (λ w. w.at.place) nat_cmp_total) (on_total (λ w. kind_number w.kind) nat_cmp_total))

-- to be neither before nor after another warning is an equivalence
pub warning_eq-laws : IsEquivalence (eq_by_cmp warning_cmp)
warning_eq-laws = eq_by_cmp_equiv warning_cmp-total

-- it is an equivalence in the sense of `PartialEq`
pub warning_eq-partial : IsPartialEquivalence (eq_by_cmp warning_cmp)
warning_eq-partial = partial_equiv_from_equiv warning_eq-laws

-- the order of warnings is one in the sense of `PartialOrd`
pub warning_cmp-partial : IsPartialOrder (eq_by_cmp warning_cmp) (as_partial_cmp warning_cmp)
warning_cmp-partial = po warning_cmp-total (λ x y. refl)
