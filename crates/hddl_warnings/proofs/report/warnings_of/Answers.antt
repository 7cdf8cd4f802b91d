use Rattle.std.proofs.Common.{option_map, subst}
use Rattle.std.proofs.lemmas.List.Filters.{dedup_is}
use Rattle.hddl_warnings.specs.Tells.{Tells}
use Rattle.std.specs.Prelude.{IsSomeAnd}
use Rattle.hddl_warnings.specs.Warnings.{IsAddedAndDeleted, IsNoMethod, IsUnusedParameter, IsWarning, IsWarningOfPair}
use Rattle.hddl_warnings.proofs.Joining.{four_kinds}
use Rattle.hddl_warnings.proofs.Sorting.{ascending, settled}
use Rattle.hddl_warnings.proofs.report.warnings_of.Goals as goal

pub returns-clause-exactly : goal.returns-clause-exactly
returns-clause-exactly c =
    let d = c.args.domain.now in
    let p = option_map (λ p. p.now) c.args.problem in
    let found = c.tell_with.new.out.items in
    settled found c.sort_unstable.new.self.items c.dedup.new.self.items (IsWarning d p)
    (subst (λ old. Tells old found (IsWarning d p)) c.new-found.ensures.items
    (four_kinds c.new-found.result.items c.tell_schemas.new.out.items c.tell_effects.new.out.items c.tell_no_methods.new.out.items found (IsUnusedParameter d) (IsAddedAndDeleted d)
    (IsNoMethod d p) (λ w. IsSomeAnd p (λ q. IsWarningOfPair d q w)) c.in_ok-tell_schemas.ensures c.in_ok-tell_effects.ensures c.in_ok-tell_no_methods.ensures c.in_ok-tell_with.ensures))
    c.sort_unstable.ensures.permutation (dedup_is _ _ _ c.dedup.ensures.filtered)

pub returns-clause-ordered : goal.returns-clause-ordered
returns-clause-ordered c = ascending _ _ c.sort_unstable.ensures.sorted (dedup_is _ _ _ c.dedup.ensures.filtered)
