use Rattle.std.proofs.Common.{◌≡◌, ap}
use Rattle.std.proofs.lemmas.Result.{err_from_is_err_and}
use Rattle.plan_text.specs.Line.{numbers_of}
use Rattle.plan_text.specs.Seen.{seen_kind}
use Rattle.plan_text.proofs.LargeNumbers.{large_id, large_rest}
use Rattle.plan_text.proofs.draft.Draft.add.Goals as goal

pub returns-in_err-id-in-Action-clause-fault : goal.returns-in_err-id-in-Action-clause-fault
returns-in_err-id-in-Action-clause-fault c =
    let p = err_from_is_err_and c.from_residual-in_err-id-in-Action.result c.from_residual-in_err-id-in-Action.ensures.1 in
    let large = c.in_err-id-in-Action.ensures.large in
    let numbers = ap (λ line. numbers_of (seen_kind line)) c.in-Action.is in
    rw (p.1, p.2) (large_id _ _ _ _ _ numbers _ large.0 large.1)

pub returns-in_err-id-in-Decomposition-clause-fault : goal.returns-in_err-id-in-Decomposition-clause-fault
returns-in_err-id-in-Decomposition-clause-fault c =
    let p = err_from_is_err_and c.from_residual-in_err-id-in-Decomposition.result c.from_residual-in_err-id-in-Decomposition.ensures.1 in
    let large = c.in_err-id-in-Decomposition.ensures.large in
    let numbers = ap (λ line. numbers_of (seen_kind line)) c.in-Decomposition.is in
    rw (p.1, p.2) (large_id _ _ _ _ _ numbers _ large.0 large.1)

pub returns-in_err-children-in-Decomposition-clause-fault : goal.returns-in_err-children-in-Decomposition-clause-fault
returns-in_err-children-in-Decomposition-clause-fault c =
    let p = err_from_is_err_and c.from_residual-in_err-children-in-Decomposition.result c.from_residual-in_err-children-in-Decomposition.ensures.1 in
    let numbers = ap (λ line. numbers_of (seen_kind line)) c.in-Decomposition.is in
    rw (p.1, p.2) (large_rest _ _ _ _ _ numbers _ c.in_ok-id-in-Decomposition.ensures.small c.in_err-children-in-Decomposition.ensures.fault)
