use Rattle.std.proofs.Common.{◌≡◌, ◌++◌, map, ap, subst, ◌∙◌}
use Rattle.hddl_warnings.specs.Known.{Knows}
use Rattle.hddl_warnings.specs.Used.{predicates_of, set_atoms, tested_atoms}
use Rattle.hddl_warnings.proofs.predicates.known_in_all.Goals as goal

pub returns : goal.returns
returns c =
    let d = c.args.domain.now in
    let p = c.args.problem.now in
    let all_is : map (λ x. x.now) c.deref.result.now ≡ tested_atoms d p ++ set_atoms d p =
    ap (map (λ x. x.now)) c.deref.ensures.value ∙ c.in_ok-push_set_atoms.ensures
    ∙ ap (λ l. l ++ set_atoms d p) (ap (map (λ x. x.now)) c.in_ok-atoms.ensures.items ∙ c.requires) in
    subst (λ xs. Knows c.in_ok-known.known (predicates_of xs)) all_is c.in_ok-known.ensures
