use Rattle.std.proofs.Common.{◌≡◌, map, ap, subst, ◌∙◌}
use Rattle.hddl_warnings.specs.Known.{Knows}
use Rattle.hddl_warnings.specs.Used.{name_texts, used_types}
use Rattle.hddl_meaning.specs.Names.{object}
use Rattle.hddl_warnings.proofs.Knowing.{Knows-more}
use Rattle.hddl_warnings.proofs.types.known_types.Goals as goal

pub returns : goal.returns
returns c =
    let d = c.args.domain.now in
    let p = c.args.problem.now in
    let es = c.in_ok-known.known in
    let names_is : map (λ x. x.now) c.deref.result.now ≡ used_types d p = ap (map (λ x. x.now)) c.deref.ensures.value ∙ c.in_ok-names.ensures in
    let names : Knows es (name_texts (used_types d p)) = subst (λ ns. Knows es (name_texts ns)) names_is c.in_ok-known.ensures in
    Knows-more es c.learn.new.known (name_texts (used_types d p)) object names c.in_ok-learn.ensures
