use Rattle.std.proofs.Common.{◌≡◌, map, ap, subst, ◌∙◌}
use Rattle.hddl_warnings.specs.Known.{Knows}
use Rattle.hddl_warnings.specs.Used.{decomposed_names, name_texts}
use Rattle.hddl_warnings.proofs.tasks.known_decomposed.Goals as goal

pub returns : goal.returns
returns c =
    let d = c.args.domain.now in
    let is : map (λ x. x.now) c.deref.result.now ≡ decomposed_names d = ap (map (λ x. x.now)) c.deref.ensures.value ∙ c.in_ok-names.ensures ∙ ap (map (λ m. m.task.name)) c.as_slice.ensures in
    subst (λ ns. Knows c.in_ok-known.known (name_texts ns)) is c.in_ok-known.ensures
