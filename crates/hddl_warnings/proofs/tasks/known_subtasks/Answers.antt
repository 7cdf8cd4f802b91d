use Rattle.std.proofs.Common.{◌≡◌, map, ap, subst, ◌∙◌, option_map}
use Rattle.hddl_warnings.specs.Known.{Knows}
use Rattle.hddl_warnings.specs.Used.{subtask_names, name_texts}
use Rattle.hddl_warnings.proofs.tasks.known_subtasks.Goals as goal

pub returns : goal.returns
returns c =
    let d = c.args.domain.now in
    let is : map (λ x. x.now) c.deref.result.now ≡ subtask_names d (option_map (λ p. p.now) c.args.problem) = ap (map (λ x. x.now)) c.deref.ensures.value ∙ c.in_ok-names.ensures in
    subst (λ ns. Knows c.in_ok-known.known (name_texts ns)) is c.in_ok-known.ensures
