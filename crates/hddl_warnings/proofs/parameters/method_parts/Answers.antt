use Rattle.std.proofs.Common.{◌++◌, ◌∷◌, [], map, ap, ◌∙◌}
use Rattle.std.specs.List.{flat_map}
use Rattle.std.proofs.lemmas.List.{map-append}
use Rattle.hddl_warnings.specs.Parts.{sides}
use Rattle.hddl_warnings.specs.Used.{sides_of}
use Rattle.hddl_warnings.proofs.Schemas.{HasParts-same, of_method}
use Rattle.hddl_warnings.proofs.parameters.method_parts.Goals as goal

pub returns : goal.returns
returns c =
    let old = c.in_ok-parts.parts in
    of_method old _ c.args.method.now (HasParts-same old _ _ c.as_slice.ensures c.in_ok-parts.ensures)
    (c.in_ok-push_subtasks.ensures
    ∙ (λ i. (ap (map (λ x. x.now)) c.in_ok-push.ensures.items ∙ map-append (λ x. x.now) old.atoms.items (_ ∷ [])) i ++ map (λ s. s.task) (c.as_slice-2.ensures i)))
    (c.in_ok-push_constraints.ensures ∙ ap (λ es. sides old ++ flat_map sides_of es) c.as_slice-3.ensures)
