use Rattle.std.proofs.Common.{◌≡◌, ◌++◌, map, subst, ap, ◌∙◌}
use Rattle.std.specs.List.{flat_map}
use Rattle.hddl_warnings.specs.Known.{Knows}
use Rattle.hddl_warnings.proofs.Schemas.{schema_texts}
use Rattle.hddl_warnings.proofs.parameters.known_in.Goals as goal

pub returns : goal.returns
returns c = λ s is.
    let es = c.in_ok-known.known in
    let atoms = map (λ x. x.now) c.args.parts.now.atoms.items in
    let sides = map (λ x. x.now) c.args.parts.now.sides.items in
    let pushed =
    c.in_ok-push_terms.ensures ∙ (λ i. map (λ x. x.now) (c.new-terms.ensures.items i) ++ flat_map (λ a. a.terms) (map (λ x. x.now) (c.deref.ensures.value i))) in
    let terms_are : map (λ x. x.now) c.deref-3.result.now ≡ flat_map (λ a. a.terms) atoms ++ sides =
    ap (map (λ x. x.now)) c.deref-3.ensures.value ∙ c.in_ok-push_sides.ensures ∙ (λ i. pushed i ++ map (λ x. x.now) (c.deref-2.ensures.value i)) in
    subst (λ ts. Knows es ts) (schema_texts (map (λ x. x.now) c.deref-3.result.now) atoms sides s terms_are is.atoms is.sides) c.in_ok-known.ensures
