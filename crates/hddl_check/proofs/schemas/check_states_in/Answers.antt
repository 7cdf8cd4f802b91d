use Rattle.std.proofs.Common.{[], List, ap, map, subst}
use Rattle.hddl_words.specs.declared.term.AtomText.{AtomText}
use Rattle.hddl_meaning.specs.Uses.{Use, schema_of_states}
use Rattle.hddl_uses.specs.Contexts.{Fails, PassedInside, PassedOver}
use Rattle.hddl_scope.specs.Findings.{AddsAny}
use Rattle.hddl_uses.specs.Parts.{Part, Atom, conditions_parts}
use Rattle.hddl_check.specs.TextParts.{inner_parts}
use Rattle.hddl_scope.proofs.Adding.{Adds-append, Adds-list}
use Rattle.hddl_uses.proofs.Arguing.{all_inside}
use Rattle.hddl_check.proofs.SchemaLists.{states_are}
use Rattle.hddl_check.proofs.Inside.{schema_added}
use Rattle.hddl_check.proofs.schemas.check_states_in.Goals as goal

pub returns : goal.returns
returns c =
    let context = c.args.context.now in
    let P = Fails context in
    let N = PassedInside context [] in
    let p = c.args.problem.now in
    let use_of : AtomText → Use = λ a. record { variables = []; atom = a } in
    let atoms : List Part = map Atom (map use_of p.init) in
    let goals : List Part = conditions_parts [] p.goal in
    schema_added context [] (inner_parts (schema_of_states p)) c.in_ok-check_parameters.ensures
    (Adds-list N P (states_are p)
    (Adds-append N P atoms goals
    (all_inside context [] atoms
    (Adds-list (PassedOver context) P (λ i. map Atom (map (λ (a : AtomText). record { variables = c.requires i; atom = a }) (c.as_slice.ensures i))) c.in_ok-check_atoms.ensures))
    (subst (λ v. AddsAny (PassedInside context v) P (conditions_parts v p.goal) c.check_atoms.new.found c.check_conditions.new.found) c.requires
    (Adds-list (PassedInside context c.args.scope.now) P (ap (conditions_parts c.args.scope.now) c.as_slice-2.ensures) c.in_ok-check_conditions.ensures.found))))
