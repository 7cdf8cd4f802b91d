use Rattle.std.proofs.Common.{◌++◌, ap, List}
use Rattle.hddl_words.specs.declared.term.NameGroup.{NameGroup}
use Rattle.hddl_meaning.specs.Mentions.{typed_names}
use Rattle.hddl_meaning.specs.Uses.{schema_of_network, schema_of_states}
use Rattle.hddl_uses.specs.Contexts.{Fails, PassedOver}
use Rattle.hddl_uses.specs.Parts.{Part, Objects, type_parts, network_parts}
use Rattle.hddl_check.specs.TextParts.{schema_parts}
use Rattle.hddl_scope.proofs.Adding.{Adds-cons, Adds-append, Adds-list}
use Rattle.hddl_check.proofs.shape.check_problem.Goals as goal

pub returns : goal.returns
returns c =
    let O = PassedOver c.args.context.now in
    let P = Fails c.args.context.now in
    let p = c.args.context.now.problem.now in
    let types : List Part = type_parts (typed_names p.objects) in
    let htn : List Part = schema_parts (schema_of_network p) in
    let network : List Part = network_parts p.htn.place p.htn.network in
    let states : List Part = schema_parts (schema_of_states p) in
    Adds-cons O P Objects (types ++ (htn ++ (network ++ states))) c.in_ok-check_objects.ensures
    (Adds-append O P types (htn ++ (network ++ states)) (Adds-list O P (ap (λ (g : List NameGroup). type_parts (typed_names g)) c.as_slice.ensures) c.in_ok-check_name_types.ensures)
    (Adds-append O P htn (network ++ states) c.in_ok-check_initial.ensures (Adds-append O P network states c.in_ok-check_network.ensures c.in_ok-check_states.ensures)))
