use Rattle.std.proofs.Common.{◌++◌, ◌∷◌, ap, List, map}
use Rattle.hddl_words.specs.declared.term.NameGroup.{NameGroup}
use Rattle.hddl_meaning.specs.Mentions.{Mention, mention_of, typed_names}
use Rattle.hddl_uses.specs.Contexts.{Fails, PassedOver}
use Rattle.hddl_uses.specs.Parts.{Part, Types, Objects, type_parts}
use Rattle.hddl_check.specs.TextParts.{name_parts, task_name_parts}
use Rattle.hddl_scope.proofs.Adding.{Adds-cons, Adds-append, Adds-list}
use Rattle.hddl_check.proofs.shape.check_declared.Goals as goal

pub returns : goal.returns
returns c =
    let O = PassedOver c.args.context.now in
    let P = Fails c.args.context.now in
    let d = c.args.context.now.domain.now in
    let predicates : List Mention = map (λ x. mention_of x.name) d.predicates in
    let methods : List Mention = map (λ x. mention_of x.name) d.methods in
    let types : List Part = type_parts (typed_names d.constants) in
    let tasks : List Part = task_name_parts d in
    let names : List Part = name_parts predicates ++ (name_parts methods ++ tasks) in
    Adds-cons O P Types (Objects ∷ (types ++ names)) c.in_ok-check_types.ensures
    (Adds-cons O P Objects (types ++ names) c.in_ok-check_constants.ensures
    (Adds-append O P types names (Adds-list O P (ap (λ (g : List NameGroup). type_parts (typed_names g)) c.as_slice.ensures) c.in_ok-check_name_types.ensures)
    (Adds-append O P (name_parts predicates) (name_parts methods ++ tasks) c.in_ok-check_predicate_names.ensures
    (Adds-append O P (name_parts methods) tasks c.in_ok-check_method_names.ensures c.in_ok-check_task_names.ensures))))
