use Rattle.std.proofs.Common.{◌++◌, ◌∙◌, List, ap, subst, sym}
use Rattle.std.specs.Borrow.{Bor}
use Rattle.std.specs.List.{flat_map}
use Rattle.hddl_words.specs.declared.condition.Condition.{Condition, Equality, Forall, Literal}
use Rattle.hddl_words.specs.declared.term.VariableGroup.{VariableGroup}
use Rattle.hddl_meaning.specs.Mentions.{IsIn}
use Rattle.hddl_meaning.specs.Uses.{Schema, Variable, parameters_of, quantified_of}
use Rattle.pair_messages.specs.declared.stands.Kind.TheVariants as kind
use Rattle.pair_messages.specs.Stands.{IsPartOf, in_force, schema_of_atom, schema_of_conditions, schema_of_equality, section_parameters}
use Rattle.pair_messages.proofs.Standing.{body_part, in_force_more, literal_part, part_of_part, sides_part, some_widen}
use Rattle.pair_messages.proofs.stands.in_conditions.Goals as goal

pub returns-in-Literal : goal.returns-in-Literal
returns-in-Literal c =
    let whole = schema_of_conditions (parameters_of (section_parameters c.args.section)) c.args.conditions.now in
    let variables = in_force c.loop.scope in
    let inner = c.loop.inner.now in
    let l = c.in-Literal.literal in
    let part : Schema = schema_of_atom kind.Predicate (record { variables = variables; atom = l.atom }) in
    let at : IsIn (Literal l) inner = subst (λ (x : Condition). IsIn x inner) c.in-Literal.is c.in-Some.ensures in
    some_widen part whole c.args.place c.in_atom.result (part_of_part part (schema_of_conditions variables inner) whole (literal_part variables inner l at) c.loop.invariant) c.in_atom.ensures

pub returns-in-Equality : goal.returns-in-Equality
returns-in-Equality c =
    let whole = schema_of_conditions (parameters_of (section_parameters c.args.section)) c.args.conditions.now in
    let variables = in_force c.loop.scope in
    let inner = c.loop.inner.now in
    let e = c.in-Equality.equality in
    let part : Schema = schema_of_equality variables e in
    let at : IsIn (Equality e) inner = subst (λ (x : Condition). IsIn x inner) c.in-Equality.is c.in-Some.ensures in
    some_widen part whole c.args.place c.in_equality.result (part_of_part part (schema_of_conditions variables inner) whole (sides_part variables inner e at) c.loop.invariant) c.in_equality.ensures

pub loop-preserved : goal.loop-preserved
loop-preserved c =
    let whole = schema_of_conditions (parameters_of (section_parameters c.args.section)) c.args.conditions.now in
    let scope = c.loop.scope in
    let variables = in_force scope in
    let inner = c.loop.inner.now in
    let groups = c.in-Forall.groups in
    let body = c.in-Forall.body in
    let at : IsIn (Forall groups body) inner = subst (λ (x : Condition). IsIn x inner) c.in-Forall.is c.in-Some.ensures in
    let more =
    ap (λ (l : List (Bor (List VariableGroup))). parameters_of (section_parameters scope.section) ++ flat_map (λ g. quantified_of g.now) l) c.in_ok-push-in-Forall.ensures.items
    ∙ in_force_more (parameters_of (section_parameters scope.section)) scope.quantified.items c.as_slice-own.result
    ∙ ap (λ (gs : List VariableGroup). variables ++ quantified_of gs) c.as_slice-own.ensures in
    subst (λ (vs : List Variable). IsPartOf (schema_of_conditions vs c.as_slice-parts.result.now) whole) (sym more)
    (subst (λ (cs : List Condition). IsPartOf (schema_of_conditions (variables ++ quantified_of groups) cs) whole) (sym c.as_slice-parts.ensures)
    (part_of_part (schema_of_conditions (variables ++ quantified_of groups) body) (schema_of_conditions variables inner) whole (body_part variables inner groups body at) c.loop.invariant))
