use Rattle.std.proofs.Common.{◌≡◌, ◌⊎◌, ◌++◌, ◌∷◌, ◌∙◌, ap, inl, refl, sym, subst, List, map, take}
use Rattle.std.proofs.lemmas.List.{take_all}
use Rattle.std.proofs.lemmas.Result.{IfOk-weaker}
use Rattle.std.specs.List.{flat_map}
use Rattle.hddl_words.specs.declared.condition.Condition.{Forall}
use Rattle.hddl_meaning.specs.Mentions.{Mention, mentions_of, typed_variables}
use Rattle.hddl_meaning.specs.Uses.{quantified_of, sides, Variable}
use Rattle.hddl_meaning.specs.Items.{most_parameters, most_variables, variable_mentions}
use Rattle.hddl_meaning.specs.declared.fault.CheckFault.{CheckFault}
use Rattle.hddl_meaning.proofs.Listed.{at_head}
use Rattle.hddl_uses.specs.Contexts.{Fails, PassedInside}
use Rattle.hddl_scope.specs.Findings.{AddsAny, AnyOf}
use Rattle.hddl_uses.specs.Parts.{Part, Atom, Different, Limited, Side, quantifier_parts, type_parts}
use Rattle.hddl_uses.specs.Conditions.{condition_parts}
use Rattle.hddl_scope.proofs.Adding.{Adds-next, Adds-after, Adds-list, Adds-nil, Adds-single, Adds-within, Adds-every}
use Rattle.hddl_scope.proofs.InForce.{take_whole}
use Rattle.hddl_scope.proofs.ScopeLists.{scope_mentions}
use Rattle.hddl_uses.proofs.Arguing.{all_inside}
use Rattle.hddl_uses.proofs.Folding.{literal_parts, equality_parts, own_parts, body_parts, to_forall, from_forall}
use Rattle.hddl_uses.proofs.conditions.+check_condition.Goals as goal

pub loop-part-init : goal.loop-part-init
loop-part-init t c = record { found = Adds-nil (PassedInside c.args.context.now c.enter.new.scope) (Fails c.args.context.now) refl; kept = refl }

pub loop-part-preserved : goal.loop-part-preserved
loop-part-preserved t c =
    let context = c.args.context.now in
    let within = c.enter.new.scope in
    let old = c.loop-part.invariant in
    record {
      found = Adds-next (PassedInside context within) (Fails context) (condition_parts within) c.as_slice-part-items.result.now c.loop-part.part-index c.part-item.result c.loop-part-test.true
          c.part-item.is old.found
          (subst (λ w. AddsAny (PassedInside context w) (Fails context) (condition_parts w c.part-item.result) c.loop-part.found c.check_condition.new.found) old.kept c.in-Ok.ensures.found);
      kept = c.in-Ok.ensures.kept ∙ old.kept;
    }

pub returns-in-Literal-clause-found : goal.returns-in-Literal-clause-found
returns-in-Literal-clause-found t c =
    let context = c.args.context.now in
    let scope = c.args.scope.now in
    let literal = c.in-Literal.literal in
    let atom : Part = Atom (record { variables = scope; atom = literal.atom }) in
    IfOk-weaker c.check_atom.result _ _
    (λ _ h. Adds-list (PassedInside context scope) (Fails context) (sym (ap (condition_parts scope) c.in-Literal.is ∙ literal_parts scope literal))
    (Adds-single (PassedInside context scope) (Fails context) atom (Adds-every h)))
    c.check_atom.ensures

pub returns-in-Equality-clause-found : goal.returns-in-Equality-clause-found
returns-in-Equality-clause-found t c =
    let context = c.args.context.now in
    let scope = c.args.scope.now in
    let equality = c.in-Equality.equality in
    IfOk-weaker c.check_equality.result _ _
    (λ _ h. Adds-list (PassedInside context scope) (Fails context) (sym (ap (condition_parts scope) c.in-Equality.is ∙ equality_parts scope equality)) (all_inside context scope (map Side (sides scope equality)) h))
    c.check_equality.ensures

pub returns-after-loop-part : goal.returns-after-loop-part
returns-after-loop-part t c =
    let context = c.args.context.now in
    let scope = c.args.scope.now in
    let O = PassedInside context scope in
    let P = Fails context in
    let groups = c.in-Forall.groups in
    let body = c.in-Forall.body in
    let own : List Part = own_parts scope groups body in
    let rest : List Part = body_parts scope groups body in
    let new : List Mention = mentions_of (typed_variables groups) in
    let all : List Mention = variable_mentions scope ++ new in
    let inner : List Variable = scope ++ quantified_of groups in
    let within : c.enter.new.scope ≡ inner = c.in_ok-enter-in-Forall.ensures.ok ∙ ap (λ g. scope ++ quantified_of g) c.as_slice.ensures in
    let whole : take c.loop-part.part-index c.as_slice-part-items.result.now ≡ body =
    take_all c.loop-part.part-index c.as_slice-part-items.result.now c.loop-part-test.false ∙ c.as_slice-part-items.ensures in
    let over : (f : CheckFault) → AnyOf (PassedInside context inner) rest f → AnyOf P own f ⊎ AnyOf O rest f = λ f (x, at, again).
    inl (
      Different all,
      at_head (Different all) (Limited most_parameters new ∷ Limited most_variables all ∷ type_parts (typed_variables groups)),
      subst (λ ms. P (Different ms) f) (scope_mentions scope groups) again,
    ) in
    record {
      found = Adds-list O P (sym (ap (condition_parts scope) c.in-Forall.is))
          (Adds-within O P (own ++ rest) (condition_parts scope (Forall groups body)) (to_forall scope groups body) (from_forall scope groups body)
          (Adds-after O P (PassedInside context inner) own rest over
          (Adds-list O P (ap (λ g. quantifier_parts (record { around = scope; own = g })) c.as_slice.ensures) c.in_ok-enter-in-Forall.ensures.found)
          (subst (λ v. AddsAny (PassedInside context v) P (flat_map (condition_parts v) body) c.enter.new.found c.loop-part.found) within
          (Adds-list (PassedInside context c.enter.new.scope) P (ap (flat_map (condition_parts c.enter.new.scope)) whole) c.loop-part.invariant.found))));
      kept = c.truncate-in-Forall.ensures ∙ (λ i. take (c.len-around.ensures i) ((c.loop-part.invariant.kept ∙ within) i)) ∙ take_whole scope (quantified_of groups);
    }
