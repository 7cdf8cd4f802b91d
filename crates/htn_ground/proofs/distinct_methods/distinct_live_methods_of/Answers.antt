use Rattle.std.proofs.Common.{◌∙◌, List, ap, subst, sym, ℕ}
use Rattle.std.specs.List.{All, enumerate_from, filter, flat_map}
use Rattle.std.proofs.lemmas.List.{take_all}
use Rattle.htn_model.specs.Instance.{Instance}
use Rattle.htn_model.specs.Instances.{instances_of_method, method_instance}
use Rattle.htn_model.specs.Task.{MethodSchema}
use Rattle.htn_ground.specs.declared.fixed.FixedLiteral.{FixedLiteral}
use Rattle.htn_ground.specs.Distinct.{distinct, gathered, is_live}
use Rattle.htn_ground.specs.Fixed.{IsFixed}
use Rattle.htn_ground.proofs.Gathered.{distinct_more}
use Rattle.htn_ground.proofs.distinct_methods.distinct_live_methods_of.Goals as goal

pub distinct_values_for-requires-clause-fixed : goal.distinct_values_for-requires-clause-fixed
distinct_values_for-requires-clause-fixed c =
    let t = c.args.task.now in
    let m = c.method-item.result in
    subst (λ (ls : List FixedLiteral). All (IsFixed t m.precondition) ls) (sym c.deref.ensures.value)
    c.in_ok-literals.ensures

pub loop-place-preserved : goal.loop-place-preserved
loop-place-preserved c =
    let t = c.args.task.now in
    let g = c.args.goal.now in
    let m = c.method-item.result in
    let number = c.in_ok-number.number in
    distinct_more t g c.methods-method-items.result.now c.loop-place.place m number c.loop-place.found.keys c.insert_methods.new.found.keys c.loop-place-test.true c.method-item.is c.in_ok-number.ensures
    c.loop-place.invariant
    (c.in_ok-insert_methods.ensures
    ∙ ap (λ (l : List (List ℕ)). gathered (is_live t) (method_instance t number m) c.loop-place.found.keys l) c.deref-in-loop-place.ensures.value
    ∙ c.in_ok-values.ensures number c.loop-place.found.keys)

pub returns : goal.returns
returns c =
    let t = c.args.task.now in
    let g = c.args.goal.now in
    let all : List MethodSchema → List Instance =
    λ methods. distinct (filter (λ (i : Instance). is_live t i.network) (flat_map (λ (p : ℕ × MethodSchema). instances_of_method t g p.0 p.1) (enumerate_from 0 methods))) in
    c.in_ok-instances.ensures ∙ c.loop-place.invariant
    ∙ ap all (take_all c.loop-place.place c.methods-method-items.result.now c.loop-place-test.false ∙ c.methods-method-items.ensures.value)
