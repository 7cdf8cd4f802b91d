use Rattle.std.proofs.Common.{◌≡◌, ◌+◌, ◌∙◌, List, [], ap, arith, cond, length, map, subst, sym, ℕ}
use Rattle.std.specs.List.{All}
use Rattle.std.specs.List.Sorted.{IsStrictlySortedBy}
use Rattle.std.specs.Ordering.{nat_cmp}
use Rattle.std.proofs.lemmas.List.{length-map}
use Rattle.htn_model.specs.Schema.{EqualitySchema}
use Rattle.htn_model.specs.State.{State}
use Rattle.htn_model.specs.Task.{objects_of}
use Rattle.htn_model.specs.Instances.{domains_of, instances}
use Rattle.htn_ground.specs.declared.relation.Relation.{Relation}
use Rattle.htn_ground.specs.Counted.{fitted, fitting}
use Rattle.htn_ground.specs.Search.{AreLiteralsOf, AreRelationsOf, all_relations, all_relations_of, live_from, matches, narrowed, singles_of}
use Rattle.htn_ground.proofs.Classified.{instances_parts, length-narrowed, relations_bound}
use Rattle.htn_ground.proofs.instances.live_values.Goals as goal

pub returns-then-not-constants_hold-clause-found : goal.returns-then-not-constants_hold-clause-found
returns-then-not-constants_hold-clause-found c =
    let t = c.args.task.now in
    let s = c.args.conditions.now in
    let none : instances t s ≡ [] =
    instances_parts t s c.requires.bound ∙ ap (λ b. cond b (matches (narrowed (singles_of t s) 0 (domains_of t s.parameters)) (all_relations_of s)) []) (sym c.if-not-constants_hold.ensures) in
    λ n start. c.new.ensures.items ∙ sym (ap (λ (l : List (List ℕ)). map fitted (live_from t.initial_atoms c.args.literals.now n l)) none)

pub returns-then-not-constants_hold-clause-next : goal.returns-then-not-constants_hold-clause-next
returns-then-not-constants_hold-clause-next c =
    let t = c.args.task.now in
    let s = c.args.conditions.now in
    let none : instances t s ≡ [] =
    instances_parts t s c.requires.bound ∙ ap (λ b. cond b (matches (narrowed (singles_of t s) 0 (domains_of t s.parameters)) (all_relations_of s)) []) (sym c.if-not-constants_hold.ensures) in
    let zero_long : length (instances t s) ≡ 0 = ap (λ (l : List (List ℕ)). length l) none in
    λ n start. let e : n ≡ n + length (instances t s) = omega (arith, zero_long) in start ∙ ap fitting e

pub live_assignments-requires : goal.live_assignments-requires
live_assignments-requires c =
    let t = c.args.task.now in
    let s = c.args.conditions.now in
    let long : length s.parameters ≡ length c.deref.result.now =
    sym (ap (λ (l : List (List ℕ)). length l) (c.deref.ensures.value ∙ c.in_ok-lists.ensures.lists)
    ∙ length-narrowed (singles_of t s) 0 (domains_of t s.parameters) ∙ length-map s.parameters (objects_of t)) in
    let related : c.deref-2.result.now ≡ all_relations s.equalities =
    c.deref-2.ensures.value ∙ c.in_ok-relations.ensures ∙ ap (λ (es : List EqualitySchema). all_relations es) c.equalities.ensures in
    record {
      relations =
          subst (λ (rs : List Relation). AreRelationsOf rs (length c.deref.result.now)) (sym related)
          (subst (λ (n : ℕ). AreRelationsOf (all_relations s.equalities) n) long (relations_bound (length s.parameters) s.equalities c.requires.bound.equalities));
      literals = subst (λ (n : ℕ). AreLiteralsOf c.args.literals.now n) long c.requires.literals;
      ascending = subst (λ (ls : List (List ℕ)). All (IsStrictlySortedBy nat_cmp) ls) (sym c.deref.ensures.value) c.in_ok-lists.ensures.ascending;
    }

pub returns-clause-found : goal.returns-clause-found
returns-clause-found c =
    let t = c.args.task.now in
    let s = c.args.conditions.now in
    let ls = c.args.literals.now in
    let related : c.deref-2.result.now ≡ all_relations s.equalities =
    c.deref-2.ensures.value ∙ c.in_ok-relations.ensures ∙ ap (λ (es : List EqualitySchema). all_relations es) c.equalities.ensures in
    λ n start.
    c.in_ok-found.ensures.found n start
    ∙ ap (λ (state : State). map fitted (live_from state ls n (matches c.deref.result.now c.deref-2.result.now))) c.initial_atoms.ensures.value
    ∙ (λ i. map fitted (live_from t.initial_atoms ls n (matches ((c.deref.ensures.value ∙ c.in_ok-lists.ensures.lists) i) (related i))))
    ∙ ap (λ b. map fitted (live_from t.initial_atoms ls n (cond b (matches (narrowed (singles_of t s) 0 (domains_of t s.parameters)) (all_relations_of s)) []))) c.if-not-constants_hold.ensures
    ∙ ap (λ (l : List (List ℕ)). map fitted (live_from t.initial_atoms ls n l)) (sym (instances_parts t s c.requires.bound))

pub returns-clause-next : goal.returns-clause-next
returns-clause-next c =
    let t = c.args.task.now in
    let s = c.args.conditions.now in
    let related : c.deref-2.result.now ≡ all_relations s.equalities =
    c.deref-2.ensures.value ∙ c.in_ok-relations.ensures ∙ ap (λ (es : List EqualitySchema). all_relations es) c.equalities.ensures in
    λ n start.
    c.in_ok-found.ensures.next n start
    ∙ (λ i. fitting (n + length (matches ((c.deref.ensures.value ∙ c.in_ok-lists.ensures.lists) i) (related i))))
    ∙ ap (λ b. fitting (n + length (cond b (matches (narrowed (singles_of t s) 0 (domains_of t s.parameters)) (all_relations_of s)) []))) c.if-not-constants_hold.ensures
    ∙ ap (λ (l : List (List ℕ)). fitting (n + length l)) (sym (instances_parts t s c.requires.bound))
