use Rattle.std.proofs.Common.{◌≡◌, ◌+◌, ◌∙◌, IfNone, List, [], ap, arith, cond, length, slice_get, subst, sym, ℕ}
use Rattle.std.specs.List.{All}
use Rattle.std.specs.List.Sorted.{IsStrictlySortedBy}
use Rattle.std.specs.Ordering.{nat_cmp}
use Rattle.std.proofs.lemmas.List.{length-map}
use Rattle.htn_model.specs.Schema.{EqualitySchema}
use Rattle.htn_model.specs.Task.{objects_of}
use Rattle.htn_model.specs.Instances.{domains_of, instances}
use Rattle.htn_ground.specs.declared.relation.Relation.{Relation}
use Rattle.htn_ground.specs.Search.{AreRelationsOf, all_relations, all_relations_of, matches, narrowed, singles_of}
use Rattle.htn_ground.proofs.Classified.{instances_parts, length-narrowed, relations_bound}
use Rattle.htn_ground.proofs.instances.values_at.Goals as goal

pub returns-then-not-constants_hold-clause-found : goal.returns-then-not-constants_hold-clause-found
returns-then-not-constants_hold-clause-found c =
    let t = c.args.task.now in
    let s = c.args.conditions.now in
    let none : instances t s ≡ [] =
    instances_parts t s c.requires ∙ ap (λ b. cond b (matches (narrowed (singles_of t s) 0 (domains_of t s.parameters)) (all_relations_of s)) []) (sym c.if-not-constants_hold.ensures) in
    ap (λ (l : List (List ℕ)). slice_get l c.args.number.now) (sym none)

pub returns-then-not-constants_hold-clause-past : goal.returns-then-not-constants_hold-clause-past
returns-then-not-constants_hold-clause-past c =
    let t = c.args.task.now in
    let s = c.args.conditions.now in
    let none : instances t s ≡ [] =
    instances_parts t s c.requires ∙ ap (λ b. cond b (matches (narrowed (singles_of t s) 0 (domains_of t s.parameters)) (all_relations_of s)) []) (sym c.if-not-constants_hold.ensures) in
    omega (arith, ap (λ (l : List (List ℕ)). length l) none)

pub assignment_at-requires : goal.assignment_at-requires
assignment_at-requires c =
    let t = c.args.task.now in
    let s = c.args.conditions.now in
    let long : length s.parameters ≡ length c.deref.result.now =
    sym (ap (λ (l : List (List ℕ)). length l) (c.deref.ensures.value ∙ c.in_ok-lists.ensures.lists)
    ∙ length-narrowed (singles_of t s) 0 (domains_of t s.parameters) ∙ length-map s.parameters (objects_of t)) in
    let related : c.deref-2.result.now ≡ all_relations s.equalities =
    c.deref-2.ensures.value ∙ c.in_ok-relations.ensures ∙ ap (λ (es : List EqualitySchema). all_relations es) c.equalities.ensures in
    record {
      relations =
          subst (λ (rs : List Relation). AreRelationsOf rs (length c.deref.result.now)) (sym related)
          (subst (λ (n : ℕ). AreRelationsOf (all_relations s.equalities) n) long (relations_bound (length s.parameters) s.equalities c.requires.equalities));
      ascending = subst (λ (ls : List (List ℕ)). All (IsStrictlySortedBy nat_cmp) ls) (sym c.deref.ensures.value) c.in_ok-lists.ensures.ascending;
    }

pub returns-clause-found : goal.returns-clause-found
returns-clause-found c =
    let t = c.args.task.now in
    let s = c.args.conditions.now in
    let related : c.deref-2.result.now ≡ all_relations s.equalities =
    c.deref-2.ensures.value ∙ c.in_ok-relations.ensures ∙ ap (λ (es : List EqualitySchema). all_relations es) c.equalities.ensures in
    c.in_ok-values.ensures.found
    ∙ (λ i. slice_get (matches ((c.deref.ensures.value ∙ c.in_ok-lists.ensures.lists) i) (related i)) c.args.number.now)
    ∙ ap (λ b. slice_get (cond b (matches (narrowed (singles_of t s) 0 (domains_of t s.parameters)) (all_relations_of s)) []) c.args.number.now) c.if-not-constants_hold.ensures
    ∙ ap (λ (l : List (List ℕ)). slice_get l c.args.number.now) (sym (instances_parts t s c.requires))

pub returns-clause-past : goal.returns-clause-past
returns-clause-past c =
    let t = c.args.task.now in
    let s = c.args.conditions.now in
    let related : c.deref-2.result.now ≡ all_relations s.equalities =
    c.deref-2.ensures.value ∙ c.in_ok-relations.ensures ∙ ap (λ (es : List EqualitySchema). all_relations es) c.equalities.ensures in
    let whole : matches c.deref.result.now c.deref-2.result.now ≡ instances t s =
    (λ i. matches ((c.deref.ensures.value ∙ c.in_ok-lists.ensures.lists) i) (related i))
    ∙ ap (λ b. cond b (matches (narrowed (singles_of t s) 0 (domains_of t s.parameters)) (all_relations_of s)) []) c.if-not-constants_hold.ensures
    ∙ sym (instances_parts t s c.requires) in
    subst (λ (l : List (List ℕ)). IfNone c.in_ok-values.values (c.args.number.now ≡ length l + c.assignment_at.new.number)) whole c.in_ok-values.ensures.past
