use Rattle.std.proofs.Common.{◌≡◌, ◌∙◌, List, [], ap, cond, length, subst, sym, ℕ}
use Rattle.std.specs.List.{All}
use Rattle.std.specs.List.Sorted.{IsStrictlySortedBy}
use Rattle.std.specs.Ordering.{nat_cmp}
use Rattle.std.proofs.lemmas.List.{length-map}
use Rattle.htn_model.specs.Schema.{EqualitySchema}
use Rattle.htn_model.specs.State.{State}
use Rattle.htn_model.specs.Task.{objects_of}
use Rattle.htn_model.specs.Instances.{domains_of, instances}
use Rattle.htn_ground.specs.declared.relation.Relation.{Relation}
use Rattle.htn_ground.specs.Distinct.{gathered}
use Rattle.htn_ground.specs.Search.{AreRelationsOf, all_relations, all_relations_of, matches, narrowed, singles_of}
use Rattle.htn_ground.specs.Shown.{Ignores}
use Rattle.htn_ground.proofs.Classified.{instances_parts, length-narrowed, relations_bound}
use Rattle.htn_ground.proofs.instances.distinct_values.Goals as goal

pub returns-then-not-constants_hold : goal.returns-then-not-constants_hold
returns-then-not-constants_hold c =
    let t = c.args.task.now in
    let s = c.args.conditions.now in
    let none : instances t s ≡ [] =
    instances_parts t s c.requires.bound ∙ ap (λ b. cond b (matches (narrowed (singles_of t s) 0 (domains_of t s.parameters)) (all_relations_of s)) []) (sym c.if-not-constants_hold.ensures) in
    λ passes make ignores kept. ap (gathered passes make kept) (c.new.ensures.items ∙ sym none)

pub distinct_assignments-requires : goal.distinct_assignments-requires
distinct_assignments-requires c =
    let t = c.args.task.now in
    let s = c.args.conditions.now in
    let long : length s.parameters ≡ length c.deref.result.now =
    sym (ap (λ (l : List (List ℕ)). length l) c.deref.ensures.value ∙ c.in_ok-narrow_domains.ensures.long
    ∙ ap (λ (l : List (List ℕ)). length l) c.in_ok-lists.ensures.lists
    ∙ length-narrowed (singles_of t s) 0 (domains_of t s.parameters) ∙ length-map s.parameters (objects_of t)) in
    let related : c.deref-2.result.now ≡ all_relations s.equalities =
    c.deref-2.ensures.value ∙ c.in_ok-relations.ensures ∙ ap (λ (es : List EqualitySchema). all_relations es) c.equalities.ensures in
    record {
      relations =
          subst (λ (rs : List Relation). AreRelationsOf rs (length c.deref.result.now)) (sym related)
          (subst (λ (n : ℕ). AreRelationsOf (all_relations s.equalities) n) long (relations_bound (length s.parameters) s.equalities c.requires.bound.equalities));
      ascending = subst (λ (ls : List (List ℕ)). All (IsStrictlySortedBy nat_cmp) ls) (sym c.deref.ensures.value) c.in_ok-narrow_domains.ensures.ascending;
      long = c.requires.long ∙ long;
    }

pub returns : goal.returns
returns c =
    let t = c.args.task.now in
    let s = c.args.conditions.now in
    let related : c.deref-2.result.now ≡ all_relations s.equalities =
    c.deref-2.ensures.value ∙ c.in_ok-relations.ensures ∙ ap (λ (es : List EqualitySchema). all_relations es) c.equalities.ensures in
    λ passes make ignores kept.
    let here = subst (λ (state : State). Ignores state c.args.literals.now c.args.shown.now passes make) (sym c.initial_atoms-state.ensures.value) ignores in
    c.in_ok-found.ensures passes make here kept
    ∙ ap (λ (ds : List (List ℕ)). gathered passes make kept (matches ds c.deref-2.result.now)) c.deref.ensures.value
    ∙ c.in_ok-narrow_domains.ensures.narrows c.deref-2.result.now c.args.shown.now passes make here kept
    ∙ ap (gathered passes make kept)
    ((λ i. matches (c.in_ok-lists.ensures.lists i) (related i))
    ∙ ap (λ b. cond b (matches (narrowed (singles_of t s) 0 (domains_of t s.parameters)) (all_relations_of s)) []) c.if-not-constants_hold.ensures
    ∙ sym (instances_parts t s c.requires.bound))
