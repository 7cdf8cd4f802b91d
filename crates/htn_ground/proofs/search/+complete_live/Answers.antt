use Rattle.std.proofs.Common.{◌≡◌, ◌∙◌, sym, ap, true, false, List, ℕ, ◌++◌, ◌∷◌, [], ◌<◌, ◌+◌, length, get_or, arith, append-nil, drop, take, subst, refl, ◌≤◌, ◌-◌, Option, map}
use Rattle.std.specs.List.{flat_map}
use Rattle.std.specs.List.Sorted.{IsStrictlySortedBy}
use Rattle.std.specs.Ordering.{nat_cmp}
use Rattle.std.proofs.lemmas.List.{take_all}
use Rattle.htn_model.specs.Instances.{assignments}
use Rattle.htn_ground.specs.Counted.{fitted, fitting}
use Rattle.htn_ground.specs.Search.{bound_relations_hold, completions}
use Rattle.htn_ground.specs.Search.{is_ruled_out_so_far, live_from, AreLiteralsOf}
use Rattle.htn_ground.proofs.Completions.{completions_none, completions_leaf, completions_step}
use Rattle.htn_ground.proofs.Counting.{live_none, live_leaf, popped}
use Rattle.htn_ground.proofs.Fitting.{fitted_join, one_more, run_skipped}
use Rattle.htn_ground.specs.Candidates.{is_left_out}
use Rattle.htn_ground.proofs.Excluded.{left_out}
use Rattle.htn_ground.proofs.Skipped.{ascending_run}
use Rattle.htn_ground.proofs.search.+complete_live.Goals as goal

pub count_run-requires-clause-run : goal.count_run-requires-clause-run
count_run-requires-clause-run t c =
    ascending_run c.as_slice-objects.result.now c.loop-place.place c.in_ok-next.next
    (subst (IsStrictlySortedBy nat_cmp) (sym (c.as_slice-objects.ensures ∙ c.index-domains-depth.is)) (c.requires.ascending c.len-depth.result c.index-domains-depth.result (omega (arith, c.requires.small, c.len-depth.ensures, c.if-depth-domains.false))))

pub returns-then-not-bound_relations_hold_of-clause-found :
    goal.returns-then-not-bound_relations_hold_of-clause-found
returns-then-not-bound_relations_hold_of-clause-found t c =
    let fails : bound_relations_hold c.args.relations.now c.args.values.now ≡ false = cc (c.if-not-bound_relations_hold_of.ensures, c.as_slice.ensures) in
    λ first start.
    sym (append-nil c.args.found.now.items)
    ∙ ap (λ (l : List (List ℕ)). c.args.found.now.items ++ map fitted (live_from c.args.state.now c.args.literals.now first l)) (sym (completions_none c.args.domains.now c.args.relations.now c.args.values.now fails))

pub returns-then-not-bound_relations_hold_of-clause-number :
    goal.returns-then-not-bound_relations_hold_of-clause-number
returns-then-not-bound_relations_hold_of-clause-number t c =
    let fails : bound_relations_hold c.args.relations.now c.args.values.now ≡ false = cc (c.if-not-bound_relations_hold_of.ensures, c.as_slice.ensures) in
    let none : length (completions c.args.domains.now c.args.relations.now c.args.values.now) ≡ 0 = ap length (completions_none c.args.domains.now c.args.relations.now c.args.values.now fails) in
    λ first start. let e : first ≡ first + length (completions c.args.domains.now c.args.relations.now c.args.values.now) = omega (arith, none) in start ∙ ap fitting e

pub returns-then-branch-clause-found : goal.returns-then-branch-clause-found
returns-then-branch-clause-found t c =
    let dead : is_ruled_out_so_far c.args.state.now c.args.literals.now c.args.values.now ≡ true = cc (c.in_ok-is_ruled_out.ensures, c.as_slice-2.ensures, c.if-branch.true) in
    λ first start.
    sym (append-nil c.args.found.now.items)
    ∙ ap (λ (l : List (ℕ × List ℕ)). c.args.found.now.items ++ map fitted l)
    (sym (live_none c.args.state.now c.args.literals.now first c.args.relations.now c.args.values.now dead (assignments (drop (length c.args.values.now) c.args.domains.now))))

pub returns-then-depth-domains-clause-found : goal.returns-then-depth-domains-clause-found
returns-then-depth-domains-clause-found t c =
    let values = c.args.values.now in
    let holds : bound_relations_hold c.args.relations.now values ≡ true = cc (c.if-not-bound_relations_hold_of.ensures, c.as_slice.ensures) in
    let live : is_ruled_out_so_far c.args.state.now c.args.literals.now values ≡ false = cc (c.in_ok-is_ruled_out.ensures, c.as_slice-2.ensures, c.if-branch.false) in
    let long : length values ≡ length c.args.domains.now = sym c.len-depth.ensures ∙ c.if-depth-domains.true in
    let of : AreLiteralsOf c.args.literals.now (length values) = subst (λ (n : ℕ). AreLiteralsOf c.args.literals.now n) (sym long) c.requires.literals in
    λ first start.
    c.in_ok-push.ensures.items
    ∙ (λ i. c.args.found.now.items ++ (start i, c.in_ok-clone.ensures.cases i) ∷ [])
    ∙ ap (λ (l : List (ℕ × List ℕ)). c.args.found.now.items ++ map fitted l) (sym (live_leaf c.args.state.now c.args.literals.now first values of live))
    ∙ ap (λ (l : List (List ℕ)). c.args.found.now.items ++ map fitted (live_from c.args.state.now c.args.literals.now first l))
    (sym (completions_leaf c.args.domains.now c.args.relations.now values c.requires.relations long holds))

pub returns-then-depth-domains-clause-number : goal.returns-then-depth-domains-clause-number
returns-then-depth-domains-clause-number t c =
    let values = c.args.values.now in
    let holds : bound_relations_hold c.args.relations.now values ≡ true = cc (c.if-not-bound_relations_hold_of.ensures, c.as_slice.ensures) in
    let long : length values ≡ length c.args.domains.now = sym c.len-depth.ensures ∙ c.if-depth-domains.true in
    let one : length (completions c.args.domains.now c.args.relations.now values) ≡ 1 = ap length (completions_leaf c.args.domains.now c.args.relations.now values c.requires.relations long holds) in
    λ first start. c.sum-then-depth-domains.ensures first 1 start refl ∙ ap (λ (n : ℕ). fitting (first + n)) (sym one)

pub loop-place-preserved : goal.loop-place-preserved
loop-place-preserved t c =
    let values = c.args.values.now in
    let objects = c.as_slice-objects.result.now in
    let place = c.loop-place.place in
    let object = get_or objects place 0 in
    let pieces : ℕ → List (List ℕ) = λ o. completions c.args.domains.now c.args.relations.now (values ++ o ∷ []) in
    let pushed : c.push-else-next-place.new.self ≡ values ++ object ∷ [] = c.in_ok-push-2.ensures.ok ∙ ap (λ (v : List ℕ). v ++ object ∷ []) c.loop-place.invariant.1 in
    let more = c.in_ok-complete_live.ensures in
    let state = c.args.state.now in
    let literals = c.args.literals.now in
    let domains = c.args.domains.now in
    let relations = c.args.relations.now in (
      omega (arith, c.loop-place-test.true),
      popped values c.complete_live.new.values c.pop.new.self object (more.values ∙ pushed) c.pop.ensures,
      λ first start.
          let here = first + length (flat_map pieces (take place objects)) in
          let step = one_more state literals pieces objects place object first c.loop-place-test.true refl in
          fitted_join c.args.found.now.items c.loop-place.found.items c.complete_live.new.found.items _ _ _ (c.loop-place.invariant.2 first start)
          (more.found here (c.loop-place.invariant.3 first start)
          ∙ ap (λ (v : List ℕ). c.loop-place.found.items ++ map fitted (live_from state literals here (completions domains relations v))) pushed)
          step.0,
      λ first start.
          let here = first + length (flat_map pieces (take place objects)) in
          let step = one_more state literals pieces objects place object first c.loop-place-test.true refl in
          more.number here (c.loop-place.invariant.3 first start)
          ∙ ap (λ (v : List ℕ). fitting (here + length (completions domains relations v))) pushed
          ∙ ap fitting step.1,
    )

pub loop-place-preserved-then-next-place : goal.loop-place-preserved-then-next-place
loop-place-preserved-then-next-place t c =
    let state = c.args.state.now in
    let literals = c.args.literals.now in
    let domains = c.args.domains.now in
    let relations = c.args.relations.now in
    let values = c.args.values.now in
    let objects = c.as_slice-objects.result.now in
    let place = c.loop-place.place in
    let next = c.in_ok-next.next in
    let same : c.as_slice-in-loop-place.result.now ≡ values = c.as_slice-in-loop-place.ensures ∙ c.loop-place.invariant.1 in
    let dead : (k d : ℕ) → place ≤ k → k < next → is_ruled_out_so_far state literals (values ++ get_or objects k d ∷ []) ≡ true = λ k d late inside.
    left_out state literals c.args.candidates.now values (get_or objects k d) c.requires.candidates
    (ap (λ (v : List ℕ). is_left_out state c.args.candidates.now v (get_or objects k d)) (sym same) ∙ c.in_ok-next.ensures.left_out k d late inside) in
    let run = take (next - place) (drop place objects) in
    let counted : c.in_ok-skipped-2.skipped ≡ fitting (length (flat_map (λ (o : ℕ). completions domains relations (values ++ o ∷ [])) run)) =
    c.in_ok-skipped-2.ensures.count
    ∙ ap (λ (v : List ℕ). fitting (length (flat_map (λ (o : ℕ). completions domains relations (v ++ o ∷ [])) run))) c.loop-place.invariant.1 in
    let pieces : ℕ → List (List ℕ) = λ (o : ℕ). completions domains relations (values ++ o ∷ []) in
    let low : place ≤ next = omega (arith, c.if-next-place.true) in (
      c.in_ok-next.ensures.within.1,
      c.in_ok-skipped-2.ensures.values ∙ c.loop-place.invariant.1,
      λ first start.
          c.loop-place.invariant.2 first start
          ∙ ap (λ (l : List (ℕ × List ℕ)). c.args.found.now.items ++ map fitted l) (run_skipped state literals domains relations values objects place next first low c.in_ok-next.ensures.within.1 dead).0,
      λ first start.
          c.sum-then-next-place.ensures (first + length (flat_map pieces (take place objects))) (length (flat_map pieces run)) (c.loop-place.invariant.3 first start) counted
          ∙ ap fitting (run_skipped state literals domains relations values objects place next first low c.in_ok-next.ensures.within.1 dead).1,
    )

pub returns-clause-found : goal.returns-clause-found
returns-clause-found t c =
    let domains = c.args.domains.now in
    let relations = c.args.relations.now in
    let values = c.args.values.now in
    let domain = c.index-domains-depth.result in
    let here : domain ≡ get_or domains (length values) domain = c.index-domains-depth.is ∙ ap (λ (n : ℕ). get_or domains n domain) c.len-depth.ensures in
    let below : length values < length domains = omega (arith, c.requires.small, c.len-depth.ensures, c.if-depth-domains.false) in
    let pieces : ℕ → List (List ℕ) = λ object. completions domains relations (values ++ object ∷ []) in
    λ first start.
    let live : List (List ℕ) → List (Option ℕ × List ℕ) = λ l. c.args.found.now.items ++ map fitted (live_from c.args.state.now c.args.literals.now first l) in
    c.loop-place.invariant.2 first start
    ∙ ap (λ (l : List ℕ). live (flat_map pieces l))
    (take_all c.loop-place.place c.as_slice-objects.result.now c.loop-place-test.false ∙ c.as_slice-objects.ensures)
    ∙ ap live (sym (completions_step domains relations values domain below here))

pub returns-clause-number : goal.returns-clause-number
returns-clause-number t c =
    let domains = c.args.domains.now in
    let relations = c.args.relations.now in
    let values = c.args.values.now in
    let domain = c.index-domains-depth.result in
    let here : domain ≡ get_or domains (length values) domain = c.index-domains-depth.is ∙ ap (λ (n : ℕ). get_or domains n domain) c.len-depth.ensures in
    let below : length values < length domains = omega (arith, c.requires.small, c.len-depth.ensures, c.if-depth-domains.false) in
    let pieces : ℕ → List (List ℕ) = λ object. completions domains relations (values ++ object ∷ []) in
    λ first start.
    c.loop-place.invariant.3 first start
    ∙ ap (λ (l : List ℕ). fitting (first + length (flat_map pieces l)))
    (take_all c.loop-place.place c.as_slice-objects.result.now c.loop-place-test.false ∙ c.as_slice-objects.ensures)
    ∙ ap (λ (l : List (List ℕ)). fitting (first + length l)) (sym (completions_step domains relations values domain below here))
