use Rattle.std.proofs.Common.{◌≡◌, ◌∙◌, ◌++◌, ◌∷◌, ◌+◌, ◌<◌, ◌≤◌, [], List, ap, append-nil, arith, false, get_or, length, subst, sym, true, ℕ}
use Rattle.std.specs.List.{flat_map}
use Rattle.std.proofs.lemmas.List.{take_all}
use Rattle.htn_ground.specs.Candidates.{is_left_out}
use Rattle.htn_ground.specs.Distinct.{gathered}
use Rattle.htn_ground.specs.Search.{bound_relations_hold, completions, is_ruled_out_so_far}
use Rattle.htn_ground.specs.Shown.{StandsForAll}
use Rattle.htn_ground.proofs.Completions.{completions_leaf, completions_none, completions_step}
use Rattle.htn_ground.proofs.Counting.{popped}
use Rattle.htn_ground.proofs.Covered.{at_any, dead_none, grown, one_for_all, one_is_enough, skipped, some_all, some_longer, some_more}
use Rattle.htn_ground.proofs.Excluded.{left_out}
use Rattle.htn_ground.proofs.distinct.+complete_distinct.Goals as goal

pub returns-then-not-bound_relations_hold_of-clause-found :
    goal.returns-then-not-bound_relations_hold_of-clause-found
returns-then-not-bound_relations_hold_of-clause-found t c =
    let fails : bound_relations_hold c.args.relations.now c.args.values.now ≡ false = cc (c.if-not-bound_relations_hold_of.ensures, c.as_slice.ensures) in
    λ passes make ignores kept.
    ap (gathered passes make kept)
    (sym (append-nil c.args.found.now.items) ∙ ap (λ (l : List (List ℕ)). c.args.found.now.items ++ l) (sym (completions_none c.args.domains.now c.args.relations.now c.args.values.now fails)))

pub returns-then-branch-clause-found : goal.returns-then-branch-clause-found
returns-then-branch-clause-found t c =
    let dead : is_ruled_out_so_far c.args.state.now c.args.literals.now c.args.values.now ≡ true = cc (c.in_ok-is_ruled_out.ensures, c.as_slice-2.ensures, c.if-branch.true) in
    λ passes make ignores kept.
    dead_none c.args.state.now c.args.literals.now c.args.shown.now passes make ignores c.args.domains.now c.args.relations.now kept c.args.found.now.items c.args.values.now dead

pub returns-then-depth-domains-clause-found : goal.returns-then-depth-domains-clause-found
returns-then-depth-domains-clause-found t c =
    let values = c.args.values.now in
    let holds : bound_relations_hold c.args.relations.now values ≡ true = cc (c.if-not-bound_relations_hold_of.ensures, c.as_slice.ensures) in
    let long : length values ≡ length c.args.domains.now = sym c.len-depth.ensures ∙ c.if-depth-domains.true in
    λ passes make ignores kept.
    ap (gathered passes make kept)
    (c.in_ok-push.ensures.items
    ∙ ap (λ (v : List ℕ). c.args.found.now.items ++ v ∷ []) c.in_ok-clone.ensures.cases
    ∙ ap (λ (l : List (List ℕ)). c.args.found.now.items ++ l) (sym (completions_leaf c.args.domains.now c.args.relations.now values c.requires.relations long holds)))

pub returns-then-depth-domains-clause-some : goal.returns-then-depth-domains-clause-some
returns-then-depth-domains-clause-some t c =
    let values = c.args.values.now in
    let holds : bound_relations_hold c.args.relations.now values ≡ true = cc (c.if-not-bound_relations_hold_of.ensures, c.as_slice.ensures) in
    let long : length values ≡ length c.args.domains.now = sym c.len-depth.ensures ∙ c.if-depth-domains.true in
    let one : length (completions c.args.domains.now c.args.relations.now values) ≡ 1 = ap length (completions_leaf c.args.domains.now c.args.relations.now values c.requires.relations long holds) in
    λ _. omega (arith, one)

pub loop-place-preserved : goal.loop-place-preserved
loop-place-preserved t c =
    let state = c.args.state.now in
    let literals = c.args.literals.now in
    let shown = c.args.shown.now in
    let domains = c.args.domains.now in
    let relations = c.args.relations.now in
    let values = c.args.values.now in
    let objects = c.as_slice-objects.result.now in
    let start = c.args.found.now.items in
    let place = c.loop-place.place in
    let pieces : ℕ → List (List ℕ) = λ o. completions domains relations (values ++ o ∷ []) in
    let object = get_or objects place 0 in
    let inside : place < length objects = c.loop-place-test.true in
    let is : object ≡ get_or objects place object = at_any objects place 0 object inside in
    let pushed : c.push-else-next-place.new.self ≡ values ++ object ∷ [] = c.in_ok-push-2.ensures.ok ∙ ap (λ (v : List ℕ). v ++ object ∷ []) c.loop-place.invariant.1 in
    let more = c.in_ok-complete_distinct.ensures in (
      omega (arith, inside),
      popped values c.complete_distinct.new.values c.pop.new.self object (more.values ∙ pushed) c.pop.ensures,
      λ passes make ignores kept.
          grown state literals shown passes make ignores domains relations values objects place object kept start c.loop-place.found.items c.complete_distinct.new.found.items inside is
          (λ k. c.loop-place.invariant.2 passes make ignores k)
          (λ k. more.found passes make ignores k ∙ ap (λ (v : List ℕ). gathered passes make k (c.loop-place.found.items ++ completions domains relations v)) pushed),
      omega (arith, c.loop-place.invariant.3, more.grows),
      some_more pieces objects place object (length start) (length c.loop-place.found.items) (length c.complete_distinct.new.found.items) inside is c.loop-place.invariant.3 more.grows
          c.loop-place.invariant.4 (λ grew. subst (λ (v : List ℕ). 0 < length (completions domains relations v)) pushed (more.some grew)),
    )

pub loop-place-preserved-then-next-place : goal.loop-place-preserved-then-next-place
loop-place-preserved-then-next-place t c =
    let state = c.args.state.now in
    let literals = c.args.literals.now in
    let shown = c.args.shown.now in
    let domains = c.args.domains.now in
    let relations = c.args.relations.now in
    let values = c.args.values.now in
    let objects = c.as_slice-objects.result.now in
    let start = c.args.found.now.items in
    let place = c.loop-place.place in
    let pieces : ℕ → List (List ℕ) = λ o. completions domains relations (values ++ o ∷ []) in
    let next = c.in_ok-next.next in
    let same : c.as_slice-in-loop-place.result.now ≡ values = c.as_slice-in-loop-place.ensures ∙ c.loop-place.invariant.1 in
    let low : place ≤ next = omega (arith, c.if-next-place.true) in
    let dead : (k d : ℕ) → place ≤ k → k < next → is_ruled_out_so_far state literals (values ++ get_or objects k d ∷ []) ≡ true = λ k d late inside.
    left_out state literals c.args.candidates.now values (get_or objects k d) c.requires.candidates
    (ap (λ (v : List ℕ). is_left_out state c.args.candidates.now v (get_or objects k d)) (sym same) ∙ c.in_ok-next.ensures.left_out k d late inside) in (
      c.in_ok-next.ensures.within.1,
      c.loop-place.invariant.1,
      λ passes make ignores kept.
          c.loop-place.invariant.2 passes make ignores kept
          ∙ skipped state literals shown passes make ignores domains relations values objects place next kept start low c.in_ok-next.ensures.within.1 dead,
      c.loop-place.invariant.3,
      λ grew. some_longer pieces objects place next low (c.loop-place.invariant.4 grew),
    )

pub returns-then-enough-clause-found : goal.returns-then-enough-clause-found
returns-then-enough-clause-found t c =
    let state = c.args.state.now in
    let literals = c.args.literals.now in
    let shown = c.args.shown.now in
    let domains = c.args.domains.now in
    let relations = c.args.relations.now in
    let values = c.args.values.now in
    let objects = c.as_slice-objects.result.now in
    let start = c.args.found.now.items in
    let place = c.loop-place.place in
    let pieces : ℕ → List (List ℕ) = λ o. completions domains relations (values ++ o ∷ []) in
    let object = get_or objects place 0 in
    let inside : place < length objects = c.loop-place-test.true in
    let is : object ≡ get_or objects place object = at_any objects place 0 object inside in
    let pushed : c.push-else-next-place.new.self ≡ values ++ object ∷ [] = c.in_ok-push-2.ensures.ok ∙ ap (λ (v : List ℕ). v ++ object ∷ []) c.loop-place.invariant.1 in
    let more = c.in_ok-complete_distinct.ensures in
    let domain = c.index-domains-depth.result in
    let at : domain ≡ get_or domains (length values) domain = c.index-domains-depth.is ∙ ap (λ (n : ℕ). get_or domains n domain) c.len-depth.ensures in
    let below : length values < length domains = omega (arith, c.requires.small, c.len-depth.ensures, c.if-depth-domains.false) in
    let whole : flat_map pieces objects ≡ completions domains relations values = ap (flat_map pieces) c.as_slice-objects.ensures ∙ sym (completions_step domains relations values domain below at) in
    let same : c.as_slice-else-next-place.result.now ≡ values = c.as_slice-else-next-place.ensures ∙ c.loop-place.invariant.1 in
    let stands : StandsForAll relations shown values object = subst (λ (v : List ℕ). StandsForAll relations shown v object) same (c.is_enough-enough.ensures c.if-enough.true) in
    λ passes make ignores kept.
    grown state literals shown passes make ignores domains relations values objects place object kept start c.loop-place.found.items c.complete_distinct.new.found.items inside is
    (λ k. c.loop-place.invariant.2 passes make ignores k)
    (λ k. more.found passes make ignores k ∙ ap (λ (v : List ℕ). gathered passes make k (c.loop-place.found.items ++ completions domains relations v)) pushed)
    ∙ one_for_all state literals shown passes make ignores domains relations values stands.starts stands.hidden objects place object inside is stands.allowed kept start
    ∙ ap (λ (l : List (List ℕ)). gathered passes make kept (start ++ l)) whole

pub returns-then-enough-clause-some : goal.returns-then-enough-clause-some
returns-then-enough-clause-some t c =
    let state = c.args.state.now in
    let literals = c.args.literals.now in
    let shown = c.args.shown.now in
    let domains = c.args.domains.now in
    let relations = c.args.relations.now in
    let values = c.args.values.now in
    let objects = c.as_slice-objects.result.now in
    let start = c.args.found.now.items in
    let place = c.loop-place.place in
    let pieces : ℕ → List (List ℕ) = λ o. completions domains relations (values ++ o ∷ []) in
    let object = get_or objects place 0 in
    let inside : place < length objects = c.loop-place-test.true in
    let is : object ≡ get_or objects place object = at_any objects place 0 object inside in
    let pushed : c.push-else-next-place.new.self ≡ values ++ object ∷ [] = c.in_ok-push-2.ensures.ok ∙ ap (λ (v : List ℕ). v ++ object ∷ []) c.loop-place.invariant.1 in
    let more = c.in_ok-complete_distinct.ensures in
    let domain = c.index-domains-depth.result in
    let at : domain ≡ get_or domains (length values) domain = c.index-domains-depth.is ∙ ap (λ (n : ℕ). get_or domains n domain) c.len-depth.ensures in
    let below : length values < length domains = omega (arith, c.requires.small, c.len-depth.ensures, c.if-depth-domains.false) in
    let whole : flat_map pieces objects ≡ completions domains relations values = ap (flat_map pieces) c.as_slice-objects.ensures ∙ sym (completions_step domains relations values domain below at) in
    λ grew.
    subst (λ (l : List (List ℕ)). 0 < length l) whole
    (some_all pieces objects (place + 1)
    (some_more pieces objects place object (length start) (length c.loop-place.found.items) (length c.complete_distinct.new.found.items) inside is c.loop-place.invariant.3 more.grows
    c.loop-place.invariant.4 (λ grew. subst (λ (v : List ℕ). 0 < length (completions domains relations v)) pushed (more.some grew)) grew))

pub returns-then-len-start-clause-found : goal.returns-then-len-start-clause-found
returns-then-len-start-clause-found t c =
    let state = c.args.state.now in
    let literals = c.args.literals.now in
    let shown = c.args.shown.now in
    let domains = c.args.domains.now in
    let relations = c.args.relations.now in
    let values = c.args.values.now in
    let objects = c.as_slice-objects.result.now in
    let start = c.args.found.now.items in
    let place = c.loop-place.place in
    let pieces : ℕ → List (List ℕ) = λ o. completions domains relations (values ++ o ∷ []) in
    let object = get_or objects place 0 in
    let inside : place < length objects = c.loop-place-test.true in
    let is : object ≡ get_or objects place object = at_any objects place 0 object inside in
    let pushed : c.push-else-next-place.new.self ≡ values ++ object ∷ [] = c.in_ok-push-2.ensures.ok ∙ ap (λ (v : List ℕ). v ++ object ∷ []) c.loop-place.invariant.1 in
    let more = c.in_ok-complete_distinct.ensures in
    let domain = c.index-domains-depth.result in
    let at : domain ≡ get_or domains (length values) domain = c.index-domains-depth.is ∙ ap (λ (n : ℕ). get_or domains n domain) c.len-depth.ensures in
    let below : length values < length domains = omega (arith, c.requires.small, c.len-depth.ensures, c.if-depth-domains.false) in
    let whole : flat_map pieces objects ≡ completions domains relations values = ap (flat_map pieces) c.as_slice-objects.ensures ∙ sym (completions_step domains relations values domain below at) in
    let low : c.args.reach ≤ length values = omega (arith, c.len-depth.ensures) in
    let grew : length start < length c.complete_distinct.new.found.items = omega arith in
    let some = some_more pieces objects place object (length start) (length c.loop-place.found.items) (length c.complete_distinct.new.found.items) inside is c.loop-place.invariant.3 more.grows
    c.loop-place.invariant.4 (λ grew. subst (λ (v : List ℕ). 0 < length (completions domains relations v)) pushed (more.some grew)) grew in
    λ passes make ignores kept.
    grown state literals shown passes make ignores domains relations values objects place object kept start c.loop-place.found.items c.complete_distinct.new.found.items inside is
    (λ k. c.loop-place.invariant.2 passes make ignores k)
    (λ k. more.found passes make ignores k ∙ ap (λ (v : List ℕ). gathered passes make k (c.loop-place.found.items ++ completions domains relations v)) pushed)
    ∙ one_is_enough state literals shown passes make ignores domains relations values c.args.reach c.requires.reach low c.requires.long below objects (place + 1) (omega (arith, inside)) some kept start
    ∙ ap (λ (l : List (List ℕ)). gathered passes make kept (start ++ l)) whole

pub returns-then-len-start-clause-some : goal.returns-then-len-start-clause-some
returns-then-len-start-clause-some t c =
    let state = c.args.state.now in
    let literals = c.args.literals.now in
    let shown = c.args.shown.now in
    let domains = c.args.domains.now in
    let relations = c.args.relations.now in
    let values = c.args.values.now in
    let objects = c.as_slice-objects.result.now in
    let start = c.args.found.now.items in
    let place = c.loop-place.place in
    let pieces : ℕ → List (List ℕ) = λ o. completions domains relations (values ++ o ∷ []) in
    let object = get_or objects place 0 in
    let inside : place < length objects = c.loop-place-test.true in
    let is : object ≡ get_or objects place object = at_any objects place 0 object inside in
    let pushed : c.push-else-next-place.new.self ≡ values ++ object ∷ [] = c.in_ok-push-2.ensures.ok ∙ ap (λ (v : List ℕ). v ++ object ∷ []) c.loop-place.invariant.1 in
    let more = c.in_ok-complete_distinct.ensures in
    let domain = c.index-domains-depth.result in
    let at : domain ≡ get_or domains (length values) domain = c.index-domains-depth.is ∙ ap (λ (n : ℕ). get_or domains n domain) c.len-depth.ensures in
    let below : length values < length domains = omega (arith, c.requires.small, c.len-depth.ensures, c.if-depth-domains.false) in
    let whole : flat_map pieces objects ≡ completions domains relations values = ap (flat_map pieces) c.as_slice-objects.ensures ∙ sym (completions_step domains relations values domain below at) in
    λ grew.
    subst (λ (l : List (List ℕ)). 0 < length l) whole
    (some_all pieces objects (place + 1)
    (some_more pieces objects place object (length start) (length c.loop-place.found.items) (length c.complete_distinct.new.found.items) inside is c.loop-place.invariant.3 more.grows
    c.loop-place.invariant.4 (λ grew. subst (λ (v : List ℕ). 0 < length (completions domains relations v)) pushed (more.some grew)) grew))

pub returns-clause-found : goal.returns-clause-found
returns-clause-found t c =
    let state = c.args.state.now in
    let literals = c.args.literals.now in
    let shown = c.args.shown.now in
    let domains = c.args.domains.now in
    let relations = c.args.relations.now in
    let values = c.args.values.now in
    let objects = c.as_slice-objects.result.now in
    let start = c.args.found.now.items in
    let place = c.loop-place.place in
    let pieces : ℕ → List (List ℕ) = λ o. completions domains relations (values ++ o ∷ []) in
    let domain = c.index-domains-depth.result in
    let at : domain ≡ get_or domains (length values) domain = c.index-domains-depth.is ∙ ap (λ (n : ℕ). get_or domains n domain) c.len-depth.ensures in
    let below : length values < length domains = omega (arith, c.requires.small, c.len-depth.ensures, c.if-depth-domains.false) in
    let whole : flat_map pieces objects ≡ completions domains relations values = ap (flat_map pieces) c.as_slice-objects.ensures ∙ sym (completions_step domains relations values domain below at) in
    λ passes make ignores kept.
    c.loop-place.invariant.2 passes make ignores kept
    ∙ ap (λ (l : List ℕ). gathered passes make kept (start ++ flat_map pieces l)) (take_all place objects c.loop-place-test.false)
    ∙ ap (λ (l : List (List ℕ)). gathered passes make kept (start ++ l)) whole

pub returns-clause-some : goal.returns-clause-some
returns-clause-some t c =
    let state = c.args.state.now in
    let literals = c.args.literals.now in
    let shown = c.args.shown.now in
    let domains = c.args.domains.now in
    let relations = c.args.relations.now in
    let values = c.args.values.now in
    let objects = c.as_slice-objects.result.now in
    let start = c.args.found.now.items in
    let place = c.loop-place.place in
    let pieces : ℕ → List (List ℕ) = λ o. completions domains relations (values ++ o ∷ []) in
    let domain = c.index-domains-depth.result in
    let at : domain ≡ get_or domains (length values) domain = c.index-domains-depth.is ∙ ap (λ (n : ℕ). get_or domains n domain) c.len-depth.ensures in
    let below : length values < length domains = omega (arith, c.requires.small, c.len-depth.ensures, c.if-depth-domains.false) in
    let whole : flat_map pieces objects ≡ completions domains relations values = ap (flat_map pieces) c.as_slice-objects.ensures ∙ sym (completions_step domains relations values domain below at) in
    λ grew. subst (λ (l : List (List ℕ)). 0 < length l) whole (some_all pieces objects place (c.loop-place.invariant.4 grew))
