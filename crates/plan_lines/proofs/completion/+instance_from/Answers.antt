use Rattle.std.proofs.Common.{◌≡◌, ◌∙◌, ◌<◌, ℕ, Bool, List, MatchOption, Option, Some, ap, arith, false, get_or, is_some, length, set, subst, sym, true}
use Rattle.std.specs.List.{list_any}
use Rattle.htn_model.specs.Task.{objects_of}
use Rattle.plan_lines.specs.Allowed.{HasInstanceWith, IsFilled, IsInstanceWith, meets_so_far, ties, values_of}
use Rattle.plan_lines.proofs.Exchanged.{fails_so_far, none_at_all, none_found, none_given, none_more, opened_at, returned}
use Rattle.plan_lines.proofs.completion.+instance_from.Goals as goal
use Rattle.plan_lines.proofs.completion.+instance_from.Goals.{then-is_some-2-via-then-is_some-2, then-is_some-2-via-else-is_some-2+then-not-is_tied}
use Rattle.plan_lines.proofs.completion.+instance_from.Goals.{then-meets_so_far+in_ok-found+else-is_some-2+else-not-is_tied+in-Some-1, then-meets_so_far+in_ok-found+else-is_some-2+else-not-is_tied+in-None-1, else-meets_so_far}

both_ways : (b : Bool) → true ≡ b → b ≡ false → ⊥
both_ways b e h = let clash : true ≡ false = e ∙ h in absurd cc

pub returns-then-from-given : goal.returns-then-from-given
returns-then-from-given t c =
    let are : c.as_slice.result.now ≡ values_of c.args.given.now = c.as_slice.ensures ∙ c.in_ok-values.ensures in
    none_given c.args.task.now c.args.conditions.now c.args.given.now c.as_slice.result.now (subst (λ (n : ℕ). IsFilled c.args.given.now n) c.if-from-given.true c.requires.filled) are
    (sym c.if-is_instance.ensures)

pub returns-then-is_some-2 : goal.returns-then-is_some-2
returns-then-is_some-2 t c =
    let task = c.args.task.now in
    let s = c.args.conditions.now in
    let given = c.args.given.now in
    let p = c.args.from in
    let objects = c.objects_of-objects.result.now in
    let n = c.loop-object.object-index in
    let found = c.in_ok-found.found in
    let more : List (Option ℕ) = set given p (Some (get_or objects n 0)) in
    let within : p < length given = omega (arith, c.requires.from, c.if-from-given.false) in
    let are : objects ≡ objects_of task (get_or s.parameters p 0) = c.objects_of-objects.ensures.value ∙ ap (λ (l : List ℕ). objects_of task (get_or l p 0)) c.parameters.ensures in
    let at : c.deref.result.now ≡ more = c.deref.ensures.value ∙ ap (λ (l : List (Option ℕ)). set l p (Some (get_or objects n 0))) c.in_ok-more.ensures.items in
    let at_then : c.deref-then-meets_so_far.result.now ≡ more = c.deref-then-meets_so_far.ensures.value ∙ ap (λ (l : List (Option ℕ)). set l p (Some (get_or objects n 0))) c.in_ok-more.ensures.items in
    let so_far : meets_so_far task s more ≡ true = sym (c.if-meets_so_far.ensures ∙ ap (meets_so_far task s) at) in
    let holds : MatchOption found (HasInstanceWith task s more → ⊥) (IsInstanceWith task s more) =
    subst (λ (m : List (Option ℕ)). MatchOption found (HasInstanceWith task s m → ⊥) (IsInstanceWith task s m)) at_then c.in_ok-found.ensures in
    let untied : is_some found ≡ false → list_any (ties more p) s.equalities ≡ false =
    elim c.then-is_some-2.branch [
      | then-is_some-2-via-then-is_some-2 w ↦ (λ e. absurd (both_ways (is_some found) w.if-is_some-2.ensures e))
      | then-is_some-2-via-else-is_some-2+then-not-is_tied w ↦
          (λ e.
          let here : w.deref-else-is_some-2.result.now ≡ more = w.deref-else-is_some-2.ensures.value ∙ ap (λ (l : List (Option ℕ)). set l p (Some (get_or objects n 0))) c.in_ok-more.ensures.items in
          sym (w.if-not-is_tied.ensures ∙ (λ i. list_any (ties (here i) p) (w.equalities.ensures i))))
    ] in
    returned task s given p objects within (opened_at given p _ within c.if-is_some.ensures) n c.loop-object-test.true are so_far found holds untied

pub loop-object-preserved : goal.loop-object-preserved
loop-object-preserved t c =
    let task = c.args.task.now in
    let s = c.args.conditions.now in
    let given = c.args.given.now in
    let p = c.args.from in
    let objects = c.objects_of-objects.result.now in
    let n = c.loop-object.object-index in
    let more : List (Option ℕ) = set given p (Some (get_or objects n 0)) in
    let within : p < length given = omega (arith, c.requires.from, c.if-from-given.false) in
    let at : c.deref.result.now ≡ more = c.deref.ensures.value ∙ ap (λ (l : List (Option ℕ)). set l p (Some (get_or objects n 0))) c.in_ok-more.ensures.items in
    let none : HasInstanceWith task s more → ⊥ =
    elim c.if-meets_so_far.branch [
      | then-meets_so_far+in_ok-found+else-is_some-2+else-not-is_tied+in-Some-1 w ↦
          let here : w.deref-then-meets_so_far.result.now ≡ more = w.deref-then-meets_so_far.ensures.value ∙ ap (λ (l : List (Option ℕ)). set l p (Some (get_or objects n 0))) c.in_ok-more.ensures.items in
          none_found (HasInstanceWith task s more → ⊥) (IsInstanceWith task s more) w.in_ok-found.found
          (subst (λ (m : List (Option ℕ)). MatchOption w.in_ok-found.found (HasInstanceWith task s m → ⊥) (IsInstanceWith task s m)) here w.in_ok-found.ensures) (sym w.if-is_some-2.ensures)
      | then-meets_so_far+in_ok-found+else-is_some-2+else-not-is_tied+in-None-1 w ↦
          let here : w.deref-then-meets_so_far.result.now ≡ more = w.deref-then-meets_so_far.ensures.value ∙ ap (λ (l : List (Option ℕ)). set l p (Some (get_or objects n 0))) c.in_ok-more.ensures.items in
          none_found (HasInstanceWith task s more → ⊥) (IsInstanceWith task s more) w.in_ok-found.found
          (subst (λ (m : List (Option ℕ)). MatchOption w.in_ok-found.found (HasInstanceWith task s m → ⊥) (IsInstanceWith task s m)) here w.in_ok-found.ensures) (sym w.if-is_some-2.ensures)
      | else-meets_so_far w ↦ fails_so_far task s more (sym (w.if-meets_so_far.ensures ∙ ap (meets_so_far task s) at))
    ] in
    none_more task s given p objects within (opened_at given p _ within c.if-is_some.ensures) n c.loop-object.invariant none

pub returns : goal.returns
returns t c =
    let task = c.args.task.now in
    let s = c.args.conditions.now in
    let given = c.args.given.now in
    let p = c.args.from in
    let objects = c.objects_of-objects.result.now in
    let within : p < length given = omega (arith, c.requires.from, c.if-from-given.false) in
    let are : objects ≡ objects_of task (get_or s.parameters p 0) = c.objects_of-objects.ensures.value ∙ ap (λ (l : List ℕ). objects_of task (get_or l p 0)) c.parameters.ensures in
    none_at_all task s given p objects within (opened_at given p _ within c.if-is_some.ensures) c.requires.long are
    (λ values h is j below at. c.loop-object.invariant values h is j (omega (arith, below, c.loop-object-test.false)) at)
