use Rattle.std.proofs.Common.{◌≡◌, ◌∙◌, ◌+◌, ◌<◌, Bor, Global, List, Option, Some, Vec, ap, arith, get_or, length, map, set, subst, sym, ℕ}
use Rattle.htn_model.specs.Schema.{AtomSchema}
use Rattle.htn_model.specs.Task.{objects_of}
use Rattle.htn_ground.specs.declared.object_list.ObjectList.{ObjectList}
use Rattle.htn_task.specs.declared.term.AtomSchema as declared
use Rattle.plan_lines.specs.Allowed.{HasInstanceWith, IsInstanceWith, meets_so_far}
use Rattle.plan_lines.specs.Found.{AreAlike, AreFound, MayFit}
use Rattle.plan_lines.proofs.Exchanged.{fails_so_far, opened_at}
use Rattle.plan_lines.proofs.Gathering.{Tried, fit_more, found_last, match_some, object_there, tried_all, tried_more, tried_skip, with_fewer}
use Rattle.plan_lines.proofs.completing.+push_completions.Goals as goal
use Rattle.plan_lines.proofs.completing.+push_completions.Goals.{then-meets_so_far+in_ok-push_completions, else-meets_so_far}

abbrev at : Bor declared.AtomSchema → AtomSchema
at r = r.now

pub returns-in_ok-push : goal.returns-in_ok-push
returns-in_ok-push t c =
    let s = c.args.search.now in
    let given = c.args.given.now in
    found_last s.task.now s.conditions.now s.ever.now (map at s.atoms.now) given s.shown.now c.args.from c.args.found.now.items c.push.new.self.items c.in-Some.values c.if-from-given.true
    c.requires.filled
    (match_some (HasInstanceWith s.task.now s.conditions.now given → ⊥) (IsInstanceWith s.task.now s.conditions.now given) c.in_ok-values.field-0 c.in-Some.values c.in-Some.is c.in_ok-values.ensures)
    c.in_ok-push.ensures.items

pub loop-object-preserved : goal.loop-object-preserved
loop-object-preserved t c =
    let s = c.args.search.now in
    let task = s.task.now in
    let conditions = s.conditions.now in
    let h = s.ever.now in
    let atoms = map at s.atoms.now in
    let given = c.args.given.now in
    let p = c.args.from in
    let objects = c.objects_of-objects.result.now in
    let n = c.loop-object.object-index in
    let o = get_or objects n 0 in
    let more : List (Option ℕ) = set given p (Some o) in
    let within : p < length given = omega (arith, c.requires.from, c.if-from-given.false) in
    let none = opened_at given p _ within c.if-is_some.ensures in
    let Alike = AreAlike s.shown.now in
    let W : List ℕ → Type 0 = MayFit task conditions h atoms given in
    let At : List ℕ → ℕ → Type 0 = λ values j. get_or values p 0 ≡ get_or objects j 0 in
    let old = c.args.found.now.items in
    let mid = c.loop-object.found.items in
    elim c.if-meets_so_far.branch [
      | then-meets_so_far+in_ok-push_completions w ↦
          let here : w.deref-then-meets_so_far.result.now ≡ more =
          w.deref-then-meets_so_far.ensures.value ∙ ap (λ (l : List (Option ℕ)). set l p (Some o)) c.in_ok-more.ensures.items in
          subst (λ (v : Vec ObjectList Global). AreFound Alike (IsInstanceWith task conditions given) (Tried W At (n + 1)) old v.items) (sym w.found-is)
          (tried_more Alike (IsInstanceWith task conditions given) W At (IsInstanceWith task conditions more) (MayFit task conditions h atoms more) n old mid
          w.push_completions-then-meets_so_far.new.found.items c.loop-object.invariant
          (subst (λ (l : List (Option ℕ)). AreFound Alike (IsInstanceWith task conditions l) (MayFit task conditions h atoms l) mid w.push_completions-then-meets_so_far.new.found.items) here
          w.in_ok-push_completions.ensures) (λ values. with_fewer task conditions h atoms given p o values within none)
          (λ values fit is. fit_more task conditions h atoms given p o values within none fit is))
      | else-meets_so_far w ↦
          let here : c.deref.result.now ≡ more = c.deref.ensures.value ∙ ap (λ (l : List (Option ℕ)). set l p (Some o)) c.in_ok-more.ensures.items in
          subst (λ (v : Vec ObjectList Global). AreFound Alike (IsInstanceWith task conditions given) (Tried W At (n + 1)) old v.items) (sym w.found-is)
          (tried_skip Alike (IsInstanceWith task conditions given) W At n old mid c.loop-object.invariant
          (λ values fit is.
          fails_so_far task conditions more (sym (w.if-meets_so_far.ensures ∙ ap (meets_so_far task conditions) here))
          (values, (fit_more task conditions h atoms given p o values within none fit is).0)))
    ]

pub returns : goal.returns
returns t c =
    let s = c.args.search.now in
    let task = s.task.now in
    let conditions = s.conditions.now in
    let atoms = map at s.atoms.now in
    let given = c.args.given.now in
    let p = c.args.from in
    let objects = c.objects_of-objects.result.now in
    let within : p < length given = omega (arith, c.requires.from, c.if-from-given.false) in
    let are : objects ≡ objects_of task (get_or conditions.parameters p 0) = c.objects_of-objects.ensures.value ∙ ap (λ (l : List ℕ). objects_of task (get_or l p 0)) c.parameters.ensures in
    tried_all (AreAlike s.shown.now) (IsInstanceWith task conditions given) (MayFit task conditions s.ever.now atoms given) (λ values j. get_or values p 0 ≡ get_or objects j 0)
    c.loop-object.object-index c.args.found.now.items c.loop-object.found.items c.loop-object.invariant
    (λ values fit.
    let m = object_there task conditions s.ever.now atoms given p objects values c.requires.long within are fit in
    (m.0, omega (arith, m.1, c.loop-object-test.false), m.2))
