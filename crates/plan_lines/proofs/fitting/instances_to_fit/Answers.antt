use Rattle.std.proofs.Common.{◌≡◌, ◌∙◌, ◌+◌, Bor, Global, List, Some, Vec, ap, arith, bytes_eq, false, length, map, slice_get, subst, sym, true, ℕ}
use Rattle.std.proofs.lemmas.Option.{slice_get-get_or}
use Rattle.std.proofs.lemmas.Slice.Eq.{bytes_eq-Decides}
use Rattle.htn_model.specs.Instance.{Instance}
use Rattle.htn_model.specs.Problem.{Network}
use Rattle.htn_model.specs.Task.{MethodSchema, Task}
use Rattle.htn_ground.specs.declared.ground_task.GroundTask as declared
use Rattle.htn_ground.specs.declared.instance.Instance as instances
use Rattle.plan_lines.specs.Fitting.{AreToFit}
use Rattle.plan_lines.specs.Found.{AreValuesToFit, IsFor}
use Rattle.plan_lines.specs.Lines.{IsNamedInstance}
use Rattle.plan_lines.proofs.Listed.{FitSoFar, fit_all, fit_more, fit_other, method_networks}
use Rattle.plan_lines.proofs.fitting.instances_to_fit.Goals as goal
use Rattle.plan_lines.proofs.fitting.instances_to_fit.Goals.{then-eq+in_ok-number+in_ok-values+in_ok-push_instances, else-eq}

differ : true ≡ false → ⊥
differ e = cc

pub loop-place-preserved : goal.loop-place-preserved
loop-place-preserved c =
    let t = c.task-task.result.now in
    let h = c.args.ever.now in
    let g = c.args.goal.now in
    let children = map (λ (r : Bor declared.GroundTask). r.now) c.args.children.now in
    let tasks = c.in_ok-tasks.tasks in
    let left = c.in_ok-tasks.counts.items in
    let methods = c.methods-methods.result.now in
    let i = c.loop-place.place in
    let m = c.index-methods-place.result in
    let old = map (λ (k : Instance). k.network) c.loop-place.found.items in
    let at : slice_get t.methods i ≡ Some m =
    ap (λ (ms : List MethodSchema). slice_get ms i) (sym c.methods-methods.ensures.value) ∙ slice_get-get_or methods i m c.loop-place-test.true ∙ ap Some (sym c.index-methods-place.is) in
    let bytes : c.as_bytes.result.now ≡ m.name = c.as_bytes.ensures.value ∙ c.name.ensures in
    let word : c.as_bytes-in-loop-place.result.now ≡ c.args.method.now = c.as_bytes-in-loop-place.ensures in
    elim c.if-eq.branch [
      | then-eq+in_ok-number+in_ok-values+in_ok-push_instances w ↦
          let named : m.name ≡ c.args.method.now = sym bytes ∙ (bytes_eq-Decides c.as_bytes.result.now c.as_bytes-in-loop-place.result.now).0 (sym w.if-eq.ensures) ∙ word in
          let values = w.deref-then-eq.result.now in
          let fit : AreValuesToFit t h tasks left m.precondition m.network (IsFor t g m) values =
          subst (λ (l : List (List ℕ)). AreValuesToFit t h tasks left m.precondition m.network (IsFor t g m) l) (sym w.deref-then-eq.ensures.value)
          (subst (λ (l : List ℕ). AreValuesToFit t h tasks l m.precondition m.network (IsFor t g m) w.in_ok-values.values.items) w.deref.ensures.value w.in_ok-values.ensures) in
          subst (λ (v : Vec instances.Instance Global). FitSoFar t h g c.args.method.now children (map (λ (k : Instance). k.network) v.items) (i + 1)) (sym w.found-is)
          (subst (λ (l : List Network). FitSoFar t h g c.args.method.now children l (i + 1))
          (sym (method_networks t w.in_ok-number.number m c.loop-place.found.items w.push_instances.new.found.items values w.in_ok-push_instances.ensures))
          (fit_more t h g c.args.method.now children old i m tasks left values at named c.in_ok-tasks.ensures.counts fit c.loop-place.invariant))
      | else-eq w ↦
          subst (λ (v : Vec instances.Instance Global). FitSoFar t h g c.args.method.now children (map (λ (k : Instance). k.network) v.items) (i + 1)) (sym w.found-is)
          (fit_other t h g c.args.method.now children old i m at
          (λ named.
          let yes : bytes_eq c.as_bytes.result.now c.as_bytes-in-loop-place.result.now ≡ true =
          (bytes_eq-Decides c.as_bytes.result.now c.as_bytes-in-loop-place.result.now).1 (bytes ∙ named ∙ sym word) in
          differ (sym yes ∙ sym w.if-eq.ensures)) c.loop-place.invariant)
    ]

pub returns : goal.returns
returns c =
    let t = c.task-task.result.now in
    let children = map (λ (r : Bor declared.GroundTask). r.now) c.args.children.now in
    let networks = map (λ (k : Instance). k.network) c.loop-place.found.items in
    let long : length t.methods ≡ length c.methods-methods.result.now = ap (λ (l : List MethodSchema). length l) (sym c.methods-methods.ensures.value) in
    subst (λ (u : Task). AreToFit c.args.ever.now (IsNamedInstance u c.args.goal.now c.args.method.now) children networks) c.task-task.ensures
    (fit_all t c.args.ever.now c.args.goal.now c.args.method.now children networks c.loop-place.place (omega (arith, long, c.loop-place-test.false)) c.loop-place.invariant)
