use Rattle.std.proofs.Common.{◌≡◌, ◌∙◌, ◌++◌, ◌∷◌, [], ap, sym}
use Rattle.htn_model.specs.Exhaustion.{is_dead}
use Rattle.htn_model.specs.Grounding.{problem_of}
use Rattle.htn_model.specs.Instance.{Instance}
use Rattle.htn_model.specs.Instances.{method_instance}
use Rattle.htn_ground.proofs.Numbered.{dead_passed, live_kept}
use Rattle.htn_ground.proofs.methods.push_live_instances.Goals as goal

pub loop-rank-preserved-then-is_dead : goal.loop-rank-preserved-then-is_dead
loop-rank-preserved-then-is_dead c =
    let t = c.args.task.now in
    let m = c.args.method.now in
    let number = c.args.number in
    let p = c.loop-rank-item.result in
    let made : c.in_ok-instance.instance ≡ method_instance t number m p.1 = c.in_ok-instance.ensures ∙ ap (method_instance t number m) c.in_ok-clone.ensures.cases in
    λ xs are.
    dead_passed t number m c.deref-rank-items.result.now xs c.loop-rank.rank-index p c.args.found.now.items c.loop-rank.found.items c.loop-rank-test.true c.loop-rank-item.is are
    (sym (c.if-is_dead.ensures ∙ ap (λ (i : Instance). is_dead (problem_of t) i.network) made)) (c.loop-rank.invariant xs are)

pub loop-rank-preserved : goal.loop-rank-preserved
loop-rank-preserved c =
    let t = c.args.task.now in
    let m = c.args.method.now in
    let number = c.args.number in
    let p = c.loop-rank-item.result in
    let made : c.in_ok-instance.instance ≡ method_instance t number m p.1 = c.in_ok-instance.ensures ∙ ap (method_instance t number m) c.in_ok-clone.ensures.cases in
    λ xs are.
    live_kept t number m c.deref-rank-items.result.now xs c.loop-rank.rank-index p c.args.found.now.items c.loop-rank.found.items c.push.new.self.items
    c.loop-rank-test.true c.loop-rank-item.is are
    (sym (c.if-is_dead.ensures ∙ ap (λ (i : Instance). is_dead (problem_of t) i.network) made)) (c.loop-rank.invariant xs are)
    (c.in_ok-push.ensures.items ∙ ap (λ (i : Instance). c.loop-rank.found.items ++ (p.0, i) ∷ []) made)
