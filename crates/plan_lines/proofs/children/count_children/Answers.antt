use Rattle.std.proofs.Common.{◌≡◌, ◌∙◌, ◌+◌, ◌++◌, ◌∷◌, [], ◌<◌, Bor, Global, List, Vec, ap, arith, false, get_or, length, map, set, sym, take, true, ℕ}
use Rattle.std.specs.List.{list_any}
use Rattle.htn_model.specs.Problem.{GroundTask, ground_task_eq}
use Rattle.htn_ground.specs.declared.ground_task.GroundTask as declared
use Rattle.plan_lines.proofs.Exchanged.{any_default}
use Rattle.plan_lines.proofs.Left.{counted_again, counted_first, fell, mapped_more, rose}
use Rattle.plan_lines.proofs.children.count_children.Goals as goal
use Rattle.plan_lines.proofs.children.count_children.Goals.{then-is_new+in_ok-push, else-is_new+in-Some}

pub loop-child-preserved : goal.loop-child-preserved
loop-child-preserved c =
    let i = c.loop-child.child-index in
    let children = c.args.children.now in
    let x = c.child-item.result in
    let key = c.in_ok-clone.field-0 in
    let tasks = c.loop-child.tasks.keys in
    let left = c.loop-child.counts.items in
    let seen : List GroundTask = map (λ (r : Bor declared.GroundTask). r.now) (take i children) in
    let same : x.now ≡ key = sym c.in_ok-clone.ensures.cases in
    let more : map (λ (r : Bor declared.GroundTask). r.now) (take (i + 1) children) ≡ seen ++ key ∷ [] =
    mapped_more (λ (r : Bor declared.GroundTask). r.now) children i x c.loop-child-test.true c.child-item.is ∙ ap (λ (k : GroundTask). seen ++ k ∷ []) same in
    elim c.if-is_new.branch [
      | then-is_new+in_ok-push w ↦
          let absent : list_any (ground_task_eq key) tasks ≡ false = fell _ _ c.in_ok-number.ensures.added w.if-is_new.true in
          let pushed : c.if-is_new.counts.items ≡ left ++ 1 ∷ [] = ap (λ (v : Vec ℕ Global). v.items) w.counts-is ∙ w.in_ok-push.ensures.items in
          let r = counted_first tasks left seen key c.loop-child.invariant.long c.loop-child.invariant.counts c.insert_full.new.self.keys c.if-is_new.counts.items
          (map (λ (r : Bor declared.GroundTask). r.now) (take (i + 1) children)) absent c.in_ok-number.ensures.keys pushed more in
          record { long = r.0; counts = r.1 }
      | else-is_new+in-Some w ↦
          let present : list_any (ground_task_eq key) tasks ≡ true = rose _ _ c.in_ok-number.ensures.added w.if-is_new.false in
          let n = c.in_ok-number.number in
          let written : c.if-is_new.counts.items ≡ set left n w.in-Some.count = ap (λ (v : Vec ℕ Global). v.items) w.counts-is in
          let value : n < length left → w.in-Some.count ≡ get_or left n 0 + 1 =
          λ below. (let read : w.index.result.now ≡ get_or left n 0 = w.index.ensures ∙ any_default left n w.index.result.now 0 below in omega (arith, read, w.in-Some.ensures)) in
          let r = counted_again tasks left seen key c.loop-child.invariant.long c.loop-child.invariant.counts c.insert_full.new.self.keys c.if-is_new.counts.items
          (map (λ (r : Bor declared.GroundTask). r.now) (take (i + 1) children)) n w.in-Some.count present c.in_ok-number.ensures.keys (sym c.in_ok-number.ensures.index) c.in_ok-number.ensures.within written value more in
          record { long = r.0; counts = r.1 }
    ]
