use Rattle.std.proofs.Common.{◌≡◌, true, arith}
use Rattle.std.specs.Vec.Iter.{into_iter_items}
use Rattle.word_machine.specs.Desk.{PassState}
use Rattle.word_machine.specs.Workers.{IsWorked}
use Rattle.word_machine.proofs.Pieces.{brings_joined, all_pushed, all_rest}
use Rattle.word_machine.proofs.level_merge.part.Goals as goal

pub loop-worked-preserved : goal.loop-worked-preserved
loop-worked-preserved g c =
    let level = c.args.job.level in
    let was = c.loop-worked.invariant in
    let step = c.in-Some.ensures.steps in
    let has_successors = g.W.Expand.has_successors level.work.now in
    let finishes = g.W.Expand.finishes level.work.now in
    let one = all_rest (IsWorked has_successors finishes level.first level.last level.piece c.args.job.desk.now) c.in-Some.worked (into_iter_items c.next.new.self) (into_iter_items c.loop-worked.worked-iterator) step.0 was.left in
    let pushed = c.in_ok-push.ensures.items in record {
      left = one.1;
      counted = let more = step.1 in let longer = c.in_ok-push.ensures.len in let before = was.counted in omega arith;
      own = all_pushed (λ (p : PassState). p.desk ≡ c.args.job.desk.now) c.loop-worked.passes.items c.push.new.self.items c.in-Some.worked.pass pushed was.own one.0.desk_is;
      ended = all_pushed (λ (p : PassState). p.ended ≡ true) c.loop-worked.passes.items c.push.new.self.items c.in-Some.worked.pass pushed was.ended one.0.ended;
      brings = brings_joined has_successors finishes level.first level.last level.piece c.loop-worked.passes.items c.push.new.self.items c.in-Some.worked.pass c.loop-worked.pieces.items c.append.new.self.items c.in-Some.worked.pieces.items
          pushed c.in_ok-append.ensures.items was.brings one.0.brings;
    }
