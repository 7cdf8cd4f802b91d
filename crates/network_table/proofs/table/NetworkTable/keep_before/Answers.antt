use Rattle.std.proofs.Common.{◌≡◌, ◌<◌, ◌∷◌, ◌-◌, ◌∙◌, suc, ap, arith, drop, get_or, length}
use Rattle.std.proofs.Math.Seq.{drop-cons}
use Rattle.network_table.specs.Networks.{numbered_at}
use Rattle.network_table.specs.Entries.{chain_before, chained}
use Rattle.network_table.proofs.Linking.{before_next}
use Rattle.network_table.proofs.Tables.{more_then}
use Rattle.network_table.proofs.table.NetworkTable.keep_before.Goals as goal

pub loop-at-preserved : goal.loop-at-preserved
loop-at-preserved c =
    let s = c.args.self.now in
    let t = c.loop-at.self in
    let u = c.keep_entry.new.self in
    let nodes = c.args.nodes.now in
    let k = c.loop-at.at - 1 in
    let inv = c.loop-at.invariant in
    let done = c.in_ok-number.ensures in
    let rest = numbered_at s c.args.rest in
    let low : k < length nodes = omega (arith, inv.bound, c.loop-at-test.true) in
    let next : c.loop-at.at ≡ suc k = omega (arith, c.loop-at-test.true) in
    let first = get_or nodes k 0 in
    let split : drop k nodes ≡ first ∷ drop (suc k) nodes = drop-cons nodes k 0 low in
    let below : numbered_at t c.loop-at.number ≡ chain_before (drop (suc k) nodes) rest = inv.number.1 ∙ ap (λ j. chain_before (drop j nodes) rest) next in
    record {
      bound = omega (arith, inv.bound);
      whole = done.whole;
      more = more_then s t u inv.more done.more;
      number = (done.number.0, done.number.1 ∙ ap (chained first) below ∙ before_next nodes k first rest split);
      sound = λ live old. done.sound live (inv.sound live old);
    }
