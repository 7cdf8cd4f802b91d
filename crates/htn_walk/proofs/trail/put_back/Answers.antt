use Rattle.std.proofs.Common.{◌≡◌, ◌-◌, length, arith}
use Rattle.htn_walk.proofs.Moves.{put_back}
use Rattle.htn_walk.proofs.trail.put_back.Goals as goal

pub returns : goal.returns
returns c = λ numbers.
    let left = c.take_out.new.trees.items in
    let at = c.len.result - c.args.last.position in
    let is : at ≡ length left - c.args.last.position = omega (arith, c.len.ensures) in
    put_back numbers c.args.trees.now.items c.in_ok-children.children.items left c.insert.new.self.items _ c.args.last at
    c.requires c.in_ok-children.ensures.taken c.in_ok-children.ensures.left is c.in_ok-insert.ensures.items (c.over.ensures numbers)
