use Rattle.std.proofs.Common.{subst, arith}
use Rattle.line_details.specs.Entries.{HasRoomIn}
use Rattle.line_details.proofs.room.all_have_room.Goals as goal

pub returns : goal.returns
returns g c = λ yes.
    let l = g.L.PlanLines.lines c.args.lines.now in
    let entries = c.args.entries.now in
    let root = c.args.root.now in
    let n = c.count-count.ensures in
    let a = c.actions.ensures in
    let b = c.actions-else-count-actions.ensures in
    let many = c.if-count-actions.false in
    let whole = c.if-actions-root.false in
    let first = c.requires.lines.first in
    record {
      many = omega arith;
      whole = omega arith;
      roots = subst (HasRoomIn l entries root) c.roots.ensures (c.in_ok-has_room_by.ensures c.if-not-branch.false);
      lines = c.in_ok-all.ensures yes;
    }
