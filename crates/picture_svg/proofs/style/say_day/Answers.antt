use Rattle.std.proofs.Common.{codes}
use Rattle.picture_svg.proofs.Chains.{ended, follows}
use Rattle.picture_svg.proofs.style.say_day.Goals as goal

pub returns : goal.returns
returns c =
    let o = c.args.out.now.items in
    let p0 = codes "<style>\n.t{--bg:#fff;--ink:#1e293b;--dim:#64748b;--line:#cbd5e1;--task:#eef2ff;--task-line:#c7d2fe;\n" in
    let p1 = codes "--act:#ecfdf5;--act-line:#6ee7b7;--no:#047857;--bad:#dc2626;--bad-bg:#fef2f2}\n" in
    follows c.extend_from_slice-2.result o c.extend_from_slice.new.self.items c.extend_from_slice-2.new.self.items p0 p1 c.in_ok-extend_from_slice.ensures.items
    (ended c.extend_from_slice-2.result c.extend_from_slice.new.self.items c.extend_from_slice-2.new.self.items p1 c.extend_from_slice-2.ensures.items)
