use Rattle.std.proofs.Common.{◌++◌, codes}
use Rattle.picture_svg.proofs.Chains.{ended, follows}
use Rattle.picture_svg.proofs.style.say_letters.Goals as goal

pub returns : goal.returns
returns c =
    let o = c.args.out.now.items in
    let p0 = codes ".t text{fill:var(--ink);font:12px ui-monospace,SFMono-Regular,Menlo,Consolas,\n" in
    let p1 = codes "\"DejaVu Sans Mono\",\"Liberation Mono\",monospace}\n" in
    let p2 = codes ".t .n{font-weight:600}.t .m{fill:var(--dim);font-size:10.5px}" in
    let p3 = codes ".t .no{fill:var(--no);font-weight:700;text-anchor:end}\n" in
    follows c.extend_from_slice-4.result o c.extend_from_slice.new.self.items c.extend_from_slice-4.new.self.items p0 (p1 ++ (p2 ++ p3)) c.in_ok-extend_from_slice.ensures.items
    (follows c.extend_from_slice-4.result c.extend_from_slice.new.self.items c.extend_from_slice-2.new.self.items c.extend_from_slice-4.new.self.items p1 (p2 ++ p3) c.in_ok-extend_from_slice-2.ensures.items
    (follows c.extend_from_slice-4.result c.extend_from_slice-2.new.self.items c.extend_from_slice-3.new.self.items c.extend_from_slice-4.new.self.items p2 p3 c.in_ok-extend_from_slice-3.ensures.items
    (ended c.extend_from_slice-4.result c.extend_from_slice-3.new.self.items c.extend_from_slice-4.new.self.items p3 c.extend_from_slice-4.ensures.items)))
