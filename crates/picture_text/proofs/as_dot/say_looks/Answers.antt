use Rattle.std.proofs.Common.{◌++◌, codes}
use Rattle.picture_text.specs.Dot.{layout, edge_style}
use Rattle.picture_text.proofs.Writes.{adds, last}
use Rattle.picture_text.proofs.as_dot.say_looks.Goals as goal

pub returns : goal.returns
returns c =
    let o = c.args.out.now.items in
    let nodes = codes "  node [shape=box, style=\"rounded,filled\", fillcolor=\"#eef2ff\", color=\"#c7d2fe\", " in
    let font = codes "fontname=\"Helvetica\", fontsize=11, height=0.3];\n" in
    let two = adds o c.extend_from_slice.new.self.items c.extend_from_slice-2.new.self.items layout nodes c.in_ok-extend_from_slice.ensures.items c.in_ok-extend_from_slice-2.ensures.items in
    let three = adds o c.extend_from_slice-2.new.self.items c.extend_from_slice-3.new.self.items (layout ++ nodes) font two c.in_ok-extend_from_slice-3.ensures.items in
    last c.extend_from_slice-4.result o c.extend_from_slice-3.new.self.items c.extend_from_slice-4.new.self.items (layout ++ nodes ++ font) edge_style three c.extend_from_slice-4.ensures.items
