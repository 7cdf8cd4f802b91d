use Rattle.std.proofs.Common.{◌++◌, codes, option_map}
use Rattle.picture_text.proofs.Writes.{adds}
use Rattle.picture_html.specs.Changes.{run}
use Rattle.picture_html.specs.Page.{tree}
use Rattle.picture_html.proofs.page.say_below.Goals as goal

pub returns : goal.returns
returns c =
    let o = c.args.out.now.items in
    let p0 = tree c.args.tree.now in
    let p1 = run c.args.file.now (option_map (λ r. r.now) c.args.remarks.now.run) in
    let p2 = codes "</main>\n</body>\n</html>\n" in
    let n0 = c.say_tree.new.out.items in
    let n1 = c.say_run.new.out.items in
    let m = c.extend_from_slice.new.self.items in
    adds o n0 m p0 (p1 ++ p2) c.in_ok-say_tree.ensures (adds n0 n1 m p1 p2 c.in_ok-say_run.ensures c.in_ok-extend_from_slice.ensures.items)
