use Rattle.std.proofs.Common.{◌++◌, codes, map, ap}
use Rattle.std.proofs.lemmas.Result.{IfOk-equal}
use Rattle.diagnostics.specs.Shown.{shown}
use Rattle.picture_text.specs.Dot.{quoted, layout, node_style, edge_style, head}
use Rattle.picture_text.proofs.Writes.{adds, last, seven}
use Rattle.picture_text.proofs.as_dot.say_head.Goals as goal

pub returns : goal.returns
returns c =
    let o = c.args.out.now.items in
    let title = quoted (map shown c.args.problem.now) in
    let begin = codes "digraph " in
    let brace = codes " {\n" in
    let looks = layout ++ (node_style ++ edge_style) in
    let root = codes "  root [label=" in
    let end = codes ", fillcolor=\"#ffffff\"];\n" in
    let two = adds o c.extend_from_slice.new.self.items c.say_quoted.new.out.items begin title c.in_ok-extend_from_slice.ensures.items c.in_ok-say_quoted.ensures in
    let three = adds o c.say_quoted.new.out.items c.extend_from_slice-2.new.self.items (begin ++ title) brace two c.in_ok-extend_from_slice-2.ensures.items in
    let four = adds o c.extend_from_slice-2.new.self.items c.say_looks.new.out.items (begin ++ title ++ brace) looks three c.in_ok-say_looks.ensures in
    let five = adds o c.say_looks.new.out.items c.extend_from_slice-3.new.self.items (begin ++ title ++ brace ++ looks) root four c.in_ok-extend_from_slice-3.ensures.items in
    let six = adds o c.extend_from_slice-3.new.self.items c.say_quoted-2.new.out.items (begin ++ title ++ brace ++ looks ++ root) title five c.in_ok-say_quoted-2.ensures in
    let all = last c.extend_from_slice-4.result o c.say_quoted-2.new.out.items c.extend_from_slice-4.new.self.items (begin ++ title ++ brace ++ looks ++ root ++ title) end six c.extend_from_slice-4.ensures.items in
    IfOk-equal c.extend_from_slice-4.result c.extend_from_slice-4.new.self.items (o ++ (begin ++ title ++ brace ++ looks ++ root ++ title ++ end)) (o ++ head (map shown c.args.problem.now)) all
    (ap (λ l. o ++ l) (seven begin title brace looks root title end))
