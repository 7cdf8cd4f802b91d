use Rattle.std.proofs.Common.{◌++◌, ◌∙◌, ap₂, codes}
use Rattle.picture_text.proofs.Writes.{adds}
use Rattle.picture_html.specs.Changes.{change}
use Rattle.picture_html.specs.Label.{between, name_text}
use Rattle.picture_html.proofs.changes.say_action.Goals as goal

pub returns : goal.returns
returns c =
    let o = c.args.out.now.items in
    let line = c.args.line.now in
    let p0 = between (codes "<tr><td>") c.args.position (codes "</td><td>") in
    let p1 = name_text line.name line.arguments in
    let p2 = codes "</td>" in
    let p3 = change c.args.change.now.added.items c.args.change.now.deleted.items in
    let n0 = c.say_between.new.out.items in
    let n1 = c.say_name.new.out.items in
    let n2 = c.extend_from_slice.new.self.items in
    let m = c.say_change.new.out.items in
    adds o n0 m p0 (p1 ++ (p2 ++ p3)) c.in_ok-say_between.ensures
    (adds n0 n1 m p1 (p2 ++ p3) (c.in_ok-say_name.ensures ∙ ap₂ (λ name arguments. n0 ++ name_text name arguments) c.name.ensures c.arguments.ensures)
    (adds n1 n2 m p2 p3 c.in_ok-extend_from_slice.ensures.items
    (c.in_ok-say_change.ensures ∙ ap₂ (λ added deleted. n2 ++ change added deleted) c.as_slice.ensures.value c.as_slice-2.ensures.value)))
