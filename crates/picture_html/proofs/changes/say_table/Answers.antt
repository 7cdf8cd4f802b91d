use Rattle.std.proofs.Common.{◌++◌, ◌∙◌, ap, ap₂, codes}
use Rattle.picture_text.proofs.Writes.{adds}
use Rattle.picture_html.specs.Changes.{action_rows, start_row}
use Rattle.picture_html.proofs.changes.say_table.Goals as goal

pub returns : goal.returns
returns c =
    let o = c.args.out.now.items in
    let file = c.args.file.now in
    let run = c.args.run.now in
    let p0 = codes "<h2>Run</h2>\n<div class=\"run\">\n<table>\n<tr><th></th><th>action</th>" in
    let p1 = codes "<th>becomes true</th><th>becomes false</th></tr>\n" in
    let p2 = start_row run.start.items in
    let p3 = action_rows 0 file.actions run.changes.items in
    let p4 = codes "</table>\n</div>\n" in
    let n0 = c.extend_from_slice.new.self.items in
    let n1 = c.extend_from_slice-2.new.self.items in
    let n2 = c.say_start.new.out.items in
    let n3 = c.say_actions.new.out.items in
    let m = c.extend_from_slice-3.new.self.items in
    adds o n0 m p0 (p1 ++ (p2 ++ (p3 ++ p4))) c.in_ok-extend_from_slice.ensures.items
    (adds n0 n1 m p1 (p2 ++ (p3 ++ p4)) c.in_ok-extend_from_slice-2.ensures.items
    (adds n1 n2 m p2 (p3 ++ p4) (c.in_ok-say_start.ensures ∙ ap (λ facts. n1 ++ start_row facts) c.as_slice.ensures.value)
    (adds n2 n3 m p3 p4
    (c.in_ok-say_actions.ensures ∙ ap₂ (λ lines changes. n2 ++ action_rows 0 lines changes) c.actions.ensures.value c.as_slice-2.ensures.value)
    c.in_ok-extend_from_slice-3.ensures.items)))
