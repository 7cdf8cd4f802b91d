use Rattle.std.proofs.Common.{◌++◌, codes}
use Rattle.std.specs.List.{flat_map}
use Rattle.picture_text.proofs.Writes.{adds}
use Rattle.picture_html.specs.Changes.{fact}
use Rattle.picture_html.proofs.changes.say_change.Goals as goal

pub returns : goal.returns
returns c =
    let o = c.args.out.now.items in
    let p0 = codes "<td class=\"add\">" in
    let p1 = flat_map fact c.args.added.now in
    let p2 = codes "</td><td class=\"del\">" in
    let p3 = flat_map fact c.args.deleted.now in
    let p4 = codes "</td></tr>\n" in
    let n0 = c.extend_from_slice.new.self.items in
    let n1 = c.say_facts.new.out.items in
    let n2 = c.extend_from_slice-2.new.self.items in
    let n3 = c.say_facts-2.new.out.items in
    let m = c.extend_from_slice-3.new.self.items in
    adds o n0 m p0 (p1 ++ (p2 ++ (p3 ++ p4))) c.in_ok-extend_from_slice.ensures.items
    (adds n0 n1 m p1 (p2 ++ (p3 ++ p4)) c.in_ok-say_facts.ensures
    (adds n1 n2 m p2 (p3 ++ p4) c.in_ok-extend_from_slice-2.ensures.items
    (adds n2 n3 m p3 p4 c.in_ok-say_facts-2.ensures c.in_ok-extend_from_slice-3.ensures.items)))
