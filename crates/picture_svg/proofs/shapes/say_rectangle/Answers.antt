use Rattle.std.proofs.Common.{◌++◌, codes}
use Rattle.picture_svg.specs.Shapes.{attribute, place, size}
use Rattle.picture_svg.proofs.Chains.{ended, follows}
use Rattle.picture_svg.proofs.shapes.say_rectangle.Goals as goal

pub returns : goal.returns
returns c =
    let o = c.args.out.now.items in
    let p0 = codes "<rect class=\"" in
    let p1 = c.args.class.now in
    let p2 = codes "\"" in
    let p3 = place c.args.area.x c.args.area.y in
    let p4 = size c.args.area.width c.args.area.height in
    let p5 = attribute (codes " rx=\"") c.args.radius in
    let p6 = codes "/>\n" in
    follows c.extend_from_slice-4.result o c.extend_from_slice.new.self.items c.extend_from_slice-4.new.self.items p0 (p1 ++ (p2 ++ (p3 ++ (p4 ++ (p5 ++ p6))))) c.in_ok-extend_from_slice.ensures.items
    (follows c.extend_from_slice-4.result c.extend_from_slice.new.self.items c.extend_from_slice-2.new.self.items c.extend_from_slice-4.new.self.items p1 (p2 ++ (p3 ++ (p4 ++ (p5 ++ p6)))) c.in_ok-extend_from_slice-2.ensures.items
    (follows c.extend_from_slice-4.result c.extend_from_slice-2.new.self.items c.extend_from_slice-3.new.self.items c.extend_from_slice-4.new.self.items p2 (p3 ++ (p4 ++ (p5 ++ p6))) c.in_ok-extend_from_slice-3.ensures.items
    (follows c.extend_from_slice-4.result c.extend_from_slice-3.new.self.items c.say_place.new.out.items c.extend_from_slice-4.new.self.items p3 (p4 ++ (p5 ++ p6)) c.in_ok-say_place.ensures
    (follows c.extend_from_slice-4.result c.say_place.new.out.items c.say_size.new.out.items c.extend_from_slice-4.new.self.items p4 (p5 ++ p6) c.in_ok-say_size.ensures
    (follows c.extend_from_slice-4.result c.say_size.new.out.items c.say_attribute.new.out.items c.extend_from_slice-4.new.self.items p5 p6 c.in_ok-say_attribute.ensures
    (ended c.extend_from_slice-4.result c.say_attribute.new.out.items c.extend_from_slice-4.new.self.items p6 c.extend_from_slice-4.ensures.items))))))
