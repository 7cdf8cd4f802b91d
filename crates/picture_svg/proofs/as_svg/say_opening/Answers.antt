use Rattle.std.proofs.Common.{◌++◌, codes}
use Rattle.std.specs.Fmt.{decimal}
use Rattle.picture_svg.specs.Shapes.{size}
use Rattle.picture_svg.proofs.Chains.{ended, follows}
use Rattle.picture_svg.proofs.as_svg.say_opening.Goals as goal

pub returns : goal.returns
returns c =
    let o = c.args.out.now.items in
    let p0 = codes "<svg xmlns=\"http://www.w3.org/2000/svg\" class=\"t\"" in
    let p1 = size c.args.width c.args.height in
    let p2 = codes " viewBox=\"0 0 " in
    let p3 = decimal c.args.width in
    let p4 = codes " " in
    let p5 = decimal c.args.height in
    let p6 = codes "\" role=\"img\">\n" in
    follows c.extend_from_slice-4.result o c.extend_from_slice.new.self.items c.extend_from_slice-4.new.self.items p0 (p1 ++ (p2 ++ (p3 ++ (p4 ++ (p5 ++ p6))))) c.in_ok-extend_from_slice.ensures.items
    (follows c.extend_from_slice-4.result c.extend_from_slice.new.self.items c.say_size.new.out.items c.extend_from_slice-4.new.self.items p1 (p2 ++ (p3 ++ (p4 ++ (p5 ++ p6)))) c.in_ok-say_size.ensures
    (follows c.extend_from_slice-4.result c.say_size.new.out.items c.extend_from_slice-2.new.self.items c.extend_from_slice-4.new.self.items p2 (p3 ++ (p4 ++ (p5 ++ p6))) c.in_ok-extend_from_slice-2.ensures.items
    (follows c.extend_from_slice-4.result c.extend_from_slice-2.new.self.items c.say_number.new.out.items c.extend_from_slice-4.new.self.items p3 (p4 ++ (p5 ++ p6)) c.in_ok-say_number.ensures
    (follows c.extend_from_slice-4.result c.say_number.new.out.items c.extend_from_slice-3.new.self.items c.extend_from_slice-4.new.self.items p4 (p5 ++ p6) c.in_ok-extend_from_slice-3.ensures.items
    (follows c.extend_from_slice-4.result c.extend_from_slice-3.new.self.items c.say_number-2.new.out.items c.extend_from_slice-4.new.self.items p5 p6 c.in_ok-say_number-2.ensures
    (ended c.extend_from_slice-4.result c.say_number-2.new.out.items c.extend_from_slice-4.new.self.items p6 c.extend_from_slice-4.ensures.items))))))
