use Rattle.std.proofs.Common.{◌++◌, codes, ap, ◌∙◌}
use Rattle.picture_svg.specs.Escape.{escaped}
use Rattle.picture_svg.specs.Style.{style}
use Rattle.picture_svg.specs.Svg.{opening, title}
use Rattle.picture_svg.proofs.Chains.{ended, follows}
use Rattle.picture_svg.proofs.as_svg.say_head.Goals as goal

pub returns : goal.returns
returns c =
    let o = c.args.out.now.items in
    let p0 = opening c.args.layout.now.width c.args.layout.now.height in
    let p1 = codes "<title>" in
    let p2 = escaped (title c.args.caption.now) in
    let p3 = codes "</title>\n" in
    let p4 = style in
    let p5 = codes "<rect class=\"bg\" width=\"100%\" height=\"100%\"/>\n" in
    follows c.extend_from_slice-3.result o c.say_opening.new.out.items c.extend_from_slice-3.new.self.items p0 (p1 ++ (p2 ++ (p3 ++ (p4 ++ p5)))) c.in_ok-say_opening.ensures
    (follows c.extend_from_slice-3.result c.say_opening.new.out.items c.extend_from_slice.new.self.items c.extend_from_slice-3.new.self.items p1 (p2 ++ (p3 ++ (p4 ++ p5))) c.in_ok-extend_from_slice.ensures.items
    (follows c.extend_from_slice-3.result c.extend_from_slice.new.self.items c.say_escaped.new.out.items c.extend_from_slice-3.new.self.items p2 (p3 ++ (p4 ++ p5)) (c.in_ok-say_escaped.ensures ∙ ap (λ t. c.extend_from_slice.new.self.items ++ escaped t) (c.as_slice.ensures.value ∙ c.in_ok-title.ensures))
    (follows c.extend_from_slice-3.result c.say_escaped.new.out.items c.extend_from_slice-2.new.self.items c.extend_from_slice-3.new.self.items p3 (p4 ++ p5) c.in_ok-extend_from_slice-2.ensures.items
    (follows c.extend_from_slice-3.result c.extend_from_slice-2.new.self.items c.say_style.new.out.items c.extend_from_slice-3.new.self.items p4 p5 c.in_ok-say_style.ensures
    (ended c.extend_from_slice-3.result c.say_style.new.out.items c.extend_from_slice-3.new.self.items p5 c.extend_from_slice-3.ensures.items)))))
