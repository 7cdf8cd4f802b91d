use Rattle.std.proofs.Common.{◌*◌, ◌++◌, codes, length, ap, ◌∙◌}
use Rattle.picture_svg.specs.Escape.{escaped}
use Rattle.picture_svg.specs.Shapes.{attribute}
use Rattle.picture_svg.proofs.Chains.{ended, follows}
use Rattle.picture_svg.proofs.shapes.say_words.Goals as goal

pub returns : goal.returns
returns c =
    let o = c.args.out.now.items in
    let p0 = attribute (codes " textLength=\"") (c.args.unit * length c.args.words.now) in
    let p1 = codes " lengthAdjust=\"spacingAndGlyphs\">" in
    let p2 = escaped c.args.words.now in
    let p3 = codes "</text>\n" in
    follows c.extend_from_slice-2.result o c.say_attribute.new.out.items c.extend_from_slice-2.new.self.items p0 (p1 ++ (p2 ++ p3)) (c.in_ok-say_attribute.ensures ∙ ap (λ n. o ++ attribute (codes " textLength=\"") n) c.in_ok-times.ensures)
    (follows c.extend_from_slice-2.result c.say_attribute.new.out.items c.extend_from_slice.new.self.items c.extend_from_slice-2.new.self.items p1 (p2 ++ p3) c.in_ok-extend_from_slice.ensures.items
    (follows c.extend_from_slice-2.result c.extend_from_slice.new.self.items c.say_escaped.new.out.items c.extend_from_slice-2.new.self.items p2 p3 c.in_ok-say_escaped.ensures
    (ended c.extend_from_slice-2.result c.say_escaped.new.out.items c.extend_from_slice-2.new.self.items p3 c.extend_from_slice-2.ensures.items)))
