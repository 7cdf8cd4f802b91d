use Rattle.std.proofs.Common.{◌++◌, codes, sym, ap, ◌∙◌}
use Rattle.std.specs.Prelude.{if◌then◌else◌}
use Rattle.picture_text.specs.SeenLine.{seen_line}
use Rattle.picture_svg.specs.Svg.{class_of}
use Rattle.picture_html.proofs.Chains.{ended, follows, reads}
use Rattle.picture_html.proofs.row.say_class.Goals as goal

pub returns-then-is_marked : goal.returns-then-is_marked
returns-then-is_marked c =
    let o = c.args.out.now.items in
    let n0 = c.extend_from_slice.new.self.items in
    let n1 = c.extend_from_slice-2.new.self.items in
    let m = c.extend_from_slice-then-is_marked.new.self.items in
    let r = c.extend_from_slice-then-is_marked.result in
    let p0 = codes " class=\"row " in
    let p1 = class_of c.args.is_marked (seen_line c.args.line) in
    let named = codes "\" id=\"marked\">" in
    let plain = codes "\">" in
    let p2 = if c.args.is_marked then named else plain in
    follows r o n0 m p0 (p1 ++ p2) c.in_ok-extend_from_slice.ensures.items
    (follows r n0 n1 m p1 p2 (c.in_ok-extend_from_slice-2.ensures.items ∙ ap (λ l. n0 ++ l) c.class_of.ensures)
    (reads r n1 m named p2 (ap (λ b. if b then named else plain) (sym c.if-is_marked.true)) (ended r n1 m named c.extend_from_slice-then-is_marked.ensures.items)))

pub returns-else-is_marked : goal.returns-else-is_marked
returns-else-is_marked c =
    let o = c.args.out.now.items in
    let n0 = c.extend_from_slice.new.self.items in
    let n1 = c.extend_from_slice-2.new.self.items in
    let m = c.extend_from_slice-else-is_marked.new.self.items in
    let r = c.extend_from_slice-else-is_marked.result in
    let p0 = codes " class=\"row " in
    let p1 = class_of c.args.is_marked (seen_line c.args.line) in
    let named = codes "\" id=\"marked\">" in
    let plain = codes "\">" in
    let p2 = if c.args.is_marked then named else plain in
    follows r o n0 m p0 (p1 ++ p2) c.in_ok-extend_from_slice.ensures.items
    (follows r n0 n1 m p1 p2 (c.in_ok-extend_from_slice-2.ensures.items ∙ ap (λ l. n0 ++ l) c.class_of.ensures)
    (reads r n1 m plain p2 (ap (λ b. if b then named else plain) (sym c.if-is_marked.false)) (ended r n1 m plain c.extend_from_slice-else-is_marked.ensures.items)))
