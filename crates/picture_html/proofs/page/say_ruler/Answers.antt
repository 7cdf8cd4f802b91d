use Rattle.std.proofs.Common.{◌++◌, codes}
use Rattle.picture_html.specs.Ruler.{ticks}
use Rattle.picture_html.proofs.Chains.{ended, follows}
use Rattle.picture_html.proofs.page.say_ruler.Goals as goal

pub returns : goal.returns
returns c =
    let o = c.args.out.now.items in
    let p0 = codes "<div class=\"row head\"><span class=\"label\">task and method</span>" in
    let p1 = codes "<span class=\"time\">" in
    let p2 = ticks c.args.actions in
    let p3 = codes "</span></div>\n" in
    let n0 = c.extend_from_slice.new.self.items in
    let n1 = c.extend_from_slice-2.new.self.items in
    let n2 = c.say_ticks.new.out.items in
    let m = c.extend_from_slice-3.new.self.items in
    let r = c.extend_from_slice-3.result in
    follows r o n0 m p0 (p1 ++ (p2 ++ p3)) c.in_ok-extend_from_slice.ensures.items
    (follows r n0 n1 m p1 (p2 ++ p3) c.in_ok-extend_from_slice-2.ensures.items
    (follows r n1 n2 m p2 p3 c.in_ok-say_ticks.ensures
    (ended r n2 m p3 c.extend_from_slice-3.ensures.items)))
