use Rattle.std.proofs.Common.{◌++◌, codes, ap, ◌∙◌}
use Rattle.picture_html.specs.Page.{test_key}
use Rattle.picture_html.proofs.Chains.{ended, follows}
use Rattle.picture_html.proofs.page.say_key.Goals as goal

pub returns : goal.returns
returns c =
    let o = c.args.out.now.items in
    let p0 = codes "</div>\n<p class=\"key\"><span><i class=\"a\"></i>action</span>" in
    let p1 = codes "<span><i></i>all actions of a task</span>" in
    let p2 = test_key c.args.is_tested in
    let p3 = codes "</p>\n" in
    let n0 = c.extend_from_slice.new.self.items in
    let n1 = c.extend_from_slice-2.new.self.items in
    let n2 = c.extend_from_slice-3.new.self.items in
    let m = c.extend_from_slice-4.new.self.items in
    let r = c.extend_from_slice-4.result in
    follows r o n0 m p0 (p1 ++ (p2 ++ p3)) c.in_ok-extend_from_slice.ensures.items
    (follows r n0 n1 m p1 (p2 ++ p3) c.in_ok-extend_from_slice-2.ensures.items
    (follows r n1 n2 m p2 p3 (c.in_ok-extend_from_slice-3.ensures.items ∙ ap (λ l. n1 ++ l) c.test_key.ensures) (ended r n2 m p3 c.extend_from_slice-4.ensures.items)))
