use Rattle.std.proofs.Common.{◌++◌, codes, option_map}
use Rattle.picture_html.specs.Page.{begin, title}
use Rattle.picture_html.specs.Style.{style, more_style}
use Rattle.picture_html.proofs.Chains.{ended, follows}
use Rattle.picture_html.proofs.page.say_head.Goals as goal

pub returns : goal.returns
returns c =
    let o = c.args.out.now.items in
    let p0 = begin in
    let p1 = title c.args.caption.now in
    let p2 = style in
    let p3 = more_style (option_map (λ d. d.now) c.args.details) in
    let p4 = codes "</head>\n<body>\n<main>\n" in
    let n0 = c.say_begin.new.out.items in
    let n1 = c.say_title.new.out.items in
    let n2 = c.say_style.new.out.items in
    let n3 = c.say_more_style.new.out.items in
    let m = c.extend_from_slice.new.self.items in
    let r = c.extend_from_slice.result in
    follows r o n0 m p0 (p1 ++ (p2 ++ (p3 ++ p4))) c.in_ok-say_begin.ensures
    (follows r n0 n1 m p1 (p2 ++ (p3 ++ p4)) c.in_ok-say_title.ensures
    (follows r n1 n2 m p2 (p3 ++ p4) c.in_ok-say_style.ensures
    (follows r n2 n3 m p3 p4 c.in_ok-say_more_style.ensures
    (ended r n3 m p4 c.extend_from_slice.ensures.items))))
