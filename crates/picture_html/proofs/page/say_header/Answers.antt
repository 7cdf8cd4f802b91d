use Rattle.std.proofs.Common.{ℕ, List, ◌++◌, codes, ap, ◌∙◌}
use Rattle.picture_html.specs.Label.{words_between}
use Rattle.picture_html.specs.Page.{verdict, counts}
use Rattle.picture_html.proofs.Chains.{ended, follows}
use Rattle.picture_html.proofs.page.say_header.Goals as goal

pub returns : goal.returns
returns c =
    let caption = c.args.caption.now in
    let o = c.args.out.now.items in
    let n0 = c.say_words_between.new.out.items in
    let n1 = c.say_verdict.new.out.items in
    let n2 = c.say_counts.new.out.items in
    let m = c.extend_from_slice.new.self.items in
    let r = c.extend_from_slice.result in
    let top = λ (w : List ℕ). words_between (codes "<header>\n<h1>") w (codes "</h1>\n") in
    let p1 = verdict caption.mark caption.verdict.now in
    let p2 = counts caption c.args.file.now in
    let p3 = codes "</header>\n" in
    follows r o n0 m (top caption.problem.now) (p1 ++ (p2 ++ p3)) (c.in_ok-say_words_between.ensures ∙ ap (λ w. o ++ top w) c.as_bytes.ensures.value)
    (follows r n0 n1 m p1 (p2 ++ p3) c.in_ok-say_verdict.ensures
    (follows r n1 n2 m p2 p3 c.in_ok-say_counts.ensures (ended r n2 m p3 c.extend_from_slice.ensures.items)))
