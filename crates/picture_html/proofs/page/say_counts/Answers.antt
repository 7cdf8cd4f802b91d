use Rattle.std.proofs.Common.{ℕ, List, ◌++◌, codes, length, ap, ◌∙◌}
use Rattle.picture_html.specs.Label.{between, words_between}
use Rattle.picture_html.proofs.Chains.{follows, reads}
use Rattle.picture_html.proofs.page.say_counts.Goals as goal

pub returns : goal.returns
returns c =
    let file = c.args.file.now in
    let o = c.args.out.now.items in
    let n0 = c.say_words_between.new.out.items in
    let n1 = c.say_between.new.out.items in
    let m = c.say_between-2.new.out.items in
    let r = c.say_between-2.result in
    let one = λ (w : List ℕ). words_between (codes "<p>domain <b>") w (codes "</b> &middot; actions <b>") in
    let two = λ (n : ℕ). between (codes "") n (codes "</b> &middot; tasks <b>") in
    let three = λ (n : ℕ). between (codes "") n (codes "</b></p>\n") in
    let domain = c.args.caption.now.domain.now in
    let actions = ap length c.actions.ensures.value in
    let tasks = ap length c.decompositions.ensures.value in
    follows r o n0 m (one domain) (two (length file.actions) ++ three (length file.decompositions)) (c.in_ok-say_words_between.ensures ∙ ap (λ w. o ++ one w) c.as_bytes.ensures.value)
    (follows r n0 n1 m (two (length file.actions)) (three (length file.decompositions)) (c.in_ok-say_between.ensures ∙ ap (λ n. n0 ++ two n) actions)
    (reads r n1 m (three (length c.decompositions.result.now)) (three (length file.decompositions)) (ap three tasks) c.say_between-2.ensures))
