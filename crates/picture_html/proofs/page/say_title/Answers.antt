use Rattle.std.proofs.Common.{ℕ, List, ◌++◌, codes, ap, ◌∙◌}
use Rattle.picture_html.specs.Label.{words_between}
use Rattle.picture_html.proofs.Chains.{follows, reads}
use Rattle.picture_html.proofs.page.say_title.Goals as goal

pub returns : goal.returns
returns c =
    let o = c.args.out.now.items in
    let n = c.say_words_between.new.out.items in
    let m = c.say_words_between-2.new.out.items in
    let r = c.say_words_between-2.result in
    let one = λ (w : List ℕ). words_between (codes "<title>") w (codes ": ") in
    let two = λ (w : List ℕ). words_between (codes "") w (codes "</title>\n") in
    let problem = c.args.caption.now.problem.now in
    let verdict = c.args.caption.now.verdict.now in
    follows r o n m (one problem) (two verdict) (c.in_ok-say_words_between.ensures ∙ ap (λ w. o ++ one w) c.as_bytes.ensures.value)
    (reads r n m (two c.as_bytes-2.result.now) (two verdict) (ap two c.as_bytes-2.ensures.value) c.say_words_between-2.ensures)
