use Rattle.std.proofs.Common.{ℕ, ◌++◌, codes, max, ap, ◌∙◌}
use Rattle.picture_html.specs.Label.{between}
use Rattle.picture_html.specs.Ruler.{step_of}
use Rattle.picture_html.proofs.Chains.{follows, reads}
use Rattle.picture_html.proofs.page.say_columns.Goals as goal

pub returns : goal.returns
returns c =
    let o = c.args.out.now.items in
    let n = c.say_between.new.out.items in
    let m = c.say_between-2.new.out.items in
    let r = c.say_between-2.result in
    let columns = λ (k : ℕ). between (codes "<h2>Decomposition and time</h2>\n<div class=\"chart\" style=\"--n:") k (codes ";--s:") in
    let steps = λ (k : ℕ). between (codes "") k (codes "\">\n") in
    let actions = c.args.actions in
    follows r o n m (columns (max 1 actions)) (steps (step_of actions)) (c.in_ok-say_between.ensures ∙ ap (λ k. o ++ columns k) c.column_count.ensures)
    (reads r n m (steps c.step_of.result) (steps (step_of actions)) (ap steps c.step_of.ensures.value) c.say_between-2.ensures)
