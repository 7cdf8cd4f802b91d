use Rattle.std.proofs.Common.{codes, sym, ap, ◌∙◌}
use Rattle.picture_html.specs.Label.{between}
use Rattle.picture_html.specs.Row.{begin}
use Rattle.picture_html.proofs.Chains.{reads}
use Rattle.picture_html.proofs.row.say_begin.Goals as goal

pub returns-then-folds : goal.returns-then-folds
returns-then-folds c =
    let before = codes "<details open style=\"--d:" in
    let after = codes "\">\n<summary" in
    reads c.say_between.result c.args.out.now.items c.say_between.new.out.items (between before c.level_of-level.result after) (begin c.args.folds c.args.depth)
    (ap (λ k. between before k after) c.level_of-level.ensures ∙ ap (λ b. begin b c.args.depth) (sym c.if-folds.true)) c.say_between.ensures
