use Rattle.std.proofs.Common.{◌≡◌, ◌++◌, option_map, drop}
use Rattle.plan_picture.specs.Seen.{seen_all}
use Rattle.picture_html.specs.Outline.{bars_at, line_row, outline}
use Rattle.picture_html.proofs.folds.say_outline.Given as goal

-- the rows so far, and those that are left
abbrev pub invariant-loop-place : goal.invariant-loop-place
invariant-loop-place l =
    let text = line_row l.caption.mark l.file (option_map (λ d. d.now) l.details) (bars_at l.bars) in
    l.out.items ++ outline text (drop l.place (seen_all l.rows)) ≡ l.initial.out.items ++ outline text (seen_all l.rows)
