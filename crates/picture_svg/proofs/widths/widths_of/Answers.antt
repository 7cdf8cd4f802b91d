use Rattle.std.proofs.Common.{◌≡◌, ◌++◌, get_or, map, ap, ap₂, ◌∙◌}
use Rattle.picture_text.specs.Text.{width_of}
use Rattle.picture_svg.proofs.Measuring.{action_width, task_width, widths_are}
use Rattle.picture_svg.proofs.widths.widths_of.Goals as goal

pub returns : goal.returns
returns c =
    let file = c.args.file.now in
    let first : c.push_actions.new.widths.items ≡ map (action_width (width_of file)) file.actions =
    c.in_ok-push_actions.ensures ∙ ap (λ l. l ++ map (action_width c.width_of.result) c.actions.result.now) c.new-widths.ensures.items
    ∙ ap₂ (λ d ls. map (action_width d) ls) c.width_of.ensures c.actions.ensures.value in
    let all : c.push_tasks.new.widths.items ≡ map (action_width (width_of file)) file.actions ++ map task_width file.decompositions =
    c.in_ok-push_tasks.ensures ∙ ap₂ (λ l ds. l ++ map task_width ds) first c.decompositions.ensures.value in
    λ line. ap (λ l. get_or l line 0) all ∙ widths_are file line
