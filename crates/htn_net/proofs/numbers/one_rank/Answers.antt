use Rattle.std.proofs.Common.{Some, sym, ap, ◌∙◌, option_and_then}
use Rattle.std.specs.Option.{option_map}
use Rattle.std.proofs.lemmas.Option.{MatchOption-at_some}
use Rattle.htn_model.specs.Grounding.{problem_of}
use Rattle.htn_model.specs.Machine.{choose, result_of}
use Rattle.htn_walk.specs.Choices.{chosen_of}
use Rattle.htn_net.proofs.numbers.one_rank.Goals as goal

pub rank_number-requires : goal.rank_number-requires
rank_number-requires c =
    let t = c.args.task.now in
    let at = c.args.config.now in
    let told = MatchOption-at_some _ _ _ c.in-Some.is c.in_ok-position.ensures.number in
    (told.0, told.1, (sym (ap (option_and_then (choose (problem_of t) at)) told.1) ∙ sym c.in_ok-position.ensures.choice ∙ ap (option_map (chosen_of at)) c.in-Some.is, told.2))

pub after-requires : goal.after-requires
after-requires c =
    let t = c.args.task.now in
    let at = c.args.config.now in
    let told = MatchOption-at_some _ _ _ c.in-Some.is c.in_ok-position.ensures.number in
    (told.0, sym (ap (option_and_then (choose (problem_of t) at)) told.1) ∙ sym c.in_ok-position.ensures.choice ∙ ap (option_map (chosen_of at)) c.in-Some.is)

pub returns-clause-step : goal.returns-clause-step
returns-clause-step c =
    let at = c.args.config.now in
    ap (option_map (result_of at)) (sym c.in_ok-position.ensures.choice ∙ ap (option_map (chosen_of at)) c.in-Some.is) ∙ ap Some (sym c.in_ok-next.ensures)
