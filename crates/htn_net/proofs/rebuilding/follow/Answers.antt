use Rattle.std.proofs.Common.{ℕ, sym, ap, ◌∙◌, subst}
use Rattle.std.specs.Option.{option_map}
use Rattle.std.proofs.lemmas.Option.{MatchOption-at_some, same_Some}
use Rattle.htn_model.specs.Machine.{result_of}
use Rattle.htn_walk.specs.declared.change.Change.{Change}
use Rattle.htn_walk.specs.Choices.{IsChosen, chosen_of}
use Rattle.htn_net.proofs.rebuilding.follow.Goals as goal

pub after-requires : goal.after-requires
after-requires c = (c.args.number, sym c.in_ok-position.ensures.choice ∙ ap (option_map (chosen_of c.args.config.now)) c.in-Some.is)

pub take-requires-clause-chosen : goal.take-requires-clause-chosen
take-requires-clause-chosen c = (
  c.args.number,
  subst (λ x. IsChosen c.args.task.now x c.args.number (c.in-Some.position, c.in-Some.change)) c.requires.same
      (sym c.in_ok-position.ensures.choice ∙ ap (option_map (chosen_of c.args.config.now)) c.in-Some.is, MatchOption-at_some _ _ _ c.in-Some.is c.in_ok-position.ensures.number),
)

pub returns-clause-one : goal.returns-clause-one
returns-clause-one c =
    c.in_ok-walk.ensures c.args.number (subst (λ x. IsChosen c.args.task.now x c.args.number (c.in-Some.position, c.in-Some.change)) c.requires.same
    (sym c.in_ok-position.ensures.choice ∙ ap (option_map (chosen_of c.args.config.now)) c.in-Some.is, MatchOption-at_some _ _ _ c.in-Some.is c.in_ok-position.ensures.number))

pub returns-clause-same : goal.returns-clause-same
returns-clause-same c =
    let x : ℕ × Change = (c.in-Some.position, c.in-Some.change) in
    let chosen = subst (λ at. IsChosen c.args.task.now at c.args.number x) c.requires.same
    (sym c.in_ok-position.ensures.choice ∙ ap (option_map (chosen_of c.args.config.now)) c.in-Some.is, MatchOption-at_some _ _ _ c.in-Some.is c.in_ok-position.ensures.number) in
    let one = c.in_ok-walk.ensures c.args.number chosen in
    c.in_ok-next.ensures ∙ ap (λ at. result_of at (chosen_of at x)) c.requires.same
    ∙ ap (result_of c.args.walk.config) (same_Some (chosen_of c.args.walk.config x) one.choice (sym chosen.0 ∙ one.chooses))
    ∙ sym one.config
