use Rattle.std.proofs.Common.{◌<◌, ◌∙◌, Some, slice_get, length, sym, ap, subst}
use Rattle.std.proofs.lemmas.Option.{MatchOption-at_some, slice_get-get_or}
use Rattle.htn_walk.proofs.Free.{some_within}
use Rattle.htn_search.proofs.chosen.listed_instance.Goals as goal

pub swap_remove-requires : goal.swap_remove-requires
swap_remove-requires c =
    let items = c.in_ok-listed.listed.items in
    subst (λ n. c.args.rank < n) (sym c.in_ok-listed.listed.ok.0)
    (subst (λ n. c.args.rank < n) (ap length (sym c.in_ok-listed.ensures)) (some_within _ c.args.rank c.requires.listed))

pub returns-in-Some : goal.returns-in-Some
returns-in-Some c = MatchOption-at_some _ _ _ c.in-Some.is c.in_ok-instance.ensures.some c.args.task.now c.requires.own

pub returns : goal.returns
returns c =
    let items = c.in_ok-listed.listed.items in
    let rank = c.args.rank in
    let inside : rank < length items = subst (λ n. rank < n) (ap length (sym c.in_ok-listed.ensures)) (some_within _ rank c.requires.listed) in
    ap (λ l. slice_get l rank) (sym c.in_ok-listed.ensures) ∙ slice_get-get_or items rank c.swap_remove.result inside ∙ ap Some (sym c.swap_remove.ensures.value)
