use denote.Param.Send.{arg_sync, param_sync, recorded_sync, shr_sync, struct_sync}
use Rattle.std.proofs.Common.{◌≡◌, ◌∙◌, sym, subst}
use Rattle.std.proofs.lemmas.Result.{err_from_is_err_and}
use Rattle.word_machine.specs.Answer.{IsEnding}
use Rattle.htn_walk.specs.Listed.{listing_machine}
use Rattle.htn_search.proofs.Shared.{beside, both, task_sync}
use Rattle.htn_search.proofs.solve.search_with_watch.Goals as goal

pub search_by-requires-sync-M : goal.search_by-requires-sync-M
search_by-requires-sync-M g c κs within = search (both, tt, param_sync, arg_sync, recorded_sync, struct_sync, shr_sync, task_sync, beside) depth 60 fits 20000

pub end-requires-clause-ending : goal.end-requires-clause-ending
end-requires-clause-ending g c =
    let becomes = c.in_ok-ending.ensures.becomes in
    let watched = c.search_by.new.watch.calls.now in
    let ending = c.in_ok-ending.field-0.ending in
    subst (λ b. IsEnding (listing_machine watched.task.now) b ending) (sym (becomes.2.1 ∙ c.requires.bound))
    (subst (λ t. IsEnding (listing_machine t) c.args.limits.bounds.nodes ending) (sym (becomes.2.0 ∙ c.requires.task)) c.in_ok-ending.ensures.ending)

pub returns-in_err-ending-2-clause-no_thread : goal.returns-in_err-ending-2-clause-no_thread
returns-in_err-ending-2-clause-no_thread g c =
    let p = err_from_is_err_and c.from_residual-in_err-ending-2.result c.from_residual-in_err-ending-2.ensures.1 in
    rw (p.1, p.2) (λ same. absurd (c.in_err-ending-2.ensures.no_thread same))

pub returns-clause-ending : goal.returns-clause-ending
returns-clause-ending g c =
    let becomes = c.in_ok-ending.ensures.becomes in
    let watched = c.search_by.new.watch.calls.now in
    let ending = c.in_ok-ending-2.ending in
    subst (λ b. IsEnding (listing_machine c.args.machine.now.task.now) b ending) (becomes.2.1 ∙ c.requires.bound)
    (subst (λ t. IsEnding (listing_machine t) watched.bound ending) (becomes.2.0 ∙ c.requires.task) c.in_ok-ending-2.ensures.ending)

pub returns-clause-stopped : goal.returns-clause-stopped
returns-clause-stopped g c =
    let becomes = c.in_ok-ending.ensures.becomes in
    λ n is. sym (g.met.W.Watch.keeps c.args.watch.now.watch.now c.search_by.new.watch.watch.now becomes.1) ∙ c.in_ok-ending-2.ensures.stopped n is
