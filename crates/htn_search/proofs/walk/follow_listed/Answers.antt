use Rattle.std.proofs.Common.{sym, ap, subst, unwrap_or}
use Rattle.std.proofs.lemmas.Result.{IfOk-weaker}
use Rattle.htn_walk.specs.Walk.{IsOneOn}
use Rattle.htn_search.proofs.walk.follow_listed.Goals as goal

pub take-requires-clause-chosen : goal.take-requires-clause-chosen
take-requires-clause-chosen c = (c.in_ok-position.ensures.0, c.in_ok-position.ensures.2)

pub returns : goal.returns
returns c =
    let told = c.in_ok-position.ensures in
    IfOk-weaker c.take.result _ _
    (λ next one. subst (λ n. IsOneOn c.args.task.now n c.args.walk next) (sym (ap (λ o. unwrap_or o 0) told.1)) (one told.0 told.2))
    c.take.ensures
