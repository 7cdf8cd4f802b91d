use Rattle.std.proofs.Common.{[], refl, sym, subst}
use Rattle.plan_text.proofs.Taken.{appends_none}
use Rattle.htn_review.specs.Checking.{domain_text, problem_text}
use Rattle.htn_review.specs.Explaining.{plan_text}
use Rattle.htn_review.specs.Sights.{bytes_of}
use Rattle.htn_review.specs.Trees.{Draws}
use Rattle.htn_review.proofs.Refusing.{ok_both, ok_more, err_more}
use Rattle.htn_review.proofs.Sighting.{left_undrawn, reported_draws, undrawn_no_output}
use Rattle.htn_review.proofs.tree.run_tree.Goals as goal

pub returns-in-Ok-clause-drawn : goal.returns-in-Ok-clause-drawn
returns-in-Ok-clause-drawn g c =
    let domain = domain_text c.args.domain.name.now c.args.domain.text.now in
    let problem = problem_text c.args.problem.name.now c.args.problem.text.now in
    let plan = plan_text c.args.plan.name.now c.args.plan.text.now in
    let text = bytes_of c.in-Ok.sight.picture in
    ok_more _ _ c.show.result
    (λ drawn h. (text, subst (λ came. Draws domain problem plan c.args.look came text) (sym h.0) c.in-Ok.ensures.sight, h.1)) c.show.ensures.shown

pub returns-in-Ok-clause-refused : goal.returns-in-Ok-clause-refused
returns-in-Ok-clause-refused g c = err_more _ _ c.show.result (λ fault is other. absurd (other is)) c.show.ensures.fault

pub returns-in-Ok-clause-cut_short : goal.returns-in-Ok-clause-cut_short
returns-in-Ok-clause-cut_short g c =
    err_more _ _ c.show.result
    (λ fault h is. ((c.in-Ok.sight.verdict, bytes_of c.in-Ok.sight.picture, c.in-Ok.ensures.sight, h.0), h.1)) c.show.ensures.cut_short

pub returns-in-Err-clause-drawn : goal.returns-in-Err-clause-drawn
returns-in-Err-clause-drawn g c =
    let domain = domain_text c.args.domain.name.now c.args.domain.text.now in
    let problem = problem_text c.args.problem.name.now c.args.problem.text.now in
    let plan = plan_text c.args.plan.name.now c.args.plan.text.now in
    ok_both _ _ _ c.refuse.result
    (λ drawn of_pair is. ([], reported_draws domain problem plan c.args.look c.in-Err.fault drawn c.in-Err.ensures.refused of_pair is, appends_none _))
    c.refuse.ensures.of_pair c.refuse.ensures.reported

pub returns-in-Err-clause-refused : goal.returns-in-Err-clause-refused
returns-in-Err-clause-refused g c =
    err_more _ _ c.refuse.result
    (λ fault left other. (left_undrawn c.args.domain.text.now c.args.problem.text.now c.args.plan.text.now c.in-Err.fault fault c.in-Err.ensures.refused left, refl)) c.refuse.ensures.stays

pub returns-in-Err-clause-cut_short : goal.returns-in-Err-clause-cut_short
returns-in-Err-clause-cut_short g c =
    err_more _ _ c.refuse.result
    (λ fault left is.
    absurd (undrawn_no_output c.args.domain.text.now c.args.problem.text.now c.args.plan.text.now fault
    (left_undrawn c.args.domain.text.now c.args.problem.text.now c.args.plan.text.now c.in-Err.fault fault c.in-Err.ensures.refused left) is)) c.refuse.ensures.stays
