use Rattle.std.proofs.Common.{IfOk, IfSome, subst, sym}
use Rattle.hddl_meaning.specs.declared.fault.Source.{Source}
use Rattle.pair_messages.specs.Notes.{IsSectionAround}
use Rattle.pair_messages.proofs.around.section_around.Goals as goal

pub returns-in-Domain : goal.returns-in-Domain
returns-in-Domain c =
    let t = c.args.index.now.texts.now in
    let place = c.args.at.place in
    subst (λ (s : Source). IfOk c.around_in_domain.result (λ found. IfSome found (λ x. IsSectionAround t.domain_tree.now t.problem_tree.now (record { source = s; place = place }) (record { source = s; place = x.1 }))))
    (sym c.in-Domain.is) c.around_in_domain.ensures

pub returns-in-Problem : goal.returns-in-Problem
returns-in-Problem c =
    let t = c.args.index.now.texts.now in
    let place = c.args.at.place in
    subst (λ (s : Source). IfSome c.around_in_problem.result (λ x. IsSectionAround t.domain_tree.now t.problem_tree.now (record { source = s; place = place }) (record { source = s; place = x.1 })))
    (sym c.in-Problem.is) c.around_in_problem.ensures
