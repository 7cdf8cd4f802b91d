use Rattle.std.proofs.Common.{true≢false, sym, ap, ◌∙◌}
use Rattle.hddl_meaning.specs.Mentions.{folded}
use Rattle.hddl_meaning.proofs.Listed.{texts_decide}
use Rattle.hddl_warnings.specs.Warnings.{in_problem}
use Rattle.hddl_warnings.specs.declared.warning.WarningKind.TheVariants as kind
use Rattle.hddl_warnings.proofs.report.other_domain.Goals as goal

pub returns-then-own : goal.returns-then-own
returns-then-own c =
    let decides = texts_decide (folded c.args.problem.now.domain.text) (folded c.args.domain.now.name.text) in
    λ w h. h.0 (decides.0 (sym c.in_ok-own.ensures ∙ c.if-own.true))

pub returns : goal.returns
returns c =
    let decides = texts_decide (folded c.args.problem.now.domain.text) (folded c.args.domain.now.name.text) in
    ((λ e. true≢false (sym (decides.1 e) ∙ sym c.in_ok-own.ensures ∙ c.if-own.false)), ap (in_problem kind.OtherDomain) c.place.ensures)
