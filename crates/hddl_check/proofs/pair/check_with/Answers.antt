use Rattle.std.proofs.Common.{subst}
use Rattle.hddl_words.specs.declared.domain.DomainText.{DomainText}
use Rattle.hddl_scope.specs.Findings.{Adds}
use Rattle.hddl_check.specs.TextParts.{PartFails}
use Rattle.hddl_check.proofs.pair.check_with.Goals as goal

pub returns : goal.returns
returns c =
    let p = c.args.problem.now in
    subst (λ (d : DomainText). Adds (λ _. ⊥) (PartFails d p) c.args.found.now c.check_texts.new.found) c.domain-domain.ensures c.in_ok-check_texts.ensures
