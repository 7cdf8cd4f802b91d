use Rattle.std.proofs.Common.{◌⊎◌, subst}
use Rattle.hddl_words.specs.declared.domain.DomainText.{DomainText}
use Rattle.hddl_uses.specs.Known.{AreKnown}
use Rattle.hddl_scope.specs.Findings.{Adds}
use Rattle.hddl_check.specs.Faults.{PairFails}
use Rattle.hddl_check.proofs.pair.find_faults.Goals as goal

pub returns : goal.returns
returns c =
    let p = c.args.problem.now in
    record {
      added = subst (λ (d : DomainText). Adds (λ _. ⊥) (PairFails d p) c.args.found.now c.check_pair.new.found) c.in_ok-types.ensures c.in_ok-check_pair.ensures.added;
      known = subst (λ (d : DomainText). AreKnown d p ⊎ (AreKnown d p → ⊥)) c.in_ok-types.ensures c.in_ok-check_pair.ensures.known;
    }
