use Rattle.std.proofs.Common.{subst}
use Rattle.std.specs.List.{AllZip}
use Rattle.check_report.specs.Texts.{AreOwnFaults, AreOwnWarnings}
use Rattle.check_report.specs.Saying.{TellsPair, WarnsBefore}
use Rattle.check_report.proofs.alone.tell_tree.Goals as goal

pub returns : goal.returns
returns c =
    let faults = c.in_ok-faults.faults.items in
    let errors = c.in_ok-errors.errors.items in
    record {
      faults = faults;
      are = subst (λ text. AreOwnFaults text c.args.texts.now.domain_tree.now c.args.texts.now.problem_tree.now faults) c.text-text.ensures c.in_ok-faults.ensures;
      errors = errors;
      tell = subst (λ fs. AllZip (TellsPair c.args.texts.now) fs errors) c.as_slice.ensures.value c.in_ok-errors.ensures;
      before = subst (λ fs. WarnsBefore c.args.texts.now (AreOwnWarnings c.args.texts.now.domain_tree.now fs) errors c.in_ok-told.told.items) c.as_slice-2.ensures.value c.in_ok-told.ensures;
    }
