use Rattle.std.proofs.Common.{subst, sym}
use Rattle.check_report.specs.Saying.{TellsPairTrees}
use Rattle.check_report.proofs.Reports.{checks_pair}
use Rattle.check_report.proofs.pair.check_reached.Goals as goal

pub returns : goal.returns
returns c =
    let texts = c.args.texts.now in
    let faults = c.args.faults.now in
    let told = subst (TellsPairTrees texts faults c.args.reach.now) (sym c.as_slice.ensures.value) c.in_ok-told.ensures in
    let report = c.in_ok-checked.ensures in
    checks_pair texts c.args.options c.in_ok-checked.checked c.as_slice.result.now report.summary c.requires.domain_spelled c.requires.problem_spelled faults
    c.requires.faults c.args.reach.now c.requires.reached told report.counted report.report
