use Rattle.check_report.proofs.Planned.{reached_unless}
use Rattle.check_report.proofs.pair.reach_by.Goals as goal

pub returns : goal.returns
returns c =
    reached_unless c.args.texts.now.domain_tree.now c.args.texts.now.problem_tree.now c.args.faults.now c.has_faults-is_faulty.result c.in_ok-reach.reach
    c.has_faults-is_faulty.ensures.some c.has_faults-is_faulty.ensures.none c.in_ok-reach.ensures.none c.in_ok-reach.ensures.all
