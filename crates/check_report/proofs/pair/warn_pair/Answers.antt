use Rattle.check_report.proofs.Planned.{others_unless}
use Rattle.check_report.proofs.pair.warn_pair.Goals as goal

pub returns : goal.returns
returns c = record {
  some = c.in_ok-others.others.items;
  others = others_unless c.args.texts.now c.args.faults.now c.has_faults-is_faulty.result c.in_ok-others.others.items c.has_faults-is_faulty.ensures.some
      c.has_faults-is_faulty.ensures.none c.in_ok-others.ensures.none c.in_ok-others.ensures.all;
  plans = c.in_ok-unplanned.unplanned.items;
  of_plans = c.in_ok-unplanned.ensures;
  by_place = c.in_ok-told.ensures;
}
