use Rattle.check_report.proofs.pair.pair_faults.Goals as goal

pub returns : goal.returns
returns c = record {
  all = record {
    sound = c.in_ok-faults.ensures.sound;
    complete = c.in_ok-faults.ensures.complete;
    order = c.in_ok-faults.ensures.order;
  };
  none = c.in_ok-faults.ensures.none;
  first = c.in_ok-faults.ensures.first;
  named = c.in_ok-faults.ensures.named;
}
