use Rattle.check_report.proofs.pair.tell_trees.Goals as goal

pub returns : goal.returns
returns c = record {
  errors = c.in_ok-errors.errors.items;
  tell = c.in_ok-errors.ensures;
  warned = c.in_ok-warned.warned.items;
  warns = c.in_ok-warned.ensures;
  before = c.in_ok-told.ensures;
}
