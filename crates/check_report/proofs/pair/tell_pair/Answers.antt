use Rattle.std.proofs.Common.{◌∙◌, ◌++◌, ap}
use Rattle.check_report.proofs.pair.tell_pair.Goals as goal

pub returns : goal.returns
returns c = record {
  first = c.in_ok-told.told.items;
  of_domain = c.in_ok-told.ensures;
  whole = c.in_ok-append-2.ensures.items ∙ ap (λ xs. xs ++ c.args.errors.items) c.in_ok-append.ensures.items;
}
