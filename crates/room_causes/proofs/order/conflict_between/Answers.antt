use Rattle.std.proofs.Common.{◌∙◌}
use Rattle.room_causes.proofs.order.conflict_between.Goals as goal

pub returns : goal.returns
returns g c = record {
  instance = c.args.instance.now;
  is_one = c.requires.one;
  values = c.in_ok-values.ensures ∙ c.values.ensures;
  ordered = c.requires.ordered;
  first = c.requires.first;
  second = c.requires.second;
  not_before = c.requires.not_before;
  blocked = c.requires.blocked;
  late = c.in_ok-late.ensures;
  early = c.in_ok-early.ensures;
  unmet = c.in_ok-unmet.ensures;
}
