use Rattle.call_rules.proofs.Tables.{tables_stand}
use Rattle.call_rules.proofs.Values.{values_are_below, numbers_are_below}
use Rattle.call_rules.proofs.laws.values_bound.Goals as goal

pub returns : goal.returns
returns c = record { tables = tables_stand; values = values_are_below; numbers = numbers_are_below }
