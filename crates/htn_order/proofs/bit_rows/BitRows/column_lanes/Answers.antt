use Rattle.std.proofs.Common.{◌∙◌}
use Rattle.htn_order.proofs.Columns.{zeros}
use Rattle.htn_order.proofs.bit_rows.BitRows.column_lanes.Goals as goal

pub count_column-requires-clause-none : goal.count_column-requires-clause-none
count_column-requires-clause-none c j = zeros 64 j c.deref_mut.result.now (c.deref_mut.ensures.value ∙ c.in_ok-lanes.ensures.items_if_clones_equal (λ y e. e))
