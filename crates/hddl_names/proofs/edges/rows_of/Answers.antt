use Rattle.std.proofs.Common.{sym, subst, List, ℕ}
use Rattle.htn_order.specs.Closure.{AreBelow}
use Rattle.hddl_names.specs.Rows.{AreRows}
use Rattle.hddl_names.proofs.FromPairs.{rows_same, below_same}
use Rattle.hddl_names.proofs.edges.rows_of.Goals as goal

pub listed-requires : goal.listed-requires
listed-requires c =
    subst (λ (ps : List (ℕ × ℕ)). AreBelow c.args.size ps) (sym c.as_slice.ensures.keys) (below_same c.args.size c.in_ok-set.set.keys c.args.pairs.now c.in_ok-set.ensures c.requires)

pub returns-clause-rows : goal.returns-clause-rows
returns-clause-rows c =
    rows_same c.in_ok-set.set.keys c.args.pairs.now c.in_ok-rows.rows c.in_ok-set.ensures
    (subst (λ (ps : List (ℕ × ℕ)). AreRows ps c.in_ok-rows.rows) c.as_slice.ensures.keys c.in_ok-rows.ensures.rows)
