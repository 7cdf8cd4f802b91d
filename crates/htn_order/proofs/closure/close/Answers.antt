use Rattle.std.proofs.Common.{◌∙◌, ap, length, subst, sym}
use Rattle.htn_model.specs.Problem.{IsClosed, IsSquare}
use Rattle.htn_order.specs.Closing.{IsClosing}
use Rattle.htn_order.specs.Closure.{IsClosureOf}
use Rattle.htn_order.proofs.Tables.{table_size}
use Rattle.htn_order.proofs.Joining.{acyclic_of, closing_marks, closing_start, closure_of, has_all, has_more, no_pairs_yet}
use Rattle.htn_order.proofs.closure.close.Goals as goal

pub loop-k-init : goal.loop-k-init
loop-k-init c = (
  ap length c.in_ok-rows.ensures ∙ table_size c.args.size _,
  closing_start c.args.pairs.now c.args.size c.in_ok-rows.rows c.in_ok-entered.entered.items c.requires c.in_ok-rows.ensures (sym c.in_ok-entered.entered.ok.0 ∙ c.in_ok-entered.ensures.len),
)

pub add_pair-requires : goal.add_pair-requires
add_pair-requires c = subst (IsClosing c.args.pairs.now c.loop-k.rows) (sym c.deref_mut.ensures.value) c.loop-k.invariant.1

pub loop-k-preserved : goal.loop-k-preserved
loop-k-preserved c = (
  c.in_ok-add_pair.ensures.size ∙ c.loop-k.invariant.0,
  closing_marks c.args.pairs.now c.loop-k.rows c.add_pair.new.rows c.loop-k.entered c.add_pair.new.entered c.loop-k.invariant.1 c.in_ok-add_pair.ensures.size c.in_ok-add_pair.ensures.closing,
)

pub loop-index-init : goal.loop-index-init
loop-index-init c = (c.loop-k.invariant.0, c.loop-k.invariant.1, no_pairs_yet c.args.pairs.now c.loop-k.rows)

pub add_pair-requires-in-loop-index : goal.add_pair-requires-in-loop-index
add_pair-requires-in-loop-index c = subst (IsClosing c.args.pairs.now c.loop-index.rows) (sym c.deref_mut-in-loop-index.ensures.value) c.loop-index.invariant.1

pub loop-index-preserved : goal.loop-index-preserved
loop-index-preserved c =
    let e = c.in_ok-add_pair-2.ensures in (
      e.size ∙ c.loop-index.invariant.0,
      closing_marks c.args.pairs.now c.loop-index.rows c.add_pair-in-loop-index.new.rows c.loop-index.entered c.add_pair-in-loop-index.new.entered c.loop-index.invariant.1 e.size e.closing,
      has_more c.args.pairs.now c.loop-index.index c.loop-index.rows c.add_pair-in-loop-index.new.rows c.loop-index.invariant.2 e.grows e.added,
    )

pub from_rows-requires : goal.from_rows-requires
from_rows-requires c = c.loop-index.invariant.1.closed

pub returns-clause-square : goal.returns-clause-square
returns-clause-square c =
    subst (IsSquare c.args.size) (sym c.from_rows.ensures) (subst (λ n. IsSquare n c.loop-index.rows) c.loop-index.invariant.0 c.loop-index.invariant.1.square)

pub returns-clause-closed : goal.returns-clause-closed
returns-clause-closed c = subst IsClosed (sym c.from_rows.ensures) c.loop-index.invariant.1.closed

pub returns-clause-closure : goal.returns-clause-closure
returns-clause-closure c =
    let closing = c.loop-index.invariant.1 in
    subst (IsClosureOf c.args.pairs.now) (sym c.from_rows.ensures)
    (closure_of c.args.pairs.now c.loop-index.rows closing.closed closing.sound (has_all c.args.pairs.now c.loop-index.index c.loop-index.rows c.loop-index-test.false c.loop-index.invariant.2))

pub returns-clause-acyclic : goal.returns-clause-acyclic
returns-clause-acyclic c =
    let closing = c.loop-index.invariant.1 in
    acyclic_of c.args.pairs.now c.loop-index.rows closing.closed (has_all c.args.pairs.now c.loop-index.index c.loop-index.rows c.loop-index-test.false c.loop-index.invariant.2)
