use Rattle.std.proofs.Common.{◌∙◌, length, sym, arith}
use Rattle.htn_model.specs.Choice.{is_free}
use Rattle.htn_model.specs.Problem.{is_before}
use Rattle.htn_order.proofs.Free.{none_free_on, one_more_not_free}
use Rattle.htn_order.proofs.order.Order.next_free.Goals as goal

pub loop-position-init : goal.loop-position-init
loop-position-init c i low high = absurd (omega arith)

pub returns-then-is_free_by : goal.returns-then-is_free_by
returns-then-is_free_by c = record {
  low = c.loop-position.auto.position;
  high = (let within = c.free_end-position-end.ensures.within in let test = c.loop-position-test.true in omega arith);
  free = sym c.is_free_by.ensures ∙ c.if-is_free_by.true;
  first = c.loop-position.invariant;
}

pub loop-position-preserved : goal.loop-position-preserved
loop-position-preserved c =
    one_more_not_free (is_free (length c.args.self.now) (is_before c.args.self.now)) c.args.from c.loop-position.position c.loop-position.invariant
    (sym c.is_free_by.ensures ∙ c.if-is_free_by.false)

pub returns : goal.returns
returns c =
    none_free_on (is_free (length c.args.self.now) (is_before c.args.self.now)) c.args.from c.loop-position.position c.free_end-position-end.result (length c.args.self.now)
    c.loop-position-test.false c.loop-position.invariant c.free_end-position-end.ensures.none
