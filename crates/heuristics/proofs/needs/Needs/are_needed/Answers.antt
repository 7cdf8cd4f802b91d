use Rattle.std.proofs.Common.{ℕ}
use Rattle.htn_task.specs.Literals.{literal_of}
use Rattle.htn_task.specs.declared.literal.Literal.{Literal}
use Rattle.heuristics.specs.Needs.{IsNeededAt}
use Rattle.heuristics.specs.Rows.{outlook_of}
use Rattle.heuristics.proofs.MarkLists.{all_more, all_taken}
use Rattle.heuristics.proofs.Within.{seen}
use Rattle.heuristics.proofs.needs.Needs.are_needed.Goals as goal

pub loop-literal-preserved : goal.loop-literal-preserved
loop-literal-preserved c =
    all_more (λ (x : Literal). (i : ℕ) × IsNeededAt (outlook_of c.args.self.now) (seen c.args.children.now c.args.order.now) (literal_of x) i) c.args.literals.now
    c.loop-literal.literal-index c.literal-item.result c.loop-literal-test.true c.literal-item.is c.loop-literal.invariant (c.is_needed.ensures c.if-not-is_needed.false)

pub returns : goal.returns
returns c = λ _.
    all_taken (λ (x : Literal). (i : ℕ) × IsNeededAt (outlook_of c.args.self.now) (seen c.args.children.now c.args.order.now) (literal_of x) i) c.args.literals.now
    c.loop-literal.literal-index c.loop-literal-test.false c.loop-literal.invariant
