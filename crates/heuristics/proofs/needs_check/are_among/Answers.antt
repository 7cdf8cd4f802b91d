use Rattle.std.proofs.Common.{◌∙◌, Contains, sym}
use Rattle.htn_task.specs.Literals.{literal_of, literals_of}
use Rattle.htn_task.specs.declared.literal.Literal.{Literal}
use Rattle.heuristics.proofs.MarkLists.{all_more, all_taken}
use Rattle.heuristics.proofs.Within.{contains_equal}
use Rattle.heuristics.proofs.needs_check.are_among.Goals as goal

pub loop-literal-preserved : goal.loop-literal-preserved
loop-literal-preserved c =
    let others = literals_of c.args.others.now in
    let item = c.literal-item.result in
    all_more (λ (x : Literal). Contains others (literal_of x)) c.args.literals.now c.loop-literal.literal-index item c.loop-literal-test.true c.literal-item.is c.loop-literal.invariant
    (contains_equal others (literal_of item) (sym c.is_among.ensures ∙ c.if-not-is_among.false))

pub returns : goal.returns
returns c = λ _.
    all_taken (λ (x : Literal). Contains (literals_of c.args.others.now) (literal_of x)) c.args.literals.now c.loop-literal.literal-index c.loop-literal-test.false c.loop-literal.invariant
