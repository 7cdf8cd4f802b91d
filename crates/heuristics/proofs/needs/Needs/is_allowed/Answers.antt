use Rattle.std.proofs.Common.{ℕ, List, All, inr, sym, subst}
use Rattle.htn_task.specs.Literals.{literal_of}
use Rattle.htn_task.specs.declared.literal.Literal.{Literal}
use Rattle.heuristics.specs.Needs.{IsNeededAt}
use Rattle.heuristics.specs.Rows.{outlook_of}
use Rattle.heuristics.proofs.Within.{seen, with_row}
use Rattle.heuristics.proofs.needs.Needs.is_allowed.Goals as goal

pub returns : goal.returns
returns c = λ passes.
    let n = c.args.self.now in
    let children = c.args.children.now in
    let order = c.args.order.now in
    inr (with_row n c.args.goal.now children order c.in-Some.row.now (sym c.in-Some.ensures) c.if-row.false
    (subst (λ (ls : List Literal). All (λ (x : Literal). (i : ℕ) × IsNeededAt (outlook_of n) (seen children order) (literal_of x) i) ls) c.as_slice.ensures.value
    (c.are_needed.ensures c.if-not-are_needed.false)) (c.give_within.ensures passes))
