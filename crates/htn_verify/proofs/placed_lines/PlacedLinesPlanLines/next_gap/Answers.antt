use Rattle.std.proofs.Common.{subst}
use Rattle.plan_lines.specs.Turns.{IsNextGap, literals_truth}
use Rattle.htn_verify.proofs.Candidates.{next_same}
use Rattle.htn_verify.proofs.placed_lines.PlacedLinesPlanLines.next_gap.Goals as goal

pub returns : goal.returns
returns c =
    let s = c.args.self.now in
    next_same s.task.now s.file.now s.forest.now s.tasks.now s.turns.now s.placed c.args.literals.now c.args.from c.args.last c.next_gap.result c.requires
    (subst (λ ls. IsNextGap (literals_truth s.turns.now ls) c.args.from c.args.last c.next_gap.result) c.as_slice.ensures c.next_gap.ensures)
