use Rattle.htn_model.specs.Grounding.{problem_of}
use Rattle.htn_net.specs.Choices.{IsPerformance}
use Rattle.htn_net.specs.declared.choice.Performance.{Performance}
use Rattle.htn_walk.proofs.Numbers.{is_live_at}
use Rattle.htn_net.proofs.Performed.{AreCollected}
use Rattle.htn_net.proofs.perform.performances.Given as goal

-- those of the free nodes so far
abbrev pub invariant-loop-number : goal.invariant-loop-number
invariant-loop-number l =
    AreCollected (IsPerformance (problem_of l.task) l.config) (λ (p : Performance). p.number) (is_live_at (problem_of l.task) l.config) l.number l.found.items
