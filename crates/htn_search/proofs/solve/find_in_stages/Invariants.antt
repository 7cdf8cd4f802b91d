use Rattle.word_machine.specs.Answer.{NoneFinishesBefore}
use Rattle.htn_walk.specs.Listed.{listing_machine}
use Rattle.htn_search.proofs.solve.find_in_stages.Given as goal

-- no word finishes in fewer steps than are known
abbrev pub invariant-loop-stage : goal.invariant-loop-stage
invariant-loop-stage g l = record {
  known : NoneFinishesBefore (listing_machine l.task) l.known;
  becomes : g.W.Watch.becomes l.fn.watch l.watch;
}
