use Rattle.std.proofs.Common.{drop}
use Rattle.htn_model.specs.Grounding.{problem_of}
use Rattle.htn_model.specs.Machine.{FinishesFrom}
use Rattle.htn_net.proofs.finish.finishes.Given as goal

-- the numbers that are left finish from here exactly if all do from the start
abbrev pub invariant-loop-number : goal.invariant-loop-number
invariant-loop-number l = record {
  onward : FinishesFrom (problem_of l.task) l.numbers l.initial.config → FinishesFrom (problem_of l.task) (drop l.number-index l.numbers) l.config;
  back : FinishesFrom (problem_of l.task) (drop l.number-index l.numbers) l.config → FinishesFrom (problem_of l.task) l.numbers l.initial.config;
}
