use Rattle.task_machine.specs.Site.{HasMade}
use Rattle.task_machine.proofs.machine.TaskMachine.add_decomposed.Given as goal

-- the successors by the numbers so far
abbrev pub invariant-loop-number : goal.invariant-loop-number
invariant-loop-number l =
    HasMade l.self.task.now l.self.sizes l.self.prospects l.site l.number l.fn.successors.items l.successors.items
