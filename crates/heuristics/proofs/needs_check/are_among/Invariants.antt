use Rattle.std.proofs.Common.{All, Contains, take}
use Rattle.htn_task.specs.Literals.{literal_of, literals_of}
use Rattle.heuristics.proofs.needs_check.are_among.Given as goal

abbrev pub invariant-loop-literal : goal.invariant-loop-literal
invariant-loop-literal l = All (λ x. Contains (literals_of l.others) (literal_of x)) (take l.literal-index l.literals)
