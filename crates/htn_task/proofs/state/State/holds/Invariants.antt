use Rattle.std.proofs.Common.{◌≡◌, drop}
use Rattle.htn_model.specs.Literal.{holds}
use Rattle.htn_task.specs.Literals.{literals_of}
use Rattle.htn_task.proofs.state.State.holds.Given as goal

-- the literals that are left decide
abbrev pub invariant-loop-literal : goal.invariant-loop-literal
invariant-loop-literal l = holds l.self (literals_of (drop l.literal-index l.literals)) ≡ holds l.self (literals_of l.literals)
