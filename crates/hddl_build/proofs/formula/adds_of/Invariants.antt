use Rattle.std.proofs.Common.{◌≡◌, take}
use Rattle.hddl_meaning.specs.Building.{effects_of}
use Rattle.hddl_build.proofs.formula.adds_of.Given as goal

abbrev pub invariant-loop-literal : goal.invariant-loop-literal
invariant-loop-literal l = l.atoms.items ≡ effects_of l.vocabulary l.scope (λ b. b) (take l.literal-index l.effect)
