use Rattle.std.proofs.Common.{inl, inr, refl, arith}
use Rattle.plan_picture.specs.Below.{itself, further}
use Rattle.plan_picture.proofs.laws.small_forest.Goals as goal

pub returns-clause-first : goal.returns-clause-first
returns-clause-first c = ((omega arith, further 2 0 0 (inr (inl refl)) (itself 0)), λ n h. omega arith)

pub returns-clause-order : goal.returns-clause-order
returns-clause-order c = refl

pub returns-clause-rows : goal.returns-clause-rows
returns-clause-rows c = refl
