use Rattle.std.proofs.Common.{◌≡◌, sym, subst}
use Rattle.std.proofs.lemmas.Result.{IfOk-weaker}
use Rattle.hddl_meaning.specs.Building.{IsTaskOf}
use Rattle.hddl_meaning.proofs.Limits.{initial_order_acyclic}
use Rattle.hddl_build.proofs.Bounds.{actions_bounded, goal_bounded, initial_bounded, methods_bounded}
use Rattle.hddl_build.proofs.Numbered.{numbered, methods_acyclic}
use Rattle.hddl_build.proofs.task.build.Goals as goal

pub parts_of-requires-clause-numbered : goal.parts_of-requires-clause-numbered
parts_of-requires-clause-numbered c = numbered c.args.domain.now c.args.problem.now c.args.vocabulary.now c.requires.fits c.requires.vocabulary

pub parts_of-requires-clause-orders : goal.parts_of-requires-clause-orders
parts_of-requires-clause-orders c = methods_acyclic c.args.domain.now c.args.problem.now c.requires.fits

pub parts_of-requires-clause-order : goal.parts_of-requires-clause-order
parts_of-requires-clause-order c = initial_order_acyclic c.args.domain.now c.args.problem.now c.requires.fits

pub parts_of-requires-clause-actions : goal.parts_of-requires-clause-actions
parts_of-requires-clause-actions c = actions_bounded c.args.domain.now c.args.problem.now c.requires.fits

pub parts_of-requires-clause-methods : goal.parts_of-requires-clause-methods
parts_of-requires-clause-methods c = methods_bounded c.args.domain.now c.args.problem.now c.requires.fits

pub parts_of-requires-clause-initial : goal.parts_of-requires-clause-initial
parts_of-requires-clause-initial c = initial_bounded c.args.domain.now c.args.problem.now c.requires.fits

pub parts_of-requires-clause-goal : goal.parts_of-requires-clause-goal
parts_of-requires-clause-goal c = goal_bounded c.args.domain.now c.args.problem.now c.requires.fits

pub returns : goal.returns
returns c =
    let is_task = IsTaskOf c.args.domain.now c.args.problem.now in
    IfOk-weaker c.new.result (λ t. t ≡ c.in_ok-parts.parts) is_task (λ t e. subst is_task (sym e) c.in_ok-parts.ensures) c.new.ensures
