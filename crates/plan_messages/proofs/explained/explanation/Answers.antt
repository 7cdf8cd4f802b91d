use Rattle.std.proofs.Common.{subst, sym}
use Rattle.std.specs.List.{AllZip}
use Rattle.plan_messages.specs.Explanation.{Explains, IsGoalError}
use Rattle.plan_causes.specs.Reasons.{AreOnce}
use Rattle.plan_messages.proofs.explained.explanation.Goals as goal

pub structure_errors-requires : goal.structure_errors-requires
structure_errors-requires c =
    let once = subst AreOnce c.in-Structure.is c.requires in
    record { defined_twice = once.0; listed_twice = once.1; undefined = once.2; unlisted = once.3 }

pub returns-in_ok-errors-in-Structure : goal.returns-in_ok-errors-in-Structure
returns-in_ok-errors-in-Structure c =
    subst (λ x. Explains c.args.texts.now x c.in_ok-errors-in-Structure.errors.items) (sym c.in-Structure.is) c.in_ok-errors-in-Structure.ensures

pub returns-in_ok-errors-in-NoInstance : goal.returns-in_ok-errors-in-NoInstance
returns-in_ok-errors-in-NoInstance c =
    subst (λ x. Explains c.args.texts.now x c.in_ok-errors-in-NoInstance.errors.items) (sym c.in-NoInstance.is)
    (c.in_ok-error-in-NoInstance.error, c.in_ok-errors-in-NoInstance.ensures, c.in_ok-error-in-NoInstance.ensures)

pub returns-in_ok-errors-in-NotExecutable : goal.returns-in_ok-errors-in-NotExecutable
returns-in_ok-errors-in-NotExecutable c =
    subst (λ x. Explains c.args.texts.now x c.in_ok-errors-in-NotExecutable.errors.items) (sym c.in-NotExecutable.is)
    (c.in_ok-error-in-NotExecutable.error, c.in_ok-errors-in-NotExecutable.ensures, c.in_ok-error-in-NotExecutable.ensures)

pub returns-in_ok-errors-in-GoalFails : goal.returns-in_ok-errors-in-GoalFails
returns-in_ok-errors-in-GoalFails c =
    subst (λ x. Explains c.args.texts.now x c.in_ok-errors-in-GoalFails.errors.items) (sym c.in-GoalFails.is)
    (subst (λ ls. AllZip (IsGoalError c.args.texts.now) ls c.in_ok-errors-in-GoalFails.errors.items) c.as_slice.ensures.value c.in_ok-errors-in-GoalFails.ensures)

pub returns-in_ok-errors-in-NoArrangement : goal.returns-in_ok-errors-in-NoArrangement
returns-in_ok-errors-in-NoArrangement c =
    subst (λ x. Explains c.args.texts.now x c.in_ok-errors-in-NoArrangement.errors.items) (sym c.in-NoArrangement.is)
    (c.in_ok-error-in-NoArrangement.error, c.in_ok-errors-in-NoArrangement.ensures, c.in_ok-error-in-NoArrangement.ensures)

pub returns-in-Valid : goal.returns-in-Valid
returns-in-Valid c = subst (λ x. Explains c.args.texts.now x c.new.result.items) (sym c.in-Valid.is) c.new.ensures.items
