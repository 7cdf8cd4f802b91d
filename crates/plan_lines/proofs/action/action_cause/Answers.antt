use Rattle.std.proofs.Common.{subst, sym}
use Rattle.std.proofs.lemmas.Bool.{both_ways}
use Rattle.htn_ground.specs.Naming.{naming_of}
use Rattle.htn_model.specs.Grounding.{problem_of}
use Rattle.htn_model.specs.Task.{Task}
use Rattle.htn_model.specs.Verdict.{HasInstance, action_line}
use Rattle.plan_lines.specs.Words.{IsActionCause}
use Rattle.plan_lines.proofs.action.action_cause.Goals as goal

pub returns-then-branch : goal.returns-then-branch
returns-then-branch c file =
    subst (λ (t : Task). HasInstance (naming_of t) (problem_of t) file (action_line c.args.line.now)) c.new-names.ensures ((c.in_ok-names_action.ensures file).0 c.if-branch.true)

pub cause_of-requires : goal.cause_of-requires
cause_of-requires c file has = both_ways _ c.if-branch.false ((c.in_ok-names_action.ensures file).1 has)

pub returns : goal.returns
returns c file = (
  (λ has. both_ways _ c.if-branch.false
      ((c.in_ok-names_action.ensures file).1 (subst (λ (t : Task). HasInstance (naming_of t) (problem_of t) file (action_line c.args.line.now)) (sym c.new-names.ensures) has))),
  subst (λ (t : Task). IsActionCause t c.args.line.now.name c.args.line.now.arguments c.in_ok-cause.cause) c.new-names.ensures c.in_ok-cause.ensures,
)
