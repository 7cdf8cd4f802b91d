use Rattle.std.proofs.Common.{◌≡◌, map, take}
use Rattle.htn_task.specs.Literals.{literals_of}
use Rattle.plan_findings.specs.Words.{literal_text}
use Rattle.plan_text.specs.Forest.{lists_of}
use Rattle.htn_review.proofs.details.texts_of.Given as goal

abbrev pub invariant-loop-literal : goal.invariant-loop-literal
invariant-loop-literal l = lists_of l.texts.items ≡ map (literal_text l.task) (literals_of (take l.literal-index l.literals))
