use Rattle.std.proofs.Common.{ℕ, List, ◌++◌, take}
use Rattle.std.specs.List.{AllZip, zip}
use Rattle.htn_model.specs.PlanFile.{action_ids}
use Rattle.plan_messages.specs.Mentions.{IsMention}
use Rattle.plan_messages.proofs.mentions.add_actions.Given as goal

abbrev pub invariant-loop-number : goal.invariant-loop-number
invariant-loop-number l = (before : List (ℕ × ℕ)) → AllZip (IsMention l.text) before l.initial.mentions.items
    → AllZip (IsMention l.text) (before ++ zip (action_ids (take l.number l.lines)) l.places) l.mentions.items
