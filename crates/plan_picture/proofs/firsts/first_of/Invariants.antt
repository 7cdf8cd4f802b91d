use Rattle.std.proofs.Common.{take}
use Rattle.plan_text.specs.Forest.{lists_of}
use Rattle.plan_text.specs.Reached.{children_at}
use Rattle.plan_picture.specs.Below.{IsLeast}
use Rattle.plan_picture.proofs.Earliest.{IsBelowOne}
use Rattle.plan_picture.proofs.firsts.first_of.Given as goal

-- the first action of those so far
abbrev pub invariant-loop-child : goal.invariant-loop-child
invariant-loop-child l =
    IsLeast (IsBelowOne l.actions (children_at l.actions (lists_of l.children)) (take l.child-index (children_at l.actions (lists_of l.children) l.line))) l.first
