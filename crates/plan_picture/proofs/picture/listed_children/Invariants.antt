use Rattle.std.proofs.Common.{◌≡◌, take}
use Rattle.plan_text.specs.Forest.{lists_of}
use Rattle.plan_picture.proofs.picture.listed_children.Given as goal

-- those so far
abbrev pub invariant-loop-place : goal.invariant-loop-place
invariant-loop-place l = lists_of l.lists.items ≡ take l.place l.forest.children
