-- Nodes in preorder and frames of a walk, without where they lie in memory.
use Rattle.std.specs.Prelude.{ℕ, List, map, reverse}
use Rattle.htn_model.specs.Instance.{Instance}
use Rattle.htn_ground.specs.Trees.{Numbering}
use Rattle.htn_plan.specs.Preorder as spec
use Rattle.htn_plan.specs.Walk.{Level, level_of}
use Rattle.htn_plan.specs.declared.preorder.Frame.{Frame}
use Rattle.htn_plan.specs.declared.preorder.Item.{Item}
use Rattle.htn_plan.specs.declared.preorder.Item.TheVariants.{Action, Step, Compound}

-- an item of the code as the definitions have it
abbrev pub item_of : Item → spec.Item Instance
item_of (Action id) = spec.action id
item_of Step = spec.step_item
item_of (Compound goal instance count) = spec.task goal.now instance.now count

-- items of the code as the definitions have them
abbrev pub items_of : List Item → List (spec.Item Instance)
items_of items = map item_of items

-- a node with the number of its instance
abbrev pub numbered_item : Numbering → spec.Item Instance → spec.Item ℕ
numbered_item numbers (spec.action id) = spec.action id
numbered_item numbers spec.step_item = spec.step_item
numbered_item numbers (spec.task goal instance count) = spec.task goal (numbers goal instance) count

-- the items, with numbers in place of the instances
abbrev pub numbered_items : Numbering → List Item → List (spec.Item ℕ)
numbered_items numbers items = map (numbered_item numbers) (items_of items)

-- the lowest level first
abbrev pub levels_of : Numbering → List Frame → List Level
levels_of numbers frames = map (level_of numbers) (reverse frames)
