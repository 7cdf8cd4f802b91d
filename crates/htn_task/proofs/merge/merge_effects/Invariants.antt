use Rattle.std.proofs.Common.{length, ◌-◌, ◌≡◌, ◌+◌, ◌≤◌, drop, ◌++◌}
use Rattle.htn_task.specs.Merge.{merge, merge_first, kept}
use Rattle.htn_task.proofs.merge.merge_effects.Given as goal

-- what is merged so far, and the merge of what is left, make the whole
abbrev pub invariant-loop-atom : goal.invariant-loop-atom
invariant-loop-atom l =
    (l.added ≤ length l.adds)
    × (l.merged.items ++ merge (kept l.deletes (drop l.atom-index l.state)) (drop l.added l.adds) ≡ merge (kept l.deletes l.state) l.adds)

-- the same, with the state's next atom in hand
abbrev pub invariant-loop-added : goal.invariant-loop-added
invariant-loop-added l =
    (l.added ≤ length l.adds)
    × (l.merged.items ++ merge_first l.atom (merge (kept l.deletes (drop (l.atom-index + 1) l.state))) (drop l.added l.adds) ≡ merge (kept l.deletes l.state) l.adds)

abbrev pub decreases-loop-added : goal.decreases-loop-added
decreases-loop-added l = length l.adds - l.added

abbrev pub invariant-loop-added-2 : goal.invariant-loop-added-2
invariant-loop-added-2 l =
    (l.added ≤ length l.adds)
    × (l.merged.items ++ drop l.added l.adds ≡ merge (kept l.deletes l.state) l.adds)

abbrev pub decreases-loop-added-2 : goal.decreases-loop-added-2
decreases-loop-added-2 l = length l.adds - l.added
