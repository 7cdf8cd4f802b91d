use Rattle.std.proofs.Common.{◌≡◌, List, ℕ, take}
use Rattle.state_table.specs.Compiled.{all_hold, is_met}
use Rattle.heuristics.specs.ListedNeeds.{all_pass}
use Rattle.heuristics.specs.declared.wants.Want.{Want}
use Rattle.heuristics.proofs.want_table.compiled_of.Given as goal

-- the literals of the ids so far
abbrev pub invariant-loop-id : goal.invariant-loop-id
invariant-loop-id l = (words : List ℕ) → all_hold words l.found ≡ all_pass (λ (w : Want). is_met words w.literal) l.wants (take l.id-index l.ids)
