-- What a search by calls is, and what it has found.
use Rattle.std.specs.Prelude.{◌≡◌, ℕ, Option, IfSome}
use Rattle.std.specs.declared.alloc.Global.{Global}
use Rattle.std.specs.declared.vec.Vec.{Vec}
use Rattle.htn_model.specs.Grounding.{problem_of}
use Rattle.htn_model.specs.Task.{Task}
use Rattle.htn_walk.specs.Listed.{listing_machine}
use Rattle.word_machine.specs.Answer.{IsLeastFinishing}
use Rattle.heuristics.specs.Measure.{IsLowerMeasure}
use Rattle.heuristics.specs.Sizes.{size_of}
use Rattle.call_nodes.specs.Nodes.{AreNodes}
use Rattle.call_search.specs.declared.calls.Calls.{Calls}
use Rattle.call_search.specs.declared.trial.Trial.{Trial}

-- the word, if one was found, is the least finishing one within the bound, and what is explored are nodes of the task
abbrev pub AreRight : Task → ℕ → Option (Vec ℕ Global) → Option Trial → Type 0
AreRight t bound word trial =
    IfSome word (λ w. IsLeastFinishing (listing_machine t) bound w.items) × IfSome trial (λ x. AreNodes t x.nodes)

-- the sizes of the nodes are lower bounds, and what a search by calls has found is right
abbrev pub IsRight : Calls → Type 0
IsRight c = IsLowerMeasure (problem_of c.task.now) (size_of c.sizes.now) × AreRight c.task.now c.bound c.word c.trial

-- a search by calls of the same task within the same bound, which is right if the other one is
abbrev pub IsSameSearch : Calls → Calls → Type 0
IsSameSearch c d = (d.task.now ≡ c.task.now) × (d.bound ≡ c.bound) × (IsRight c → IsRight d)
