-- What a watch of a search writes.
use Rattle.std.proofs.Common.{◌≡◌, ℕ, ◌+◌, ◌-◌, ◌<◌, ◌≤◌, Bool, List, Option, Some, None, IfSome, SomeIff, Result, Ok, Err, arith, inl, inr}
use Rattle.htn_model.specs.Answer.{IsAnswer}
use Rattle.htn_model.specs.Grounding.{problem_of}
use Rattle.htn_model.specs.Task.{Task}
use Rattle.htn_model.specs.Tree.{total_size}
use Rattle.plan_text.specs.Out.{Writes}
use Rattle.htn_search.specs.Answer.{HasNoneBelow}
use Rattle.htn_run.specs.Lines.{GetsLine}

-- an output to which a line was written got it
pub gets_written : {T E : Type 0} (old new : Option (List ℕ)) (had has : Bool) (r : Result T E) (line : List ℕ) → Writes old new had has r line → GetsLine old new has line
gets_written old new had has (Ok x) line h = inl h.0
gets_written old new had has (Err e) line h = inr (h.0, h.1)

-- a number of nodes below which no solution is, as one that no solution is within
pub none_within : (task : Task) (nodes : ℕ) (within : Option ℕ) → SomeIff within (1 ≤ nodes) (nodes - 1) → HasNoneBelow task nodes
    → IfSome within (λ n. IsAnswer (problem_of task) n None)
none_within task nodes None is none = tt
none_within task nodes (Some n) is none = λ s solves. (
    let above : 1 ≤ nodes = is.0 in
    let less : n ≡ nodes - 1 = is.1 in
    let size : nodes ≤ total_size s.trees = none s solves in
    omega arith)
