-- How many of a network's children are subtasks.
use Rattle.std.proofs.Common.{◌≡◌, ℕ, suc, ◌+◌, ◌≤◌, ◌<◌, List, [], ◌∷◌, length, get_or, drop, refl, ap, ◌∙◌, sym, arith, length-drop, drop-cons}
use Rattle.htn_model.specs.Problem as model
use Rattle.htn_task.specs.declared.literal.LiteralList.{LiteralList}
use Rattle.htn_model.specs.Fits.{subtask_positions}
use Rattle.htn_ground.specs.Views.{children_of}
use Rattle.htn_ground.specs.declared.child.Child.{Child}
use Rattle.htn_ground.specs.declared.child.Child.TheVariants.{Precondition, Action, Task}

-- 1 for a task or an action, 0 for a step
abbrev pub one_if_subtask : Child → ℕ
one_if_subtask (Precondition literals) = 0
one_if_subtask (Action t) = 1
one_if_subtask (Task t) = 1

-- how many of the nodes are subtasks
abbrev pub subtasks : List Child → ℕ
subtasks [] = 0
subtasks (c ∷ children) = one_if_subtask c + subtasks children

-- as many as there are positions of subtasks
pub subtasks_are : (i : ℕ) (children : List Child) → length (subtask_positions i (children_of children)) ≡ subtasks children
subtasks_are i [] = refl
subtasks_are i (Precondition literals ∷ children) = (let more = subtasks_are (suc i) children in omega arith)
subtasks_are i (Action t ∷ children) = (let more = subtasks_are (suc i) children in omega arith)
subtasks_are i (Task t ∷ children) = (let more = subtasks_are (suc i) children in omega arith)

-- no more than there are nodes
subtasks_low : (children : List Child) → subtasks children ≤ length children
subtasks_low [] = omega arith
subtasks_low (Precondition literals ∷ children) = (let more = subtasks_low children in omega arith)
subtasks_low (Action t ∷ children) = (let more = subtasks_low children in omega arith)
subtasks_low (Task t ∷ children) = (let more = subtasks_low children in omega arith)

-- what is no step is a subtask
pub is_subtask : (c : Child) → ((x : LiteralList) → c ≡ Precondition x → ⊥) → one_if_subtask c ≡ 1
is_subtask (Precondition literals) none = absurd (none literals refl)
is_subtask (Action t) none = refl
is_subtask (Task t) none = refl

-- with one more counted it is no more than the nodes
pub counted_low : (children : List Child) (i count : ℕ) (c : Child) → i < length children → c ≡ get_or children i c → one_if_subtask c ≡ 1
    → count + subtasks (drop i children) ≡ subtasks children → count + 1 ≤ length children
counted_low children i count c low is one so =
    let e = ap subtasks (drop-cons children i c low) in
    let f : one_if_subtask (get_or children i c) ≡ 1 = ap one_if_subtask (sym is) ∙ one in
    let g = subtasks_low children in omega arith

-- once all nodes are gone over, all subtasks are counted
pub counted : (children : List Child) (nodes : List model.Child) (i count : ℕ) → children_of children ≡ nodes → length children ≤ i → count + subtasks (drop i children) ≡ subtasks children
    → count ≡ length (subtask_positions 0 nodes)
counted children nodes i count e past so =
    let f = subtasks_low (drop i children) in
    let g = length-drop i children in
    let h = subtasks_are 0 children in
    let k : length (subtask_positions 0 (children_of children)) ≡ length (subtask_positions 0 nodes) = ap (λ ns. length (subtask_positions 0 ns)) e in
    omega arith
