-- The literals that nodes want and give, by rows.
use Rattle.std.specs.Prelude.{ℕ, ◌/◌, ◌%◌, Bool, true, false, List, [], get_or, Option, Some, None, slice_get, option_and_then}
use Rattle.std.specs.List.{list_any, position}
use Rattle.htn_model.specs.Literal.{Literal as ModelLiteral, literal_eq}
use Rattle.htn_model.specs.Problem.{Child, precondition, action, task, GroundTask, child_eq, ground_task_eq}
use Rattle.htn_order.specs.BitRows.{is_set}
use Rattle.htn_task.specs.Literals.{literal_of, literals_of}
use Rattle.htn_ground.specs.Views.{child_view}
use Rattle.heuristics.specs.Needs.{Outlook}
use Rattle.heuristics.specs.declared.needs.Needs.{Needs}
use Rattle.heuristics.specs.declared.rows.Row.{Row}

-- whether a ground task is in a list
abbrev pub is_among : List GroundTask → GroundTask → Bool
is_among tasks g = list_any (ground_task_eq g) tasks

-- the position of a ground task in a list, if it is there
abbrev pub number_of : List GroundTask → GroundTask → Option ℕ
number_of tasks g = position (ground_task_eq g) tasks

-- the row of a compound task, if it has one
abbrev pub task_row : Needs → GroundTask → Option Row
task_row n g = option_and_then (slice_get n.rows.task_rows.items) (number_of n.tasks.keys g)

-- the row of a step or an action, if it has one
abbrev pub leaf_row : Needs → Child → Option Row
leaf_row n x = option_and_then (slice_get n.rows.leaf_rows.items) (position (λ y. child_eq x (child_view y)) n.rows.leaves.keys)

-- the row of a node, if it has one
abbrev pub row_of : Needs → Child → Option Row
row_of n (precondition literals) = leaf_row n (precondition literals)
row_of n (action g) = leaf_row n (action g)
row_of n (task g) = task_row n g

-- the literals that a node wants by its row; none without a row
abbrev pub wants_by : Option Row → List ModelLiteral
wants_by None = []
wants_by (Some r) = literals_of r.wants.items

-- whether a number is marked, as a bit of a list of words; no number is not
abbrev pub is_marked : List ℕ → Option ℕ → Bool
is_marked marks None = false
is_marked marks (Some number) = is_set (get_or marks (number / 64) 0) (number % 64)

-- whether a node gives the literal of a number by its row; a node without a row gives every literal
abbrev pub gives_by : Option Row → Option ℕ → Bool
gives_by None number = true
gives_by (Some r) number = is_marked r.gives.items number

-- whether a task never ends by its row
abbrev pub blocked_by : Option Row → Bool
blocked_by None = false
blocked_by (Some r) = r.is_blocked

-- whether a node never ends: an action that is never carried out, or a task by its row
abbrev pub blocks : Needs → Child → Bool
blocks n (precondition literals) = false
blocks n (action g) = is_among n.barred.keys g
blocks n (task g) = blocked_by (task_row n g)

-- the number of a literal among those of the rows, if it has one
abbrev pub literal_number : Needs → ModelLiteral → Option ℕ
literal_number n l = position (λ m. literal_eq l (literal_of m)) n.rows.literals.keys

-- the outlook by the rows
abbrev pub outlook_of : Needs → Outlook
outlook_of n = record {
  wants = λ x. wants_by (row_of n x);
  gives = λ x l. gives_by (row_of n x) (literal_number n l);
  is_blocked = blocks n;
}
