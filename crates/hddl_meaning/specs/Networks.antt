-- The order that a network's text declares, on the positions of its subtasks.
use Rattle.std.specs.Prelude.{ℕ, Bool, false, cond, List, [], ◌∷◌, ◌++◌, length, Option, Some, None}
use Rattle.std.specs.List.{flat_map, position}
use Rattle.hddl_words.specs.Names.{Name}
use Rattle.hddl_words.specs.declared.network.NetworkText.{NetworkText}
use Rattle.htn_model.specs.Problem.{Order, IsSquare}
use Rattle.htn_order.specs.Closure.{IsClosureOf, successors}
use Rattle.hddl_meaning.specs.Mentions.{Text, folded}
use Rattle.hddl_meaning.specs.Names.{is_same_text}

-- whether a label is there and has that text
abbrev pub is_text : Text → Option Name → Bool
is_text text None = false
is_text text (Some label) = is_same_text text (folded label.text)

-- the subtask that has the label
abbrev pub labelled : NetworkText → Name → Option ℕ
labelled n name = position (λ s. is_text (folded name.text) s.label) n.subtasks

-- the pair of two numbers, if both are there
abbrev pub pair_of : Option ℕ → Option ℕ → List (ℕ × ℕ)
pair_of (Some a) (Some b) = (a, b) ∷ []
pair_of (Some a) None = []
pair_of None b = []

-- the pairs of `:ordering`
abbrev pub written_pairs : NetworkText → List (ℕ × ℕ)
written_pairs n = flat_map (λ o. pair_of (labelled n o.before) (labelled n o.after)) n.orderings

-- the pairs of `:ordering`, and each subtask with the next one where the list is ordered
abbrev pub order_pairs : NetworkText → List (ℕ × ℕ)
order_pairs n = cond n.is_ordered (successors (length n.subtasks)) [] ++ written_pairs n

-- the order is the closure of the pairs
pub record IsOrderOf (n : NetworkText) (order : Order) : Type 0 where
  pub square : IsSquare (length n.subtasks) order
  pub closure : IsClosureOf (order_pairs n) order
