-- The trees before the moves of a word, computed from those after them.
use Rattle.std.specs.Prelude.{◌≡◌, ℕ, suc, ◌+◌, ◌-◌, ◌≤◌, List, [], ◌∷◌, ◌++◌, Option, Some, None, drop, length, take, ⊤}
use Rattle.htn_model.specs.Problem.{Child, precondition, action, task}
use Rattle.htn_model.specs.Tree.{Node, leaf, step, compound, no_nodes}
use Rattle.htn_model.specs.Choice.{child_of}
use Rattle.htn_model.specs.Instance.{Instance}
use Rattle.htn_model.specs.Machine.{Config, Choice}
use Rattle.htn_walk.specs.declared.change.Change.{Change}
use Rattle.htn_walk.specs.declared.change.Change.TheVariants.{Decomposed, Performed}
use Rattle.htn_ground.specs.Trees.{Numbering, node_of, over}
use Rattle.htn_walk.specs.declared.trail.Move.{Move}

-- an open node without children, where a compound task is decomposed by the instance of a number
abbrev pub bare : Child → ℕ → Node
bare (precondition literals) number = step literals
bare (action g) number = leaf g
bare (task g) number = compound g number no_nodes

-- the instance by which a change decomposes, if it does
abbrev pub decomposed_by : Change → Option Instance
decomposed_by (Decomposed instance) = Some instance
decomposed_by (Performed after) = None

-- the number of a compound task's instance
abbrev pub number_by : Numbering → Child → Option Instance → ℕ
number_by numbers (precondition literals) instance = 0
number_by numbers (action g) instance = 0
number_by numbers (task g) None = 0
number_by numbers (task g) (Some instance) = numbers g instance

-- the trees before a move, from those after it: the children's trees are replaced by one with the move's node over them
abbrev pub before_move : Numbering → Move → List Node → List Node
before_move numbers m trees =
    take m.position trees ++ over (node_of numbers m.node) (take m.children (drop m.position trees)) ∷ drop (m.position + m.children) trees

-- the trees before all moves, from those after them
abbrev pub before_moves : Numbering → List Move → List Node → List Node
before_moves numbers [] trees = trees
before_moves numbers (m ∷ moves) trees = before_move numbers m (before_moves numbers moves trees)

-- the number of trees before a move, if there are `count` after it
abbrev pub count_before : Move → ℕ → ℕ
count_before m count = suc (count - m.children)

-- the number of trees before all moves, if there are `count` after them
abbrev pub count_before_all : List Move → ℕ → ℕ
count_before_all [] count = count
count_before_all (m ∷ moves) count = count_before m (count_before_all moves count)

-- the children of each move are among the trees after it, if there are `count` trees after the last move
abbrev pub AreWithin : List Move → ℕ → Type 0
AreWithin [] count = ⊤
AreWithin (m ∷ moves) count = (m.position + m.children ≤ count_before_all moves count) × AreWithin moves count

-- the move records the choice of a number at a configuration
pub record IsMove (numbers : Numbering) (c : Config) (number : ℕ) (choice : Choice) (m : Move) : Type 0 where
  pub position : m.position ≡ choice.position
  pub node : node_of numbers m.node ≡ bare (child_of c.open_nodes choice.position) number
  pub children : m.children ≡ length choice.network.children
