-- Lists of nodes that have numbers by their first node and the list behind it.
use Rattle.std.specs.Prelude.{◌≡◌, ℕ, ◌<◌, [], ◌∷◌, length, Some}
use Rattle.indexmap.specs.IndexMap.{IndexMap, get}
use Rattle.call_table.specs.Lists.{Lists, list_at}
use Rattle.call_nodes.specs.Cells.{cell_eq}
use Rattle.call_nodes.specs.declared.cell.Cell.{Cell}

-- the list of this number is the node and then those of the list behind it
pub record IsBefore (l : Lists) (q : Cell) (number : ℕ) : Type 0 where
  pub known : number < length l.lists
  pub rest : q.rest < length l.lists
  pub is : list_at l number ≡ q.first ∷ list_at l q.rest

-- number 0 is the empty list, and what is looked up is its number
pub record AreNumbered {S : Type 0} (l : Lists) (numbers : IndexMap Cell ℕ S) : Type 0 where
  pub some : 0 < length l.lists
  pub empty : list_at l 0 ≡ []
  pub told : (q : Cell) (number : ℕ) → get cell_eq numbers q ≡ Some number → IsBefore l q number
