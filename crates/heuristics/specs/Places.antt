-- The places of rows, so that each row is looked up once.
use Rattle.std.specs.Prelude.{◌≡◌, ◌++◌, ◌&&◌, ◌||◌, ℕ, Bool, false, not, eqb, get_or, List, map, Option, None, slice_get}
use Rattle.std.specs.List.{list_any}
use Rattle.htn_model.specs.Literal.{Literal}
use Rattle.htn_model.specs.Problem.{is_before, Network, Order}
use Rattle.heuristics.specs.Needs.{needed, needed_goal, Outlook}
use Rattle.heuristics.specs.Rows.{blocks, gives_by, is_marked, literal_number, outlook_of, row_of}
use Rattle.heuristics.specs.declared.given.Given.{Given}
use Rattle.heuristics.specs.declared.needs.Needs.{Needs}
use Rattle.heuristics.specs.declared.places.Place.{Place}
use Rattle.heuristics.specs.declared.places.Spot.{Spot}
use Rattle.heuristics.specs.declared.places.Spot.TheVariants.{Nowhere, Task, Leaf}
use Rattle.heuristics.specs.declared.rows.Row.{Row}

-- the row at a spot, if it has one
abbrev pub row_at : Needs → Spot → Option Row
row_at n Nowhere = None
row_at n (Task number) = slice_get n.rows.task_rows.items number
row_at n (Leaf number) = slice_get n.rows.leaf_rows.items number

-- the place at a position of a list; past the last one that of a node without a row
abbrev pub place_at : List Place → ℕ → Place
place_at places i = get_or places i (record { spot = Nowhere; is_blocked = false })

-- whether the literal of a number may become true through one of the nodes
abbrev pub is_given_by : Needs → List Place → Option ℕ → Bool
is_given_by n places number = list_any (λ (p : Place). gives_by (row_at n p.spot) number) places

-- whether the node at j may make the literal of a number true for the node at i: it is another one, and not after it
abbrev pub may_give_by : Needs → List Place → Order → Option ℕ → ℕ → ℕ → Bool
may_give_by n places order number i j = not (eqb i j) && (not (is_before order i j) && gives_by (row_at n (place_at places j).spot) number)

-- the places are those of a network's nodes, in their order
pub record ArePlaces (n : Needs) (places : List Place) (network : Network) : Type 0 where
  pub rows : map (λ (p : Place). row_at n p.spot) places ≡ map (row_of n) network.children
  pub blocked : map (λ (p : Place). p.is_blocked) places ≡ map (blocks n) network.children

-- whether the literal of a number is among those that at least one of some nodes gives
abbrev pub has_given : Given → Option ℕ → Bool
has_given given number = given.is_all || is_marked given.marks.items number

-- the given literals are those that at least one of a network's nodes gives
abbrev pub AreGiven : Needs → Network → Given → Type 0
AreGiven n network given = (l : Literal) → has_given given (literal_number n l) ≡ list_any (λ x. (outlook_of n).gives x l) network.children

-- all needs of a network, for its nodes and for a goal
abbrev pub all_needed : Outlook → List Literal → Network → List Literal
all_needed o goal n = needed o n ++ needed_goal o goal n
