-- The literals that the nodes of networks want and give, and the needs of a network that follow.
use Rattle.std.specs.Prelude.{◌≡◌, ℕ, ◌<◌, ◌⊎◌, Bool, true, false, not, ◌&&◌, eqb, List, filter, length, Contains, Some, slice_get}
use Rattle.std.specs.List.{flat_map, list_any, range_with_len}
use Rattle.htn_model.specs.Atom.{Atom}
use Rattle.htn_model.specs.State.{contains}
use Rattle.htn_model.specs.Literal.{Literal, atom, Action, holds}
use Rattle.htn_model.specs.Problem.{Child, precondition, action, task, GroundTask, IsGrounded, Network, Problem, is_before}
use Rattle.htn_model.specs.Choice.{child_of}
use Rattle.htn_model.specs.Machine.{Config, IsDone}
use Rattle.htn_model.specs.Exhaustion.{is_dead, live_step}
use Rattle.task_graph.specs.Barred.{is_barred}
use Rattle.heuristics.specs.Measure.{is_as_at_first}

-- for each node: the literals that have to hold at some time before it has ended, those that may become true through
-- it, and whether it never ends
pub record Outlook : Type 0 where
  pub wants : Child → List Literal
  pub gives : Child → Literal → Bool
  pub is_blocked : Child → Bool

-- whether some number below a bound passes a test
abbrev pub some_below : (ℕ → Bool) → ℕ → Bool
some_below test n = list_any test (range_with_len 0 n)

-- whether the node at j may make a literal true for the node at i: it is another one, is not after it, and gives the
-- literal
abbrev pub may_give : Outlook → Network → Literal → ℕ → ℕ → Bool
may_give o n l i j = not (eqb i j) && (not (is_before n.order i j) && o.gives (child_of n.children j) l)

-- whether no node may make a literal true for the node at a position
abbrev pub is_ungiven : Outlook → Network → ℕ → Literal → Bool
is_ungiven o n i l = not (some_below (may_give o n l i) (length n.children))

-- the wants of the node at a position that no other node may make true for it
abbrev pub needed_at : Outlook → Network → ℕ → List Literal
needed_at o n i = filter (is_ungiven o n i) (o.wants (child_of n.children i))

-- the needs of a network for its nodes
abbrev pub needed : Outlook → Network → List Literal
needed o n = flat_map (needed_at o n) (range_with_len 0 (length n.children))

-- no node other than the one at a position, and not after it, gives a literal
abbrev pub IsUngiven : Outlook → Network → Literal → ℕ → Type 0
IsUngiven o n l i = (j : ℕ) → j < length n.children → (i ≡ j → ⊥) → is_before n.order i j ≡ false → o.gives (child_of n.children j) l ≡ false

-- the node at a position wants a literal, and no other that isn't after it gives it
pub record IsNeededAt (o : Outlook) (n : Network) (l : Literal) (i : ℕ) : Type 0 where
  pub within : i < length n.children
  pub wants : Contains (o.wants (child_of n.children i)) l
  pub ungiven : IsUngiven o n l i

-- the needs of a network for the goal: the goal's literals that no node gives
abbrev pub needed_goal : Outlook → List Literal → Network → List Literal
needed_goal o goal n = filter (λ l. not (list_any (λ x. o.gives x l) n.children)) goal

-- whether one of the nodes never ends
abbrev pub has_blocked : Outlook → Network → Bool
has_blocked o n = list_any o.is_blocked n.children

-- the network of a configuration
abbrev pub network_of : Config → Network
network_of c = record { children = c.open_nodes; order = c.order }

-- whether a configuration may end: it has no node that never ends, and all that its network needs holds in its state
abbrev pub may_end : Problem → Outlook → Config → Bool
may_end problem o c =
    not (has_blocked o (network_of c))
    && (holds c.state (needed o (network_of c)) && holds c.state (needed_goal o problem.goal (network_of c)))

-- a compound task wants only literals that this instance of it needs, and gives all that the instance's nodes give
pub record IsWithin (o : Outlook) (g : GroundTask) (n : Network) : Type 0 where
  pub ends : o.is_blocked (task g) ≡ false
  pub wants : (l : Literal) → Contains (o.wants (task g)) l → Contains (needed o n) l
  pub gives : (l : Literal) (x : Child) → Contains n.children x → o.gives x l ≡ true → o.gives (task g) l ≡ true

-- a step wants only its literals, and an action only those of its precondition; an action gives all its effects; and a
-- compound task is within each of its instances, but for dead ones and those with a node that never ends
pub record IsOutlook (problem : Problem) (o : Outlook) : Type 0 where
  pub step_wants : (literals : List Literal) (l : Literal) → Contains (o.wants (precondition literals)) l → Contains literals l
  pub step_ends : (literals : List Literal) → o.is_blocked (precondition literals) ≡ false
  pub action_wants : (g : GroundTask) (a : Action) (l : Literal) → problem.action_of g ≡ Some a → Contains (o.wants (action g)) l → Contains a.precondition l
  pub adds : (g : GroundTask) (a : Action) (x : Atom) → problem.action_of g ≡ Some a → contains a.adds x ≡ true → o.gives (action g) (atom true x) ≡ true
  pub deletes : (g : GroundTask) (a : Action) (x : Atom) → problem.action_of g ≡ Some a → contains a.deletes x ≡ true → o.gives (action g) (atom false x) ≡ true
  pub action_ends : (g : GroundTask) → o.is_blocked (action g) ≡ true → is_barred problem g ≡ true
  pub instances : (g : GroundTask) (number : ℕ) (n : Network) → slice_get (problem.methods_of g) number ≡ Some n → is_dead problem n ≡ false
      → (has_blocked o n ≡ true) ⊎ IsWithin o g n

-- where the static atoms are the initial ones: a configuration may end if one after a live step may, and a done one may
-- end
pub record Lasts (problem : Problem) (o : Outlook) : Type 0 where
  pub step : (c d : Config) (number : ℕ) → live_step problem c number ≡ Some d → is_as_at_first problem c.state ≡ true
      → may_end problem o d ≡ true → may_end problem o c ≡ true
  pub done : (c : Config) → IsDone problem c → may_end problem o c ≡ true

-- each outlook of a grounded problem has these laws
abbrev pub NeedsStay : Type 0
NeedsStay = (problem : Problem) (o : Outlook) → IsGrounded problem → IsOutlook problem o → Lasts problem o
