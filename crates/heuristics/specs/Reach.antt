-- What is reached where each fact is on its own, and which configurations never end by that.
use Rattle.std.specs.Prelude.{◌≡◌, ℕ, Bool, true, false, not, ◌&&◌, ◌||◌, List, Some, slice_get}
use Rattle.std.specs.List.{list_all, list_any}
use Rattle.htn_model.specs.Literal.{Literal, Action}
use Rattle.htn_model.specs.Problem.{Child, precondition, action, task, GroundTask, IsGrounded, Network, Problem}
use Rattle.htn_model.specs.Machine.{Config, IsDone}
use Rattle.htn_model.specs.Exhaustion.{LeadsLive, is_dead, live_step}
use Rattle.task_graph.specs.Barred.{is_barred}
use Rattle.heuristics.specs.Measure.{is_as_at_first}
use Rattle.heuristics.specs.Facts.{Facts, are_possible, has_effects, is_within}

-- the facts that are reached; the nodes of which it is known that they lead nowhere else; those of them that never end
-- by the facts; and actions that are never carried out, whatever else happens
pub record Reach : Type 0 where
  pub facts : Facts
  pub is_known : Child → Bool
  pub is_blocked : Child → Bool
  pub is_barred : GroundTask → Bool

-- whether a node is an action that is never carried out
abbrev pub bars : Reach → Child → Bool
bars r (precondition literals) = false
bars r (action g) = r.is_barred g
bars r (task g) = false

-- whether the nodes of an instance are such as its task says: all are known if the task is, and one never ends if the
-- task doesn't
abbrev pub passes : Reach → GroundTask → List Child → Bool
passes r g children =
    (not (r.is_known (task g)) || list_all r.is_known children) && (not (r.is_blocked (task g)) || list_any r.is_blocked children)

-- barred actions are so in the problem; a known action has its effects among the facts, unless it never ends; a step
-- or an action that never ends needs a literal that never holds; and what is said of a task is so in each instance,
-- dead ones apart and those with a barred action
pub record IsRelaxedReach (problem : Problem) (r : Reach) : Type 0 where
  pub barred : (g : GroundTask) → r.is_barred g ≡ true → is_barred problem g ≡ true
  pub effects : (g : GroundTask) (a : Action) → problem.action_of g ≡ Some a → r.is_known (action g) ≡ true → r.is_blocked (action g) ≡ false
      → has_effects r.facts a ≡ true
  pub blocked_step : (literals : List Literal) → r.is_blocked (precondition literals) ≡ true → are_possible r.facts literals ≡ false
  pub blocked_action : (g : GroundTask) (a : Action) → problem.action_of g ≡ Some a → r.is_blocked (action g) ≡ true
      → are_possible r.facts a.precondition ≡ false
  pub instances : (g : GroundTask) (number : ℕ) (n : Network) → slice_get (problem.methods_of g) number ≡ Some n → is_dead problem n ≡ false
      → (list_any (bars r) n.children || passes r g n.children) ≡ true

-- whether a configuration may end: none of its nodes is barred, and none that never ends stands among known nodes only
-- in a state within the facts
abbrev pub may_end_by : Reach → Config → Bool
may_end_by r c =
    not (list_any (bars r) c.open_nodes)
    && not (is_within r.facts c.state && (list_all r.is_known c.open_nodes && list_any r.is_blocked c.open_nodes))

-- whether a configuration may be one that is reached: one of its nodes is barred, or its state is within the facts and all its nodes are known
abbrev pub is_reached : Reach → Config → Bool
is_reached r c = list_any (bars r) c.open_nodes || (is_within r.facts c.state && list_all r.is_known c.open_nodes)

-- whether nothing ever ends a node of such a configuration
abbrev pub is_lost_node : Reach → Child → Bool
is_lost_node r x = r.is_blocked x || bars r x

-- where the static atoms are the initial ones: a configuration may end if one after a live step may, a done one may
-- end, and so may each one from which live steps lead to a done one
pub record ReachLasts (problem : Problem) (r : Reach) : Type 0 where
  pub step : (c d : Config) (number : ℕ) → live_step problem c number ≡ Some d → is_as_at_first problem c.state ≡ true
      → may_end_by r d ≡ true → may_end_by r c ≡ true
  pub done : (c : Config) → IsDone problem c → may_end_by r c ≡ true
  pub ends : (word : List ℕ) (c last : Config) → LeadsLive problem word c last → IsDone problem last → is_as_at_first problem c.state ≡ true
      → may_end_by r c ≡ true

-- each relaxed reach of a grounded problem has these laws
abbrev pub ReachStays : Type 0
ReachStays = (problem : Problem) (r : Reach) → IsGrounded problem → IsRelaxedReach problem r → ReachLasts problem r

-- where the static atoms are the initial ones: a live step from a configuration that may be reached leads to one that
-- may be; and such a configuration may end exactly where none of its nodes never ends
pub record ReachedStay (problem : Problem) (r : Reach) : Type 0 where
  pub stays : (c d : Config) (number : ℕ) → live_step problem c number ≡ Some d → is_as_at_first problem c.state ≡ true
      → is_reached r c ≡ true → is_reached r d ≡ true
  pub told : (c : Config) → is_reached r c ≡ true → may_end_by r c ≡ not (list_any (is_lost_node r) c.open_nodes)

-- each relaxed reach of a grounded problem keeps these properties
abbrev pub ReachedStays : Type 0
ReachedStays = (problem : Problem) (r : Reach) → IsGrounded problem → IsRelaxedReach problem r → ReachedStay problem r
