-- Why the run of ground tasks fails: literals that are false, since when, and what makes them true.
use Rattle.std.specs.Prelude.{◌≡◌, ℕ, ◌<◌, ◌≤◌, List, [], ◌∷◌, length, take, slice_get, Bool, true, false, ◌&&◌, not, Option, Some, None, option_map, option_and_then, unwrap_or}
use Rattle.htn_model.specs.Atom.{Atom}
use Rattle.htn_model.specs.State.{State, contains}
use Rattle.htn_model.specs.Literal.{Action, Literal, atom, equality, holds, literal_holds}
use Rattle.htn_model.specs.Problem.{GroundTask, Problem}
use Rattle.plan_lines.specs.Run.{run_tasks, IsFailing}
use Rattle.plan_lines.specs.Turns.{History, literal_truth}
use Rattle.plan_causes.specs.declared.standing.Standing.{Standing}
use Rattle.plan_causes.specs.declared.standing.Standing.TheVariants.{Holds, False, FalseSince}
use Rattle.plan_causes.specs.declared.cause.RunCause.{RunCause}
use Rattle.plan_causes.specs.declared.cause.RunCause.TheVariants as cause

-- ## How literals stand

-- how a condition stands after a number of steps, by whether it holds after each number: it holds; it never did; or the
-- step of that number made it false, and none up to there made it true again
abbrev pub Stands : (ℕ → Bool → Type 0) → ℕ → Standing → Type 0
Stands IsSo steps Holds = IsSo steps true
Stands IsSo steps False = (k : ℕ) → k ≤ steps → IsSo k false
Stands IsSo steps (FalseSince n) = (n < steps) × IsSo n true × ((k : ℕ) → n < k → k ≤ steps → IsSo k false)

-- whether a literal holds in the state after the given number of the tasks
abbrev pub IsSoAfter : Problem → List GroundTask → Literal → ℕ → Bool → Type 0
IsSoAfter problem tasks l k b = (state : State) × (run_tasks problem problem.initial_state (take k tasks) ≡ Some state) × (literal_holds state l ≡ b)

-- how a literal stands after the given number of the tasks
abbrev pub StandsAfter : Problem → List GroundTask → ℕ → Literal → Standing → Type 0
StandsAfter problem tasks steps l standing = Stands (IsSoAfter problem tasks l) steps standing

-- each literal stands so, in turn
abbrev pub AreStandings : (Literal → Standing → Type 0) → List Literal → List Standing → Type 0
AreStandings StandsSo [] standings = standings ≡ []
AreStandings StandsSo (l ∷ literals) [] = ⊥
AreStandings StandsSo (l ∷ literals) (standing ∷ standings) = StandsSo l standing × AreStandings StandsSo literals standings

-- ## Causes

-- the literals of a task's precondition stand so, if it is an action
abbrev pub StandFor : Problem → (Literal → Standing → Type 0) → GroundTask → List Standing → Type 0
StandFor problem StandsSo g standings = (action : Action) → problem.action_of g ≡ Some action → AreStandings StandsSo action.precondition standings

-- the run ends in a state in which the goal holds, or doesn't
abbrev pub EndsWith : Problem → List GroundTask → Bool → Type 0
EndsWith problem tasks b = (state : State) × (run_tasks problem problem.initial_state tasks ≡ Some state) × (holds state problem.goal ≡ b)

-- the first task that can't be carried out, with its precondition; or the goal that fails; or neither
abbrev pub IsRunCause : Problem → List GroundTask → RunCause → Type 0
IsRunCause problem tasks (cause.Fails n standings) =
    IsFailing problem tasks n × ((g : GroundTask) → slice_get tasks n ≡ Some g → StandFor problem (StandsAfter problem tasks n) g standings.items)
IsRunCause problem tasks (cause.GoalFails standings) =
    EndsWith problem tasks false × AreStandings (StandsAfter problem tasks (length tasks)) problem.goal standings.items
IsRunCause problem tasks cause.Holds = EndsWith problem tasks true

-- ## What makes a literal true

-- whether an action makes a literal true, by its effects: it adds the atom, or deletes it and doesn't add it
abbrev pub makes : Literal → Action → Bool
makes (atom true a) action = contains action.adds a
makes (atom false a) action = contains action.deletes a && not (contains action.adds a)
makes (equality positive x y) action = false

-- whether the task of this number is an action that makes the literal true
abbrev pub is_setter : Problem → List GroundTask → Literal → ℕ → Bool
is_setter problem tasks l n = unwrap_or (option_map (makes l) (option_and_then problem.action_of (slice_get tasks n))) false

-- the first setter from a number on, if there is one
abbrev pub IsNextSetter : Problem → List GroundTask → Literal → ℕ → Option ℕ → Type 0
IsNextSetter problem tasks l from None = (k : ℕ) → from ≤ k → is_setter problem tasks l k ≡ false
IsNextSetter problem tasks l from (Some n) = (from ≤ n) × (is_setter problem tasks l n ≡ true) × ((k : ℕ) → from ≤ k → k < n → is_setter problem tasks l k ≡ false)

-- ---- what the code computes

-- the truth of a literal in a gap of a history, and since when
abbrev pub StandsIn : History → ℕ → Literal → Standing → Type 0
StandsIn h gap l standing = Stands (λ k b. literal_truth h l k ≡ b) gap standing
