-- The parameters that occur in a schema's network.
use Rattle.std.specs.Prelude.{◌≡◌, ◌<◌, ◌≤◌, ◌++◌, ◌||◌, ◌∷◌, Bool, List, false, get_or, length, nat_eq, true, ℕ}
use Rattle.std.specs.List.{list_any}
use Rattle.htn_model.specs.Instance.{Instance}
use Rattle.htn_model.specs.Instances.{state_formulas}
use Rattle.htn_model.specs.Problem.{Network}
use Rattle.htn_model.specs.Schema.{Formula, Formulas, TaskSchema, Term, equation, for_all, formula, literal, no_formulas, object, parameter}
use Rattle.htn_model.specs.State.{State}
use Rattle.htn_ground.specs.declared.fixed.FixedLiteral.{FixedLiteral}
use Rattle.htn_ground.specs.declared.relation.Relation.{Relation}
use Rattle.htn_ground.specs.Search.{is_ruled_out, relation_singles, some_starts_at}

-- whether a term is the parameter of that number
abbrev pub is_parameter : ℕ → Term → Bool
is_parameter place (parameter p) = nat_eq p place
is_parameter place (object o) = false

abbrev mutual
  -- whether a parameter occurs in a formula
  pub stands_in : ℕ → Formula → Bool
  stands_in place (literal positive a) = list_any (is_parameter place) a.arguments
  stands_in place (equation e) = is_parameter place e.left || is_parameter place e.right
  stands_in place (for_all types body) = stands_in_any place body

  -- whether a parameter occurs in one of the formulas
  pub stands_in_any : ℕ → Formulas → Bool
  stands_in_any place no_formulas = false
  stands_in_any place (formula f fs) = stands_in place f || stands_in_any place fs

-- the parameter is an argument of the task
abbrev pub stands_in_task : ℕ → TaskSchema → Bool
stands_in_task place s = list_any (is_parameter place) s.arguments

-- whether a parameter occurs in the precondition step or in a subtask
abbrev pub is_shown : List Formula → List TaskSchema → ℕ → Bool
is_shown precondition subtasks place = list_any (stands_in place) (state_formulas precondition) || list_any (stands_in_task place) subtasks

-- the networks of the instances do not depend on the parameters that are not shown, and none passes that a literal
-- rules out
pub record Ignores (state : State) (literals : List FixedLiteral) (shown : List Bool) (passes : Network → Bool) (make : List ℕ → Instance) : Type 0 where
  pub hidden : (values more : List ℕ) (o x : ℕ) → get_or shown (length values) true ≡ false → (make (values ++ o ∷ more)).network ≡ (make (values ++ x ∷ more)).network
  pub ruled_out : (values : List ℕ) → is_ruled_out state literals values ≡ true → passes (make values).network ≡ false

-- no parameter from a place on is shown
abbrev pub AreHiddenFrom : List Bool → ℕ → Type 0
AreHiddenFrom shown place = (k : ℕ) → place ≤ k → k < length shown → get_or shown k true ≡ false

-- for each of the first `count` parameters whether it is shown
pub record AreShown (precondition : List Formula) (subtasks : List TaskSchema) (count : ℕ) (shown : List Bool) : Type 0 where
  pub long : length shown ≡ count
  pub each : (k : ℕ) → k < count → get_or shown k true ≡ is_shown precondition subtasks k

-- a parameter that is not shown, in no relation to a later one, and an object that all relations allow there
pub record StandsForAll (relations : List Relation) (shown : List Bool) (values : List ℕ) (object : ℕ) : Type 0 where
  pub hidden : get_or shown (length values) true ≡ false
  pub starts : some_starts_at relations (length values) ≡ false
  pub allowed : relation_singles relations values (length values) object ≡ true
