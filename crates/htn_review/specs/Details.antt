-- What a picture says of the lines of a valid plan beyond what the plan says: the values of those parameters of methods
-- that the tasks don't show, and when the methods' preconditions are tested.
use Rattle.std.specs.Prelude.{◌≡◌, ℕ, Bool, false, if◌then◌else◌, nat_eq, List, [], ◌∷◌, map, option_map, Option, Some, None, slice_get, slice_index}
use Rattle.std.specs.List.{AllZip, enumerate_from, flat_map, list_any}
use Rattle.hddl_words.specs.declared.domain.DomainText.{DomainText}
use Rattle.hddl_words.specs.declared.domain.MethodText.{MethodText}
use Rattle.hddl_words.specs.declared.term.VariableGroup.{VariableGroup}
use Rattle.htn_ground.specs.Naming.{naming_of, object_name, task_named}
use Rattle.htn_model.specs.Grounding.{problem_of}
use Rattle.htn_model.specs.Instance.{Instance}
use Rattle.htn_model.specs.Instances.{methods_of}
use Rattle.htn_model.specs.PlanFile.{DecompositionLine, PlanFile}
use Rattle.htn_model.specs.Problem.{Child, precondition, action, GroundTask}
use Rattle.htn_model.specs.Problem as problem
use Rattle.htn_model.specs.Schema.{Term, parameter, object}
use Rattle.htn_model.specs.Task.{MethodSchema, Task}
use Rattle.picture_text.specs.declared.detail.Condition.{Condition}
use Rattle.picture_text.specs.declared.detail.Detail.{Detail}
use Rattle.picture_text.specs.declared.detail.Setting.{Setting}
use Rattle.line_details.specs.Details.{AreDetails, Details}
use Rattle.plan_findings.specs.Words.{literal_text}
use Rattle.plan_text.specs.Forest.{lists_of}

-- the parameters of a method as they are written
abbrev pub names_of : List VariableGroup → List (List ℕ)
names_of groups = flat_map (λ g. map (λ v. v.text) g.variables) groups

-- whether a term is the parameter at a place
abbrev pub is_parameter : ℕ → Term → Bool
is_parameter k (parameter p) = nat_eq p k
is_parameter k (object o) = false

-- a parameter with its value, unless it is among the arguments
abbrev pub setting_if : Task → List Term → List ℕ → ℕ × List ℕ → List (List ℕ × List ℕ)
setting_if t arguments values p =
    if list_any (is_parameter p.0) arguments then [] else (p.1, object_name t (slice_index values p.0)) ∷ []

-- those parameters of a method with their values that are not among the arguments of its task
abbrev pub settings_of : Task → MethodText → MethodSchema → List ℕ → List (List ℕ × List ℕ)
settings_of t text method values = flat_map (setting_if t method.task.arguments values) (enumerate_from 0 (names_of text.parameters))

-- the literals of a step, and how many actions are carried out before it is tested
abbrev pub condition_at : Task → ℕ → Child → Option (List (List ℕ) × ℕ)
condition_at t gap (precondition literals) = Some (map (literal_text t) literals, gap)
condition_at t gap (action g) = None
condition_at t gap (problem.task g) = None

-- the same of the first of some nodes, where that is a step: the other nodes of a method's instance are subtasks
abbrev pub condition_in : Task → ℕ → List Child → Option (List (List ℕ) × ℕ)
condition_in t gap [] = None
condition_in t gap (node ∷ nodes) = condition_at t gap node

-- a parameter and its value
abbrev pub seen_setting : Setting → List ℕ × List ℕ
seen_setting setting = (setting.name.items, setting.object.items)

-- a precondition's literals, and its gap
abbrev pub seen_condition : Condition → List (List ℕ) × ℕ
seen_condition condition = (lists_of condition.literals.items, condition.gap)

-- a detail shows the instance of a method whose step is tested after this number of actions
pub record ShowsInstance (d : DomainText) (t : Task) (instance : Instance) (gap : ℕ) (found : Detail) : Type 0 where
  pub number : ℕ
  pub text : MethodText
  pub method : MethodSchema
  pub number_is : instance.method ≡ Some number
  pub text_is : slice_get d.methods number ≡ Some text
  pub method_is : slice_get t.methods number ≡ Some method
  pub settings : map seen_setting found.settings.items ≡ settings_of t text method instance.values
  pub condition : option_map seen_condition found.condition ≡ condition_in t gap instance.network.children

-- a detail shows the instance that a line has by details of its file
pub record ShowsLine (d : DomainText) (t : Task) (details : Details) (line : DecompositionLine) (found : Detail) : Type 0 where
  pub g : GroundTask
  pub instance : Instance
  pub named : task_named t line.task line.arguments ≡ Some g
  pub is_instance : slice_get (methods_of t g) (details.number line.id) ≡ Some instance
  pub shows : ShowsInstance d t instance (details.gap line.id 0) found

-- for each decomposition line what it is in one solution whose shadow the file is
pub record ShowSolution (d : DomainText) (t : Task) (file : PlanFile) (found : List Detail) : Type 0 where
  pub details : Details
  pub are : AreDetails (naming_of t) (problem_of t) file details
  pub each : AllZip (ShowsLine d t details) file.decompositions found
