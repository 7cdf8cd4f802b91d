-- The run of a plan's actions: what is true at first, and what each action changes.
use Rattle.std.specs.Prelude.{◌≡◌, ◌⊎◌, ℕ, ◌+◌, List, ◌∷◌, map, length, take, slice_get, Some}
use Rattle.std.specs.Cmp.Lexicographic.{slice_cmp}
use Rattle.std.specs.List.{filter}
use Rattle.std.specs.List.Sorted.{IsPermutation, IsSorted}
use Rattle.std.specs.Ordering.{nat_cmp}
use Rattle.std.specs.declared.cmp.Ordering.{Ordering}
use Rattle.htn_ground.specs.Naming.{object_name}
use Rattle.htn_model.specs.Atom.{Atom}
use Rattle.htn_model.specs.Grounding.{is_changed, problem_of}
use Rattle.htn_model.specs.PlanFile.{Word}
use Rattle.htn_model.specs.Literal.{Action, after}
use Rattle.htn_model.specs.Problem.{GroundTask, perform_action}
use Rattle.htn_model.specs.State.{State, atoms_of, contains, difference}
use Rattle.htn_model.specs.Task.{Task}
use Rattle.plan_findings.specs.Words.{predicate_name}
use Rattle.plan_causes.specs.Facts.{words_of}
use Rattle.plan_causes.specs.declared.run.Change.{Change}
use Rattle.plan_causes.specs.declared.run.Fact.{Fact}
use Rattle.plan_causes.specs.declared.run.Run.{Run}
use Rattle.plan_lines.specs.Run.{IsFailing, run_tasks}
use Rattle.plan_lines.specs.Turns.{History, truth}

-- ## Facts

-- the words of an atom: the name of its predicate, and those of its objects
abbrev pub fact_words : Task → Atom → List Word
fact_words t a = predicate_name t a.predicate ∷ map (object_name t) a.arguments

-- lists of words by their first word, then by their second, and so on; words in the same way by their bytes
abbrev pub words_cmp : List Word → List Word → Ordering
words_cmp = slice_cmp (slice_cmp nat_cmp)

-- exactly these atoms as words, in the order of their words
pub record AreFacts (t : Task) (atoms : List Atom) (facts : List Fact) : Type 0 where
  pub same : IsPermutation (map (fact_words t) atoms) (map words_of facts)
  pub sorted : IsSorted words_cmp (map words_of facts)

-- ## Changes

-- what is true after and not before is added, and what is true before and not after is deleted
pub record IsChange (t : Task) (before after : State) (c : Change) : Type 0 where
  pub added : AreFacts t (atoms_of (difference after before)) c.added.items
  pub deleted : AreFacts t (atoms_of (difference before after)) c.deleted.items

-- the first tasks, this many, lead from the initial state to this one
abbrev pub Reaches : Task → List GroundTask → ℕ → State → Type 0
Reaches t tasks k state = run_tasks (problem_of t) t.initial_atoms (take k tasks) ≡ Some state

-- what the task of a number changes, of the state that those before it lead to
abbrev pub IsChangeOf : Task → List GroundTask → ℕ → Change → Type 0
IsChangeOf t tasks k c = (before : State) × (after : State) × Reaches t tasks k before × Reaches t tasks (k + 1) after × IsChange t before after c

-- what each of some tasks changes, of which all can be carried out
pub record AreChangesOf (t : Task) (tasks : List GroundTask) (changes : List Change) : Type 0 where
  pub as_many : length changes ≡ length tasks
  pub each : (k : ℕ) (c : Change) → slice_get changes k ≡ Some c → IsChangeOf t tasks k c

-- what an action changes in the state in which exactly the atoms are true that are so in a gap
abbrev pub IsChangeIn : Task → History → ℕ → Action → Change → Type 0
IsChangeIn t h k action c = (before : State) → ((a : Atom) → contains before a ≡ truth h a k) → IsChange t before (after before action) c

-- the change is that of a ground task, if it can be carried out there
abbrev pub IsChangeBy : Task → History → ℕ → GroundTask → Change → Type 0
IsChangeBy t h k g c =
    (before : State) → (next : State) → ((a : Atom) → contains before a ≡ truth h a k) → perform_action before ((problem_of t).action_of g) ≡ Some next → IsChange t before next c

-- ## Runs

-- the atoms of the initial state that actions may change
abbrev pub initial_fluents : Task → List Atom
initial_fluents t = filter (λ a. is_changed t a.predicate) (atoms_of t.initial_atoms)

-- what each task changes, of all, or of those before the first that can't be carried out
pub record AreFirstChanges (t : Task) (tasks : List GroundTask) (changes : List Change) : Type 0 where
  pub ends : (length changes ≡ length tasks) ⊎ IsFailing (problem_of t) tasks (length changes)
  pub each : (k : ℕ) (c : Change) → slice_get changes k ≡ Some c → IsChangeOf t tasks k c

-- what is true at first and may change, and what the tasks change, as far as they can be carried out
pub record IsRunOf (t : Task) (tasks : List GroundTask) (r : Run) : Type 0 where
  pub start : AreFacts t (initial_fluents t) r.start.items
  pub changes : AreFirstChanges t tasks r.changes.items
