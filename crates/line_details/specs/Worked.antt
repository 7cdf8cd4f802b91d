-- Small plan files with their details: what the definitions come to.
use Rattle.std.specs.Prelude.{◌≡◌, ℕ, [], ◌∷◌, true}
use Rattle.htn_model.specs.Literal.{atom}
use Rattle.htn_model.specs.Problem.{precondition, action, task, Network, Problem}
use Rattle.htn_model.specs.PlanFile.{PlanFile, Naming}
use Rattle.htn_model.specs.Sketch.{Sketch, sketched}
use Rattle.htn_model.specs.Examples.{fact, named, makes, idles, nothing, two_unordered, two_in_order}
use Rattle.htn_model.specs.WorkedFiles.{problem, names, work, action_line, errand_line, file_of}
use Rattle.line_details.specs.Details.{Details, AreDetails}

-- ## An errand that needs a fact before it idles, beside an action that makes the fact

-- idle once a fact is there
abbrev pub once : ℕ → Network
once n = record { children = precondition (atom true (fact n) ∷ []) ∷ action (named 3) ∷ []; order = two_in_order }

-- nobody makes fact 1
abbrev pub waiting : Sketch
waiting = record {
  initials = record { children = action (named 1) ∷ task (named 0) ∷ []; order = two_unordered } ∷ [];
  methods = (named 0, nothing ∷ once 1 ∷ once 0 ∷ []) ∷ [];
  actions = (named 1, makes 0) ∷ (named 3, idles) ∷ [];
  changed = 0 ∷ [];
  initial_atoms = [];
  goal = atom true (fact 0) ∷ [];
}

-- the errand as a problem
abbrev pub waiting_problem : Problem
waiting_problem = sketched waiting

-- 0 make / 1 idle / root 2 0 / 2 errand -> work 1
abbrev pub waited : PlanFile
waited = record { actions = action_line 0 1 ∷ action_line 1 3 ∷ []; roots = 2 ∷ 0 ∷ []; decompositions = errand_line 2 work (1 ∷ []) ∷ [] }

-- ## What the details are

-- there are details in which the line with this id is the instance with this number, with its first child, a step,
-- after this many actions
abbrev pub HasDetail : Naming → Problem → PlanFile → ℕ → ℕ → ℕ → Type 0
HasDetail naming problem file id number gap =
    (details : Details) × AreDetails naming problem file details × (details.number id ≡ number) × (details.gap id 0 ≡ gap)

-- the files have these details
pub record FilesHaveDetails : Type 0 where
  -- the errand is the second method's second instance, whose tool is at hand before all actions
  pub at_hand : HasDetail names problem (file_of 1 2 work) 3 2 0
  -- it waits for the fact that line 0 makes
  pub waits : HasDetail names waiting_problem waited 2 2 1
  -- and has no other details
  pub only : (details : Details) → AreDetails names waiting_problem waited details → (details.number 2 ≡ 2) × (details.gap 2 0 ≡ 1)
