-- Small plan files with their verdicts, one for each verdict: what the definitions come to.
use Rattle.std.specs.Prelude.{ℕ, zero, suc, List, [], ◌∷◌, ◌++◌, Some, None, true}
use Rattle.htn_model.specs.Literal.{atom}
use Rattle.htn_model.specs.Problem.{precondition, action, task, Network, Problem}
use Rattle.htn_model.specs.PlanFile.{Word, ActionLine, DecompositionLine, PlanFile, Naming}
use Rattle.htn_model.specs.Verdict.{structure, no_instance, not_executable, goal_fails, no_arrangement, valid, IsVerdict}
use Rattle.htn_model.specs.Sketch.{Sketch, sketched}
use Rattle.htn_model.specs.Examples.{fact, named, makes, needs, idles, nothing, two_unordered, two_in_order, three_in_order}

-- ## An errand, beside an action that does nothing. The errand is done by rest, by work or backwards

-- make a fact, then use it; the tool is a parameter of the method that neither the task nor the actions have
abbrev pub work_with : ℕ → Network
work_with tool = record {
  children = precondition (atom true (record { predicate = 1; arguments = tool ∷ [] }) ∷ []) ∷ action (named 1) ∷ action (named 2) ∷ [];
  order = three_in_order;
}

-- use the fact, then make it
abbrev pub backwards : Network
backwards = record { children = action (named 2) ∷ action (named 1) ∷ []; order = two_in_order }

-- only tool 1 is at hand
abbrev pub errand : Sketch
errand = record {
  initials = record { children = task (named 0) ∷ action (named 3) ∷ []; order = two_unordered } ∷ [];
  methods = (named 0, nothing ∷ work_with 0 ∷ work_with 1 ∷ backwards ∷ []) ∷ [];
  actions = (named 1, makes 0) ∷ (named 2, needs 0) ∷ (named 3, idles) ∷ [];
  changed = 0 ∷ [];
  initial_atoms = record { predicate = 1; arguments = 1 ∷ [] } ∷ [];
  goal = atom true (fact 0) ∷ [];
}

-- the errand as a problem
abbrev pub problem : Problem
problem = sketched errand

-- ## Its names, each a word of one number

-- the word of a number
abbrev pub word : ℕ → Word
word n = n ∷ []

-- the number of a word
abbrev pub number_in : Word → ℕ
number_in [] = 0
number_in (n ∷ more) = n

-- the name of the first method
abbrev pub rest : Word
rest = word 7

-- the name of the second and the third method
abbrev pub work : Word
work = word 8

-- the name of the fourth method
abbrev pub reverse_work : Word
reverse_work = word 9

-- the name of each method, one of them twice
abbrev pub method_names : ℕ → Word
method_names zero = rest
method_names (suc zero) = work
method_names (suc (suc zero)) = work
method_names (suc (suc (suc number))) = reverse_work

-- tasks and methods by these words
abbrev pub names : Naming
names = record {
  named = λ name arguments. Some (named (number_in name));
  task_name = λ t. word t.name;
  argument_names = λ t. [];
  method_name = λ t number. method_names number;
}

-- ## Files

-- an action line without arguments
abbrev pub action_line : ℕ → ℕ → ActionLine
action_line id name = record { id = id; name = word name; arguments = [] }

-- a line that decomposes the errand
abbrev pub errand_line : ℕ → Word → List ℕ → DecompositionLine
errand_line id method children = record { id = id; task = word 0; arguments = []; method = method; children = children }

-- 0 X / 1 idle / 2 Y / root 1 3 / 3 errand -> METHOD 2 0: neither roots nor children as they are declared
abbrev pub file_of : ℕ → ℕ → Word → PlanFile
file_of x y method = record {
  actions = action_line 0 x ∷ action_line 1 3 ∷ action_line 2 y ∷ [];
  roots = 1 ∷ 3 ∷ [];
  decompositions = errand_line 3 method (2 ∷ 0 ∷ []) ∷ [];
}

-- 1 idle / root 3 1 / 3 errand -> rest
abbrev pub rested : PlanFile
rested = record { actions = action_line 1 3 ∷ []; roots = 3 ∷ 1 ∷ []; decompositions = errand_line 3 rest [] ∷ [] }

-- 0 make / root 0
abbrev pub unlike_initial : PlanFile
unlike_initial = record { actions = action_line 0 1 ∷ []; roots = 0 ∷ []; decompositions = [] }

-- and a line that lists itself, which no root reaches
abbrev pub beside_circle : PlanFile
beside_circle =
    let file = file_of 1 2 work in
    record { actions = file.actions; roots = file.roots; decompositions = file.decompositions ++ errand_line 9 work (9 ∷ []) ∷ [] }

-- and a root that is listed twice
abbrev pub listed_twice : PlanFile
listed_twice = let file = file_of 1 2 work in record { actions = file.actions; roots = 1 ∷ 3 ∷ 1 ∷ []; decompositions = file.decompositions }

-- each of the files has the verdict that it was made for
pub record FilesHaveVerdicts : Type 0 where
  -- by the second method's second instance
  pub arranged : IsVerdict names problem (file_of 1 2 work) valid
  pub turned_round : IsVerdict names problem (file_of 1 2 reverse_work) no_arrangement
  pub never_made : IsVerdict names problem rested goal_fails
  pub made_late : IsVerdict names problem (file_of 2 1 work) (not_executable 0)
  pub no_rest : IsVerdict names problem (file_of 1 2 rest) (no_instance (Some 3))
  pub no_errand : IsVerdict names problem unlike_initial (no_instance None)
  pub unreached : IsVerdict names problem beside_circle structure
  pub repeated : IsVerdict names problem listed_twice structure
