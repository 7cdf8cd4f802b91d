-- What the code tests of lines and of their run, for the lines of a file.
use Rattle.std.proofs.Common.{◌≡◌, ℕ, ◌+◌, ◌<◌, ◌↔◌, List, [], length, map, take, get_or, Option, Some, slice_get, Bool, IsTrue, refl, sym, ap, ap₂, ◌∙◌, subst, arith}
use Rattle.std.proofs.lemmas.List.{length-take}
use Rattle.std.proofs.lemmas.Option.{slice_get_read, slice_get_within}
use Rattle.htn_model.specs.Literal.{Literal}
use Rattle.htn_model.specs.Problem.{GroundTask, Problem}
use Rattle.htn_model.specs.PlanFile.{Word, ActionLine, DecompositionLine, PlanFile, Naming}
use Rattle.htn_model.specs.Verdict.{Line, action_line, decomposition_line, root_line, action_lines, decomposition_lines, HasInstance, IsFirstFailing, Ends}
use Rattle.plan_text.specs.Forest.{Forest, IsForestOf}
use Rattle.plan_lines.specs.Run.{IsFailing, IsHistoryOf}
use Rattle.plan_lines.specs.Turns.{History, literals_truth}
use Rattle.htn_verify.specs.Faults.{NamesAction, NamesInitial, NamesInstance}
use Rattle.htn_verify.specs.Named.{named_tasks, named_at}
use Rattle.htn_verify.specs.Tasks.{AreNamedAs}
use Rattle.htn_verify.proofs.Faulted.{action_line_at, decomposition_line_at}
use Rattle.htn_verify.proofs.Instanced.{instance_moved}
use Rattle.htn_verify.proofs.Running.{runs_are_of_lines}
use Rattle.htn_verify.proofs.Showing.{instances_by_tasks}
use Rattle.htn_verify.proofs.Tabled.{are_named, action_tasks}

-- the line at a place that was read
read_at : {X : Type 0} (lines own : List X) → lines ≡ own → (i : ℕ) → i < length lines → (line : X) → line ≡ get_or lines i line → slice_get own i ≡ Some line
read_at lines own same i low line is = ap (λ ls. slice_get ls i) (sym same) ∙ slice_get_read lines (length lines) i line refl low is

-- a line stands among the lines, and has an instance exactly where the test is passed
pub record IsTested (Has : Line → Type 0) (lines : List Line) (i : ℕ) (line : Line) (passed : Bool) : Type 0 where
  pub stands : slice_get lines i ≡ Some line
  pub has : Has line ↔ IsTrue passed

module _ (naming : Naming) (problem : Problem) (file : PlanFile) (table : List (Option GroundTask)) (is : table ≡ named_tasks naming file) where
  -- the table is what the lines name
  named_so : AreNamedAs naming file (named_at table)
  named_so = subst (λ ts. AreNamedAs naming file (named_at ts)) (sym is) (are_named naming file)

  -- an action line is tested
  pub action_tested : (lines : List ActionLine) → lines ≡ file.actions → (i : ℕ) → i < length lines → (line : ActionLine) → line ≡ get_or lines i line
      → (passed : Bool) → IsTrue passed ↔ NamesAction problem (named_at table) i
      → IsTested (HasInstance naming problem file) (action_lines file.actions) i (action_line line) passed
  action_tested lines same i low line read passed names =
      let at = read_at lines file.actions same i low line read in
      let law = (instances_by_tasks naming problem).action file (named_at table) named_so i line at in
      record { stands = action_line_at file.actions i line at; has = ((λ h. names.1 (law.0 h)), (λ h. law.1 (names.0 h))) }

  -- a decomposition line is
  pub decomposition_tested : (forest : Forest) → IsForestOf file forest → (lines : List DecompositionLine) → lines ≡ file.decompositions → (j : ℕ) → j < length lines
      → (line : DecompositionLine) → line ≡ get_or lines j line → (actions : List ActionLine) → actions ≡ file.actions → (method : Word) → method ≡ line.method
      → (children : List ℕ) → children ≡ get_or forest.children j [] → (passed : Bool)
      → IsTrue passed ↔ NamesInstance naming problem (named_at table) (length actions + j) method children
      → IsTested (HasInstance naming problem file) (decomposition_lines file.decompositions) j (decomposition_line line) passed
  decomposition_tested forest of lines same j low line read actions first method named children below passed names =
      let at = read_at lines file.decompositions same j low line read in
      let law = (instances_by_tasks naming problem).decomposition file forest (named_at table) of named_so j line at in
      let here = instance_moved naming problem (named_at table) (length actions + j) (length file.actions + j) method line.method children (get_or forest.children j []) passed
      (ap (λ ls. length ls + j) first) named below names in
      record { stands = decomposition_line_at file.decompositions j line at; has = ((λ h. here.1 (law.0 h)), (λ h. law.1 (here.0 h))) }

  -- and the root line is
  pub root_tested : (forest : Forest) → IsForestOf file forest → (roots : List ℕ) → roots ≡ forest.roots → (passed : Bool) → IsTrue passed ↔ NamesInitial problem (named_at table) roots
      → HasInstance naming problem file (root_line file.roots) ↔ IsTrue passed
  root_tested forest of roots same passed names =
      let law = (instances_by_tasks naming problem).roots file forest (named_at table) of named_so in
      let here = subst (λ ns. IsTrue passed ↔ NamesInitial problem (named_at table) ns) same names in
      ((λ h. here.1 (law.0 h)), (λ h. law.1 (here.0 h)))

module _ (naming : Naming) (problem : Problem) (file : PlanFile) (tasks : List GroundTask) (is : map Some tasks ≡ named_tasks naming file) where
  -- where the tasks of the action lines fail, their line is the first that does
  pub fails_so : (lines : List ActionLine) → lines ≡ file.actions → (i : ℕ) → IsFailing problem (take (length lines) tasks) i → (line : ActionLine) → line ≡ get_or lines i line
      → (id : ℕ) → id ≡ line.id → IsFirstFailing naming problem file id
  fails_so lines same i failing line read id is_id =
      let below = slice_get_within (take (length lines) tasks) i failing.task failing.is in
      let short = length-take (length lines) tasks in
      let low : i < length lines = omega arith in
      let own = subst (λ ls. IsFailing problem (take (length ls) tasks) i) same failing in
      let at = read_at lines file.actions same i low line read in
      subst (IsFirstFailing naming problem file) (sym is_id)
      ((runs_are_of_lines naming problem).fails file (take (length file.actions) tasks) (action_tasks naming file tasks is) i own line at)

  -- otherwise the lines run, and this tells whether the goal holds
  pub ends_so : (lines : List ActionLine) → lines ≡ file.actions → (h : History) → IsHistoryOf problem (take (length lines) tasks) h
      → (goal : List Literal) → goal ≡ problem.goal → (found : Bool) → found ≡ literals_truth h goal (length lines)
      → (holds : Bool) → found ≡ holds → Ends naming problem file holds
  ends_so lines same h history goal literals found truth holds is_so =
      let own = subst (λ ls. IsHistoryOf problem (take (length ls) tasks) h) same history in
      let so = sym is_so ∙ truth ∙ ap₂ (λ ls k. literals_truth h ls k) literals (ap length same) in
      subst (Ends naming problem file) (sym so)
      ((runs_are_of_lines naming problem).ends file (take (length file.actions) tasks) h (action_tasks naming file tasks is) own)
