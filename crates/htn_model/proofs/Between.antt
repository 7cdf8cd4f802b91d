-- The states between action lines that run.
use Rattle.std.proofs.Common.{◌≡◌, ℕ, zero, suc, true, List, [], ◌∷◌, ◌++◌, length, Option, Some, None, slice_get, option_and_then, inl, inr, sym, refl, ap, ◌∙◌, subst}
use Rattle.htn_model.specs.State.{State}
use Rattle.htn_model.specs.Literal.{holds}
use Rattle.htn_model.specs.Problem.{Problem}
use Rattle.htn_model.specs.PlanFile.{ActionLine, DecompositionLine, PlanFile, Naming, IsIn}
use Rattle.htn_model.specs.Verdict.{action_line, decomposition_line, root_line, action_lines, decomposition_lines, lines_of, perform_line, run_lines, Has, AllHave, Ends}
use Rattle.htn_model.specs.Shown.{LinesRun}
use Rattle.htn_model.proofs.Ascending.{all_in, in_left, in_right}
use Rattle.htn_model.proofs.Planted.{AreNamedLines}

module _ (naming : Naming) (problem : Problem) where
  -- a state that may be there, or else another
  abbrev state_or : State → Option State → State
  state_or state None = state
  state_or state (Some next) = next

  -- the state after so many of the lines
  pub states_from : State → List ActionLine → ℕ → State
  states_from state [] i = state
  states_from state (line ∷ lines) zero = state
  states_from state (line ∷ lines) (suc i) = states_from (state_or state (perform_line naming problem state line)) lines i

  -- no line has come
  at_start : (state : State) (lines : List ActionLine) → states_from state lines 0 ≡ state
  unfolding states_from
  at_start state [] = refl
  at_start state (line ∷ lines) = refl

  -- each line performs, up to the last state
  record Passes (state : State) (lines : List ActionLine) (last : State) : Type 0 where
    performs : (i : ℕ) (line : ActionLine) → slice_get lines i ≡ Some line
        → perform_line naming problem (states_from state lines i) line ≡ Some (states_from state lines (suc i))
    ends : states_from state lines (length lines) ≡ last

  -- lines that run pass
  passes : (lines : List ActionLine) (state last : State) → run_lines naming problem state lines ≡ Some last → Passes state lines last
  unfolding states_from
  passes [] state last e = record { performs = λ i line h. absurd cc; ends = (let same : state ≡ last = cc in same) }
  passes (l ∷ lines) state last e = by (perform_line naming problem state l) refl e (λ next. passes lines next last)
    where
      by : (next : Option State) → perform_line naming problem state l ≡ next → option_and_then (λ s. run_lines naming problem s lines) next ≡ Some last
          → ((s : State) → run_lines naming problem s lines ≡ Some last → Passes s lines last) → Passes state (l ∷ lines) last
      by None is go more = absurd cc
      by (Some next) is go more =
          let m = more next go in
          let first : state_or state (perform_line naming problem state l) ≡ next = ap (state_or state) is in
          record {
            performs = λ i. elim i as (λ k. (line : ActionLine) → slice_get (l ∷ lines) k ≡ Some line
                → perform_line naming problem (states_from state (l ∷ lines) k) line ≡ Some (states_from state (l ∷ lines) (suc k))) [
                  | zero ↦ (λ line h. let same : l ≡ line = cc in
                      subst (λ x. perform_line naming problem state x ≡ Some (states_from (state_or state (perform_line naming problem state l)) lines 0)) same
                      (is ∙ ap Some (sym first ∙ sym (at_start (state_or state (perform_line naming problem state l)) lines))))
                  | suc k ↦ (λ line h. subst (λ s. perform_line naming problem (states_from s lines k) line ≡ Some (states_from s lines (suc k))) (sym first) (m.performs k line h))
                ];
            ends = subst (λ s. states_from s lines (length lines) ≡ last) (sym first) m.ends;
          }

  -- so there are the states between them
  pub lines_run : (file : PlanFile) → Ends naming problem file true → LinesRun naming problem file (states_from problem.initial_state file.actions)
  lines_run file (last, goes, goal) =
      let p = passes file.actions problem.initial_state last goes in
      record {
        starts = at_start problem.initial_state file.actions;
        performs = p.performs;
        ends = subst (λ s. holds s problem.goal ≡ true) (sym p.ends) goal;
      }

  -- ## Named lines

  -- an action line is a line
  in_actions : (line : ActionLine) (lines : List ActionLine) → IsIn line lines → IsIn (action_line line) (action_lines lines)
  in_actions line [] i = absurd i
  in_actions line (l ∷ lines) (inl same) = inl (ap action_line same)
  in_actions line (l ∷ lines) (inr i) = inr (in_actions line lines i)

  -- a decomposition line is a line
  in_decompositions : (line : DecompositionLine) (lines : List DecompositionLine) → IsIn line lines → IsIn (decomposition_line line) (decomposition_lines lines)
  in_decompositions line [] i = absurd i
  in_decompositions line (l ∷ lines) (inl same) = inl (ap decomposition_line same)
  in_decompositions line (l ∷ lines) (inr i) = inr (in_decompositions line lines i)

  -- lines with instances have names
  pub lines_named : (file : PlanFile) → AllHave naming problem file → AreNamedLines naming file
  lines_named file all = record {
    actions = λ line i.
        let has = all_in (Has naming problem file) (action_line line) (lines_of file) all (in_left (action_line line) (action_lines file.actions ++ decomposition_lines file.decompositions) (root_line file.roots ∷ [])
        (in_left (action_line line) (action_lines file.actions) (decomposition_lines file.decompositions) (in_actions line file.actions i))) in
        (has.0, has.2);
    decompositions = λ line i.
        let has = all_in (Has naming problem file) (decomposition_line line) (lines_of file) all
        (in_left (decomposition_line line) (action_lines file.actions ++ decomposition_lines file.decompositions) (root_line file.roots ∷ [])
        (in_right (decomposition_line line) (action_lines file.actions) (decomposition_lines file.decompositions) (in_decompositions line file.decompositions i))) in
        (has.0, has.3);
  }
