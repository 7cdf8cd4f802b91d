-- Lines that name tasks, by their ids and by their numbers.
use Rattle.std.proofs.Common.{◌≡◌, ℕ, zero, suc, ◌+◌, ◌-◌, ◌<◌, ◌≤◌, List, [], ◌∷◌, length, map, Option, Some, slice_get, ◌⊎◌, inl, inr, refl, sym, ap, ap₂, ◌∙◌, subst, arith}
use Rattle.std.proofs.lemmas.Bool.{cases_lt}
use Rattle.std.proofs.lemmas.Option.{slice_get_within}
use Rattle.htn_model.specs.Problem.{GroundTask}
use Rattle.htn_model.specs.PlanFile.{ActionLine, PlanFile, Naming, IsWithoutRepeats, defined_ids, decomposition_ids}
use Rattle.htn_model.specs.Verdict.{Names, an_action, a_task, AreNamed}
use Rattle.htn_model.proofs.Ascending.{in_at, at_in}
use Rattle.plan_text.specs.Numbers.{AreNumbersOf}
use Rattle.plan_text.proofs.Bridged.{line_count}
use Rattle.plan_text.proofs.Listed.{action_id_at, decomposition_id_at, line_there, one_number, past_actions}
use Rattle.htn_verify.specs.Tasks.{AreNamedAs, HaveTasks}

-- an action line stands at each place below the count
action_there : (lines : List ActionLine) (i : ℕ) → i < length lines → (line : ActionLine) × (slice_get lines i ≡ Some line)
action_there [] i h = absurd (omega arith)
action_there (l ∷ lines) zero h = (l, refl)
action_there (l ∷ lines) (suc i) h = action_there lines i (omega arith)

-- one option holds one id
same_id : (o : Option ℕ) (x y : ℕ) → o ≡ Some x → o ≡ Some y → x ≡ y
same_id o x y e h = cc

module _ (naming : Naming) (file : PlanFile) (once : IsWithoutRepeats (defined_ids file)) (named_at : ℕ → Option GroundTask) (are : AreNamedAs naming file named_at) where
  -- the ids of the lines, by their numbers
  abbrev ids : List ℕ
  ids = defined_ids file

  -- what a line with an id names is what its number names
  pub by_number : (n id : ℕ) (t : GroundTask) → slice_get ids n ≡ Some id → Names naming file id t → named_at n ≡ Some t
  by_number n id t at (an_action line _ i named) =
      let (k, stands) = in_at line file.actions i in
      let here = action_id_at file.actions (decomposition_ids file.decompositions) k line stands in
      ap named_at (one_number ids once n k id at here) ∙ sym (are.actions k line stands) ∙ named
  by_number n id t at (a_task line _ i named) =
      let (j, stands) = in_at line file.decompositions i in
      let here = past_actions file.actions (decomposition_ids file.decompositions) j ∙ decomposition_id_at file.decompositions j line stands in
      ap named_at (one_number ids once n (length file.actions + j) id at here) ∙ sym (are.decompositions j line stands) ∙ named

  -- and the other way round
  pub by_id : (n id : ℕ) (t : GroundTask) → slice_get ids n ≡ Some id → named_at n ≡ Some t → Names naming file id t
  by_id n id t at named = by (cases_lt n (length file.actions))
    where
      by : (n < length file.actions) ⊎ (length file.actions ≤ n) → Names naming file id t
      by (inl low) =
          let (line, stands) = action_there file.actions n low in
          let here = action_id_at file.actions (decomposition_ids file.decompositions) n line stands in
          subst (λ k. Names naming file k t) (same_id (slice_get ids n) line.id id here at) (an_action line t (at_in line file.actions n stands) (are.actions n line stands ∙ named))
      by (inr high) =
          let all = line_count file in
          let within = slice_get_within ids n id at in
          let (line, stands) = line_there file.decompositions (n - length file.actions) (omega arith) in
          let whole : length file.actions + (n - length file.actions) ≡ n = omega arith in
          let here = past_actions file.actions (decomposition_ids file.decompositions) (n - length file.actions) ∙ decomposition_id_at file.decompositions (n - length file.actions) line stands in
          subst (λ k. Names naming file k t) (same_id (slice_get ids n) line.id id (subst (λ k. slice_get ids k ≡ Some line.id) whole here) at)
          (a_task line t (at_in line file.decompositions (n - length file.actions) stands) (are.decompositions (n - length file.actions) line stands ∙ ap named_at whole ∙ named))

  -- the same for several lines
  pub all_by_number : (numbers listed : List ℕ) (tasks : List GroundTask) → AreNumbersOf ids numbers listed → AreNamed naming file listed tasks → HaveTasks named_at numbers tasks
  all_by_number [] [] tasks are_numbers named = ap (map Some) (sym named)
  all_by_number [] (id ∷ listed) tasks are_numbers named = absurd cc
  all_by_number (n ∷ numbers) [] tasks are_numbers named = absurd cc
  all_by_number (n ∷ numbers) (id ∷ listed) [] are_numbers named = absurd named
  all_by_number (n ∷ numbers) (id ∷ listed) (t ∷ tasks) are_numbers named =
      let head : slice_get ids n ≡ Some id = cc in
      let tail : AreNumbersOf ids numbers listed = cc in
      ap₂ ◌∷◌ (by_number n id t head named.0) (all_by_number numbers listed tasks tail named.1)

  -- and back
  pub all_by_id : (numbers listed : List ℕ) (tasks : List GroundTask) → AreNumbersOf ids numbers listed → HaveTasks named_at numbers tasks → AreNamed naming file listed tasks
  all_by_id [] [] [] are_numbers have = refl
  all_by_id [] [] (t ∷ tasks) are_numbers have = absurd cc
  all_by_id [] (id ∷ listed) tasks are_numbers have = absurd cc
  all_by_id (n ∷ numbers) [] tasks are_numbers have = absurd cc
  all_by_id (n ∷ numbers) (id ∷ listed) [] are_numbers have = absurd cc
  all_by_id (n ∷ numbers) (id ∷ listed) (t ∷ tasks) are_numbers have =
      let head : slice_get ids n ≡ Some id = cc in
      let tail : AreNumbersOf ids numbers listed = cc in
      let task : named_at n ≡ Some t = cc in
      let others : HaveTasks named_at numbers tasks = cc in
      (by_id n id t head task, all_by_id numbers listed tasks tail others)
