-- How literals stand, and what is the same in gaps and in states.
use Rattle.std.proofs.Common.{◌≡◌, ℕ, ◌+◌, ◌<◌, ◌≤◌, Bool, true, false, List, [], ◌∷◌, ◌++◌, length, take, get_or, Some, refl, sym, ap, ◌∙◌, subst, arith}
use Rattle.std.proofs.lemmas.List.{length-take-le, map-append, take-take, take_all, take_more}
use Rattle.htn_model.specs.Literal.{Literal}
use Rattle.htn_model.specs.Problem.{GroundTask, Problem}
use Rattle.htn_task.specs.Literals.{literal_of, literals_of}
use Rattle.htn_task.specs.declared.literal.Literal.{Literal as Program}
use Rattle.plan_lines.specs.Run.{run_tasks, IsHistoryOf}
use Rattle.plan_lines.specs.Turns.{History, literal_truth, literals_truth}
use Rattle.plan_lines.proofs.Going.{same_literal, same_literals}
use Rattle.plan_causes.specs.declared.standing.Standing.{Standing}
use Rattle.plan_causes.specs.declared.standing.Standing.TheVariants.{Holds, False, FalseSince}
use Rattle.plan_causes.specs.Causes.{AreStandings, EndsWith, IsSoAfter, StandFor, Stands, StandsAfter, StandsIn}

-- ## Lists

-- one literal more
pub stands_more : (StandsSo : Literal → Standing → Type 0) (literals : List Literal) (standings : List Standing) (l : Literal) (s : Standing)
    → AreStandings StandsSo literals standings → StandsSo l s → AreStandings StandsSo (literals ++ l ∷ []) (standings ++ s ∷ [])
stands_more StandsSo [] standings l s are is =
    subst (λ ss. AreStandings StandsSo (l ∷ []) (ss ++ s ∷ [])) (sym are) (is, refl)
stands_more StandsSo (m ∷ literals) [] l s are is = absurd are
stands_more StandsSo (m ∷ literals) (t ∷ standings) l s are is = (are.0, stands_more StandsSo literals standings l s are.1 is)

-- what follows of each standing
pub stand_alike : (One Other : Literal → Standing → Type 0) → ((l : Literal) (s : Standing) → One l s → Other l s)
    → (literals : List Literal) (standings : List Standing) → AreStandings One literals standings → AreStandings Other literals standings
stand_alike One Other each [] standings are = are
stand_alike One Other each (l ∷ literals) [] are = are
stand_alike One Other each (l ∷ literals) (s ∷ standings) are = (each l s are.0, stand_alike One Other each literals standings are.1)

-- ## Steps

-- what follows for each number of steps
pub stands_alike : (One Other : ℕ → Bool → Type 0) (steps : ℕ) → ((k : ℕ) (b : Bool) → k ≤ steps → One k b → Other k b) → (s : Standing)
    → Stands One steps s → Stands Other steps s
stands_alike One Other steps each Holds is = each steps true (omega arith) is
stands_alike One Other steps each False is = λ k h. each k false h (is k h)
stands_alike One Other steps each (FalseSince n) is = (is.0, each n true (let l = is.0 in omega arith) is.1, (λ k l h. each k false h (is.2 k l h)))

-- ## States

module _ (problem : Problem) (tasks : List GroundTask) (n : ℕ) (h : History) (run : IsHistoryOf problem (take n tasks) h) (low : n ≤ length tasks) where
  -- what is so in a gap is so in the state there
  so_after : (l : Literal) (k : ℕ) (b : Bool) → k ≤ n → literal_truth h l k ≡ b → IsSoAfter problem tasks l k b
  so_after l k b m is =
      let long = length-take-le n tasks low in
      let (state, reaches, same) = run.each k (omega arith) in
      (state, ap (run_tasks problem problem.initial_state) (sym (taken k m)) ∙ reaches, same_literal h state k same l ∙ is)
    where
      taken : (k : ℕ) → k ≤ n → take k (take n tasks) ≡ take k tasks
      taken k m = take-take k n tasks m

  -- how literals stand in the last gap is how they stand after the tasks
  pub standings_after : (literals : List Literal) (standings : List Standing) → AreStandings (StandsIn h n) literals standings
      → AreStandings (StandsAfter problem tasks n) literals standings
  standings_after literals standings are =
      stand_alike (StandsIn h n) (StandsAfter problem tasks n)
      (λ l s is. stands_alike (λ k b. literal_truth h l k ≡ b) (IsSoAfter problem tasks l) n (λ k b m e. so_after l k b m e) s is) literals standings are

  -- so it is for the literals of a task's precondition
  pub stand_for_after : (g : GroundTask) (standings : List Standing) → StandFor problem (StandsIn h n) g standings
      → (other : GroundTask) → other ≡ g → StandFor problem (StandsAfter problem tasks n) other standings
  stand_for_after g standings are other same action is =
      standings_after action.precondition standings (are action (ap problem.action_of (sym same) ∙ is))

-- a run of all tasks ends so in its last gap
pub ends_with : (problem : Problem) (tasks : List GroundTask) (h : History) → IsHistoryOf problem tasks h → (b : Bool)
    → literals_truth h problem.goal (length tasks) ≡ b → EndsWith problem tasks b
ends_with problem tasks h run b is =
    let (state, reaches, same) = run.each (length tasks) (omega arith) in (
      state,
      ap (run_tasks problem problem.initial_state) (sym (take_all (length tasks) tasks (omega arith))) ∙ reaches,
      same_literals h state (length tasks) same problem.goal ∙ is,
    )

-- how literals stand in the last gap of a run of all tasks
pub standings_at_end : (problem : Problem) (tasks : List GroundTask) (h : History) → IsHistoryOf problem tasks h → (literals : List Literal) (standings : List Standing)
    → AreStandings (StandsIn h (length tasks)) literals standings → AreStandings (StandsAfter problem tasks (length tasks)) literals standings
standings_at_end problem tasks h run literals standings are =
    standings_after problem tasks (length tasks) h
    (subst (λ ts. IsHistoryOf problem ts h) (sym (take_all (length tasks) tasks (omega arith))) run) (omega arith) literals standings are

-- one literal more of a list
pub literal_more : (literals : List Program) (i : ℕ) (l : Program) → i < length literals → l ≡ get_or literals i l
    → literals_of (take (i + 1) literals) ≡ literals_of (take i literals) ++ literal_of l ∷ []
literal_more literals i l h is =
    ap literals_of (take_more literals i l h ∙ ap (λ y. take i literals ++ y ∷ []) (sym is)) ∙ map-append literal_of (take i literals) (l ∷ [])
