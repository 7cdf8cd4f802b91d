-- A plan file has one verdict at most.
use Rattle.std.proofs.Common.{◌≡◌, ℕ, List, [], ◌∷◌, ◌++◌, Option, Some, None, Bool, true, false, sym, refl, ap, ◌∙◌, subst, option_and_then}
use Rattle.std.specs.List.{AllByRecursion}
use Rattle.htn_model.specs.State.{State}
use Rattle.htn_model.specs.Literal.{holds}
use Rattle.htn_model.specs.Problem.{Problem}
use Rattle.htn_model.specs.PlanFile.{ActionLine, PlanFile, Naming}
use Rattle.htn_model.specs.Verdict.{name_of, perform_line, run_lines, structure, no_instance, not_executable, goal_fails, no_arrangement, valid, IsFirstFaulty, IsFirstFailing, AllHave, Ends, Has, VerdictsAreUnique}
use Rattle.htn_model.proofs.Pending.{all_parts}

-- two splits of one list, each at the first member that lacks a property, are at the same member
same_first : {X : Type 0} (P : X → Type 0) (xs ys : List X) (x y : X) (more others : List X) → xs ++ x ∷ more ≡ ys ++ y ∷ others
    → AllByRecursion P xs → (P x → ⊥) → AllByRecursion P ys → (P y → ⊥) → x ≡ y
same_first P [] [] x y more others e all_x not_x all_y not_y = cc
same_first P [] (z ∷ ys) x y more others e all_x not_x all_y not_y =
    let head : z ≡ x = cc in absurd (not_x (subst P head all_y.0))
same_first P (z ∷ xs) [] x y more others e all_x not_x all_y not_y =
    let head : z ≡ y = cc in absurd (not_y (subst P head all_x.0))
same_first P (z ∷ xs) (w ∷ ys) x y more others e all_x not_x all_y not_y =
    let tails : xs ++ x ∷ more ≡ ys ++ y ∷ others = cc in
    same_first P xs ys x y more others tails all_x.1 not_x all_y.1 not_y

module _ (naming : Naming) (problem : Problem) where
  -- the state after lines, from one that may be there
  abbrev after_line : Option State → List ActionLine → Option State
  after_line state lines = option_and_then (λ next. run_lines naming problem next lines) state

  -- lines run one after the other
  run_append : (state : State) (xs ys : List ActionLine) → run_lines naming problem state (xs ++ ys) ≡ after_line (run_lines naming problem state xs) ys
  run_append state [] ys = refl
  run_append state (x ∷ xs) ys = by (perform_line naming problem state x) (λ next. run_append next xs ys)
    where
      by : (next : Option State) → ((s : State) → run_lines naming problem s (xs ++ ys) ≡ after_line (run_lines naming problem s xs) ys)
          → after_line next (xs ++ ys) ≡ after_line (after_line next xs) ys
      by None more = refl
      by (Some s) more = more s

  -- the action lines fail as a whole where one of them does
  fails_whole : (state reached : State) (xs : List ActionLine) (x : ActionLine) (others : List ActionLine) → run_lines naming problem state xs ≡ Some reached
      → perform_line naming problem reached x ≡ None → run_lines naming problem state (xs ++ x ∷ others) ≡ None
  fails_whole state reached xs x others reaches fails =
      run_append state xs (x ∷ others) ∙ ap (λ s. after_line s (x ∷ others)) reaches ∙ ap (λ s. after_line s others) fails

  -- where a line fails at once, no later line is reached
  none_later : {X : Type 0} (z x : ActionLine) (ys : List ActionLine) (state a b : State) → x ≡ z → state ≡ a
      → perform_line naming problem a x ≡ None → run_lines naming problem state (z ∷ ys) ≡ Some b → X
  none_later z x ys state a b head here fails runs =
      let at_state : perform_line naming problem state x ≡ None = subst (λ s. perform_line naming problem s x ≡ None) (sym here) fails in
      let none : run_lines naming problem state (z ∷ ys) ≡ None =
      ap (λ s. after_line s ys) (subst (λ l. perform_line naming problem state l ≡ None) head at_state) in
      let both : None ≡ Some b = sym none ∙ runs in
      absurd cc

  -- two first failing lines are the same
  same_failing : (xs ys : List ActionLine) (x y : ActionLine) (more others : List ActionLine) (state a b : State) → xs ++ x ∷ more ≡ ys ++ y ∷ others
      → run_lines naming problem state xs ≡ Some a → perform_line naming problem a x ≡ None
      → run_lines naming problem state ys ≡ Some b → perform_line naming problem b y ≡ None → x ≡ y
  same_failing [] [] x y more others state a b e run_x fails_x run_y fails_y = cc
  same_failing [] (z ∷ ys) x y more others state a b e run_x fails_x run_y fails_y =
      let head : x ≡ z = cc in let here : state ≡ a = cc in none_later z x ys state a b head here fails_x run_y
  same_failing (z ∷ xs) [] x y more others state a b e run_x fails_x run_y fails_y =
      let head : y ≡ z = cc in let here : state ≡ b = cc in none_later z y xs state b a head here fails_y run_x
  same_failing (z ∷ xs) (w ∷ ys) x y more others state a b e run_x fails_x run_y fails_y =
      let head : z ≡ w = cc in
      let tails : xs ++ x ∷ more ≡ ys ++ y ∷ others = cc in
      by (perform_line naming problem state z) refl
      (subst (λ l. perform_line naming problem state z ≡ perform_line naming problem state l) head refl) run_x run_y
      (λ next go_x go_y. same_failing xs ys x y more others next a b tails go_x fails_x go_y fails_y)
    where
      by : (next : Option State) → perform_line naming problem state z ≡ next → perform_line naming problem state z ≡ perform_line naming problem state w
          → after_line (perform_line naming problem state z) xs ≡ Some a → after_line (perform_line naming problem state w) ys ≡ Some b
          → ((s : State) → run_lines naming problem s xs ≡ Some a → run_lines naming problem s ys ≡ Some b → x ≡ y) → x ≡ y
      by None is same go_x go_y more = let none : None ≡ Some a = ap (λ s. after_line s xs) (sym is) ∙ go_x in cc
      by (Some s) is same go_x go_y more = more s (ap (λ r. after_line r xs) (sym is) ∙ go_x) (ap (λ r. after_line r ys) (sym is ∙ same) ∙ go_y)

  module _ (file : PlanFile) where
    -- not all lines have instances where one is faulty
    all_or_faulty : {X : Type 0} (name : Option ℕ) → AllHave naming problem file → IsFirstFaulty naming problem file name → X
    all_or_faulty name all f =
        absurd (f.faulty (all_parts (Has naming problem file) f.before (f.line ∷ f.others) (subst (AllByRecursion (Has naming problem file)) f.lines all)).1.0)

    -- two first faulty lines are the same
    same_faulty : (a b : Option ℕ) → IsFirstFaulty naming problem file a → IsFirstFaulty naming problem file b → a ≡ b
    same_faulty a b f g =
        f.name_is
        ∙ ap name_of (same_first (Has naming problem file) f.before g.before f.line g.line f.others g.others (sym f.lines ∙ g.lines) f.fine f.faulty g.fine g.faulty)
        ∙ sym g.name_is

    -- no run ends where a line fails
    ends_or_fails : {X : Type 0} (id : ℕ) (goal : Bool) → IsFirstFailing naming problem file id → Ends naming problem file goal → X
    ends_or_fails id goal f (state, runs, holds_goal) =
        let none = ap (run_lines naming problem problem.initial_state) f.lines ∙ fails_whole problem.initial_state f.state f.before f.line f.others f.reaches f.fails in
        absurd cc

    -- two first failing lines have one id
    same_id : (a b : ℕ) → IsFirstFailing naming problem file a → IsFirstFailing naming problem file b → a ≡ b
    same_id a b f g =
        f.id_is
        ∙ ap (λ l. l.id) (same_failing f.before g.before f.line g.line f.others g.others problem.initial_state f.state g.state (sym f.lines ∙ g.lines) f.reaches f.fails g.reaches g.fails)
        ∙ sym g.id_is

    -- the goal doesn't both hold and fail
    one_goal : {X : Type 0} → Ends naming problem file true → Ends naming problem file false → X
    one_goal (s, runs_s, is) (t, runs_t, fails) =
        let same : s ≡ t = cc in
        let both : true ≡ false = sym (subst (λ u. holds u problem.goal ≡ true) same is) ∙ fails in
        absurd cc

-- a file has no two verdicts
pub verdicts_are_unique : (naming : Naming) (problem : Problem) → VerdictsAreUnique naming problem
verdicts_are_unique naming problem file structure structure h g = refl
verdicts_are_unique naming problem file structure (no_instance b) h g = absurd (h g.0)
verdicts_are_unique naming problem file structure (not_executable b) h g = absurd (h g.0)
verdicts_are_unique naming problem file structure goal_fails h g = absurd (h g.0)
verdicts_are_unique naming problem file structure no_arrangement h g = absurd (h g.0)
verdicts_are_unique naming problem file structure valid h g = absurd (h g.0)
verdicts_are_unique naming problem file (no_instance a) structure h g = absurd (g h.0)
verdicts_are_unique naming problem file (no_instance a) (no_instance b) h g = ap no_instance (same_faulty naming problem file a b h.1 g.1)
verdicts_are_unique naming problem file (no_instance a) (not_executable b) h g = all_or_faulty naming problem file a g.1 h.1
verdicts_are_unique naming problem file (no_instance a) goal_fails h g = all_or_faulty naming problem file a g.1 h.1
verdicts_are_unique naming problem file (no_instance a) no_arrangement h g = all_or_faulty naming problem file a g.1 h.1
verdicts_are_unique naming problem file (no_instance a) valid h g = all_or_faulty naming problem file a g.1 h.1
verdicts_are_unique naming problem file (not_executable a) structure h g = absurd (g h.0)
verdicts_are_unique naming problem file (not_executable a) (no_instance b) h g = all_or_faulty naming problem file b h.1 g.1
verdicts_are_unique naming problem file (not_executable a) (not_executable b) h g = ap not_executable (same_id naming problem file a b h.2 g.2)
verdicts_are_unique naming problem file (not_executable a) goal_fails h g = ends_or_fails naming problem file a false h.2 g.2
verdicts_are_unique naming problem file (not_executable a) no_arrangement h g = ends_or_fails naming problem file a true h.2 g.2
verdicts_are_unique naming problem file (not_executable a) valid h g = ends_or_fails naming problem file a true h.2 g.2
verdicts_are_unique naming problem file goal_fails structure h g = absurd (g h.0)
verdicts_are_unique naming problem file goal_fails (no_instance b) h g = all_or_faulty naming problem file b h.1 g.1
verdicts_are_unique naming problem file goal_fails (not_executable b) h g = ends_or_fails naming problem file b false g.2 h.2
verdicts_are_unique naming problem file goal_fails goal_fails h g = refl
verdicts_are_unique naming problem file goal_fails no_arrangement h g = one_goal naming problem file g.2 h.2
verdicts_are_unique naming problem file goal_fails valid h g = one_goal naming problem file g.2 h.2
verdicts_are_unique naming problem file no_arrangement structure h g = absurd (g h.0)
verdicts_are_unique naming problem file no_arrangement (no_instance b) h g = all_or_faulty naming problem file b h.1 g.1
verdicts_are_unique naming problem file no_arrangement (not_executable b) h g = ends_or_fails naming problem file b true g.2 h.2
verdicts_are_unique naming problem file no_arrangement goal_fails h g = one_goal naming problem file h.2 g.2
verdicts_are_unique naming problem file no_arrangement no_arrangement h g = refl
verdicts_are_unique naming problem file no_arrangement valid h g = absurd (h.3 g.3)
verdicts_are_unique naming problem file valid structure h g = absurd (g h.0)
verdicts_are_unique naming problem file valid (no_instance b) h g = all_or_faulty naming problem file b h.1 g.1
verdicts_are_unique naming problem file valid (not_executable b) h g = ends_or_fails naming problem file b true g.2 h.2
verdicts_are_unique naming problem file valid goal_fails h g = one_goal naming problem file h.2 g.2
verdicts_are_unique naming problem file valid no_arrangement h g = absurd (g.3 h.3)
verdicts_are_unique naming problem file valid valid h g = refl
