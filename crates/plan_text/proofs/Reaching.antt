-- A walk that is under way has met all roots, and all children of the lines that it has passed.
use Rattle.std.proofs.Common.{◌≡◌, ◌↔◌, ℕ, zero, suc, ◌+◌, ◌<◌, ◌≤◌, Bool, List, [], ◌∷◌, length, get_or, ◌⊎◌, inl, inr, sym, refl, ap, ◌∙◌, subst, arith}
use Rattle.std.proofs.lemmas.Bool.{cases_lt}
use Rattle.std.proofs.lemmas.List.{length-append, get_or_append_left}
use Rattle.htn_model.specs.PlanFile.{IsIn}
use Rattle.htn_model.proofs.Ascending.{in_left, in_split}
use Rattle.plan_text.specs.Reached.{children_at, IsReachedFrom, a_root, a_child, AreMet, AreAdded}
use Rattle.plan_text.proofs.Walked.{at_most, at_least, all_there}

module _ (actions : ℕ) (roots : List ℕ) (children : List (List ℕ)) where
  -- the line is reached
  abbrev Reached : ℕ → Type 0
  Reached = IsReachedFrom actions roots children

  -- the walk has passed so many of the lines that it has met
  pub record IsWalk (met : List Bool) (lines : List ℕ) (next : ℕ) : Type 0 where
    pub are_met : AreMet met lines
    pub reached : (x : ℕ) → IsIn x lines → IsReachedFrom actions roots children x
    pub roots_met : (x : ℕ) → IsIn x roots → IsIn x lines
    pub closed : (i : ℕ) → i < next → (c : ℕ) → IsIn c (children_at actions children (get_or lines i 0)) → IsIn c lines
    pub within : next ≤ length lines

  -- the walk begins at the roots
  pub begun : (met : List Bool) (lines : List ℕ) → AreMet met lines → AreAdded [] lines roots → IsWalk met lines 0
  begun met lines are added = record {
    are_met = are;
    reached = λ x i. a_root x (added.some x (subst (IsIn x) added.is i));
    roots_met = added.all;
    closed = λ i h. absurd (omega arith);
    within = omega arith;
  }

  -- it passes a line whose children it meets
  pub passed : (met new_met : List Bool) (lines new : List ℕ) (next : ℕ) → IsWalk met lines next → next < length lines → AreMet new_met new
      → AreAdded lines new (children_at actions children (get_or lines next 0)) → IsWalk new_met new (next + 1)
  passed met new_met lines new next walk low are added = record {
    are_met = are;
    reached = λ x i. reached x (in_split x lines added.added (subst (IsIn x) added.is i));
    roots_met = λ x i. wider x (walk.roots_met x i);
    closed = λ i h c j. closed i h c j (cases_lt i next);
    within = (let e = ap length added.is in let l = length-append lines added.added in omega arith);
  }
    where
      wider : (x : ℕ) → IsIn x lines → IsIn x new
      wider x i = subst (IsIn x) (sym added.is) (in_left x lines added.added i)

      there : (i : ℕ) → i < length lines → IsIn (get_or lines i 0) lines
      there i h = get_in lines i h
        where
          get_in : (xs : List ℕ) (i : ℕ) → i < length xs → IsIn (get_or xs i 0) xs
          get_in [] i h = absurd (omega arith)
          get_in (x ∷ xs) zero h = inl refl
          get_in (x ∷ xs) (suc i) h = inr (get_in xs i (omega arith))

      reached : (x : ℕ) → IsIn x lines ⊎ IsIn x added.added → IsReachedFrom actions roots children x
      reached x (inl i) = walk.reached x i
      reached x (inr i) = a_child (get_or lines next 0) x (walk.reached (get_or lines next 0) (there next low)) (added.some x i)

      same : (i : ℕ) → i < length lines → get_or new i 0 ≡ get_or lines i 0
      same i h = ap (λ xs. get_or xs i 0) added.is ∙ get_or_append_left lines added.added 0 i h

      closed : (i : ℕ) → i < next + 1 → (c : ℕ) → IsIn c (children_at actions children (get_or new i 0)) → (i < next) ⊎ (next ≤ i) → IsIn c new
      closed i h c j (inl less) = wider c (walk.closed i less c (subst (λ x. IsIn c (children_at actions children x)) (same i (omega arith)) j))
      closed i h c j (inr more) =
          let last : i ≡ next = omega arith in
          added.all c (subst (λ k. IsIn c (children_at actions children (get_or lines k 0))) last (subst (λ x. IsIn c (children_at actions children x)) (same i (omega arith)) j))

  module _ (met : List Bool) (lines : List ℕ) (walk : IsWalk met lines (length lines)) where
    -- a member stands at some position
    at_index : (x : ℕ) (xs : List ℕ) → IsIn x xs → (i : ℕ) × (i < length xs) × (get_or xs i 0 ≡ x)
    at_index x [] h = absurd h
    at_index x (y ∷ xs) (inl same) = (0, omega arith, sym same)
    at_index x (y ∷ xs) (inr h) = let (i, low, is) = at_index x xs h in (suc i, omega arith, is)

    -- a walk that is over has met all that is reached
    all_met : (x : ℕ) → IsReachedFrom actions roots children x → IsIn x lines
    all_met x (a_root _ i) = walk.roots_met x i
    all_met x (a_child parent _ above i) =
        let (k, low, is) = at_index parent lines (all_met parent above) in
        walk.closed k low x (subst (λ p. IsIn x (children_at actions children p)) (sym is) i)

    -- so it has met as many lines as there are where each is reached
    pub over : ((x : ℕ) → x < length met → IsReachedFrom actions roots children x) ↔ (length lines ≡ length met)
    over = (
      (λ all.
          let least = at_least (length met) lines (λ x h. all_met x (all x h)) in
          let most = at_most (length met) lines walk.are_met.once walk.are_met.within in
          omega arith),
      (λ many x h. walk.reached x (all_there met lines x walk.are_met many h)),
    )
