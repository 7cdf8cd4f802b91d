-- Whether a word finishes, found out number by number.
use Rattle.std.proofs.Common.{◌≡◌, ℕ, List, ◌∷◌, Some, None, Contains, slice_get, option_map, sym, ap, ◌∙◌, subst}
use Rattle.std.proofs.lemmas.Option.{get_or_from_slice_get, none-some, same_Some, slice_get-map, slice_get_within}
use Rattle.htn_model.specs.Grounding.{problem_of}
use Rattle.htn_model.specs.Instance.{Instance}
use Rattle.htn_model.specs.Instances.{initials}
use Rattle.htn_model.specs.Machine.{Config, choose, result_of, start, step_by, FinishesFrom, Finishes}
use Rattle.htn_model.specs.Problem.{Problem}
use Rattle.htn_model.specs.Task.{Task}

module _ (problem : Problem) (c : Config) (n : ℕ) (rest : List ℕ) where
  -- what finishes finishes after its first number
  pub one_onward : (next : Config) → step_by problem c n ≡ Some next → FinishesFrom problem (n ∷ rest) c → FinishesFrom problem rest next
  one_onward next step h = subst (FinishesFrom problem rest) (same_Some h.0 next (sym h.1 ∙ step)) h.2

  -- and what finishes after a number finishes with it
  pub one_back : (next : Config) → step_by problem c n ≡ Some next → FinishesFrom problem rest next → FinishesFrom problem (n ∷ rest) c
  one_back next step h = (next, step, h)

  -- a number that chooses nothing
  pub stuck : choose problem c n ≡ None → FinishesFrom problem (n ∷ rest) c → ⊥
  stuck none h = none-some h.0 (sym (ap (option_map (result_of c)) none) ∙ h.1)

module _ (t : Task) (place : ℕ) where
  -- where no initial network has the word's first number, it doesn't finish
  pub no_initial : (numbers : List ℕ) → slice_get (initials t) place ≡ None → Finishes (problem_of t) (place ∷ numbers) → ⊥
  no_initial numbers none h =
      none-some h.0 (sym (slice_get-map (λ (i : Instance). i.network) (initials t) place ∙ ap (option_map (λ (i : Instance). i.network)) none) ∙ h.1)

  module _ (x : Instance) (at : slice_get (initials t) place ≡ Some x) where
    -- the instance at the word's first number is an initial network
    pub stands_there : slice_get (problem_of t).initials place ≡ Some x.network
    stands_there = slice_get-map (λ (i : Instance). i.network) (initials t) place ∙ ap (option_map (λ (i : Instance). i.network)) at

    -- it is an initial instance
    pub is_initial : Contains (initials t) x
    is_initial = (place, slice_get_within (initials t) place x at, get_or_from_slice_get (initials t) place x x at)

    module _ (numbers : List ℕ) where
      -- what finishes from the initial network finishes as a word
      pub finishes_back : FinishesFrom (problem_of t) numbers (start (problem_of t) x.network) → Finishes (problem_of t) (place ∷ numbers)
      finishes_back h = (x.network, stands_there, h)

      -- and the other way round
      pub finishes_onward : Finishes (problem_of t) (place ∷ numbers) → FinishesFrom (problem_of t) numbers (start (problem_of t) x.network)
      finishes_onward h = subst (λ n. FinishesFrom (problem_of t) numbers (start (problem_of t) n)) (same_Some h.0 x.network (sym h.1 ∙ stands_there)) h.2
