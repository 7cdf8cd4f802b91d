-- What a number chooses where no compound task is free, and what a rank chooses where one is.
use Rattle.std.proofs.Common.{◌≡◌, ℕ, ◌<◌, List, length, Option, Some, None, IsSome, is_some, slice_get, option_map, option_and_then, true≢false, refl, sym, ap, ◌∙◌, subst}
use Rattle.std.proofs.lemmas.Option.{slice_get-map, slice_get_within}
use Rattle.htn_ground.specs.Distinct.{distinct, live_methods}
use Rattle.htn_model.specs.Choice.{child_of, first_free_compound, nth_free}
use Rattle.htn_model.specs.Grounding.{problem_of}
use Rattle.htn_model.specs.Instance.{Instance}
use Rattle.htn_model.specs.Machine.{Choice, Config, choose, choose_from, no_network}
use Rattle.htn_model.specs.Problem.{GroundTask, Problem, is_before, perform, task}
use Rattle.htn_model.specs.State.{State}
use Rattle.htn_model.specs.Task.{Task}
use Rattle.htn_walk.proofs.Words.{slice_get-map_back}
use Rattle.htn_walk.specs.Listed.{choose_listed, listed_methods, number_at}
use Rattle.htn_walk.proofs.Listed.{at_task, listed_instances}

-- what an image is made of is there
made_of : {A B : Type 0} (f : A → B) (o : Option A) → IsSome (option_map f o) → IsSome o
made_of f None h = absurd (true≢false (sym h))
made_of f (Some x) h = refl

-- what is there is something
something : {A : Type 0} (o : Option A) → IsSome o → (x : A) × (o ≡ Some x)
something None h = absurd (true≢false (sym h))
something (Some x) h = (x, refl)

-- and an image is there where that is
image : {A B : Type 0} (f : A → B) (o : Option A) → IsSome o → IsSome (option_map f o)
image f None h = absurd (true≢false (sym h))
image f (Some x) h = refl

-- what comes first is there
comes_of : {A B : Type 0} (f : A → Option B) (o : Option A) → IsSome (option_and_then f o) → IsSome o
comes_of f None h = absurd (true≢false (sym h))
comes_of f (Some x) h = refl

module _ (problem : Problem) (c : Config) (number : ℕ) (whole : length c.order ≡ length c.open_nodes) (none : first_free_compound c.open_nodes (is_before c.order) ≡ None) where
  -- the choice of a position, once its state is known
  abbrev carried : ℕ → Option Choice
  carried i = option_map (λ (s : State). record { position = i; network = no_network; state = s }) (perform problem c.state (child_of c.open_nodes i))

  -- the number is that of a free position
  by_position : choose problem c number ≡ option_and_then carried (nth_free (length c.order) (is_before c.order) number)
  by_position = ap (choose_from problem c number) none ∙ ap (λ n. option_and_then carried (nth_free n (is_before c.order) number)) (sym whole)

  module _ (chosen : IsSome (choose problem c number)) where
    -- there is one
    pub position_there : nth_free (length c.order) (is_before c.order) number ≡ None → ⊥
    position_there is = true≢false (sym chosen ∙ ap is_some (by_position ∙ ap (option_and_then carried) is))

    module _ (i : ℕ) (at : nth_free (length c.order) (is_before c.order) number ≡ Some i) where
      -- its literals hold
      pub performs : IsSome (perform problem c.state (child_of c.open_nodes i))
      performs = made_of (λ (s : State). record { position = i; network = no_network; state = s }) (perform problem c.state (child_of c.open_nodes i)) (sym (ap is_some (by_position ∙ ap (option_and_then carried) at)) ∙ chosen)

      -- that is what is chosen
      pub free_chosen : (state : State) → perform problem c.state (child_of c.open_nodes i) ≡ Some state → choose problem c number ≡ Some (record { position = i; network = no_network; state = state })
      free_chosen state is = by_position ∙ ap (option_and_then carried) at ∙ ap (option_map (λ (s : State). record { position = i; network = no_network; state = s })) is

-- a rank that chooses is that of an instance which is listed for the first free compound task
pub rank_listed : (t : Task) (c : Config) (i : ℕ) (g : GroundTask) → first_free_compound c.open_nodes (is_before c.order) ≡ Some i → child_of c.open_nodes i ≡ task g
    → (rank : ℕ) → IsSome (choose_listed t c rank) → IsSome (slice_get (distinct (live_methods t g)) rank)
rank_listed t c i g first stands rank chosen =
    let found : IsSome (slice_get (listed_methods t g) rank) =
    made_of (λ (p : ℕ × Instance). p.0) (slice_get (listed_methods t g) rank)
    (subst IsSome (at_task t c i g first stands rank) (comes_of (choose (problem_of t) c) (number_at t c rank) chosen)) in
    subst (λ l. IsSome (slice_get l rank)) (listed_instances t g)
    (subst IsSome (sym (slice_get-map (λ (p : ℕ × Instance). p.1) (listed_methods t g) rank)) (image (λ (p : ℕ × Instance). p.1) (slice_get (listed_methods t g) rank) found))

-- what stands at a place is within
pub some_within : {X : Type 0} (xs : List X) (n : ℕ) → IsSome (slice_get xs n) → n < length xs
some_within xs n there = let x = something (slice_get xs n) there in slice_get_within xs n x.0 x.1

-- the instance of a rank is listed with its number
pub picked : (t : Task) (g : GroundTask) (rank : ℕ) (x : Instance) → slice_get (distinct (live_methods t g)) rank ≡ Some x
    → (p : ℕ × Instance) × (slice_get (listed_methods t g) rank ≡ Some p) × (p.1 ≡ x)
picked t g rank x at = slice_get-map_back (λ (p : ℕ × Instance). p.1) (listed_methods t g) rank x (ap (λ l. slice_get l rank) (listed_instances t g) ∙ at)
