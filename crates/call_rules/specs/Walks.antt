-- Where the listing machine starts, and its steps where a totally ordered network is open.
use Rattle.std.specs.Prelude.{◌≡◌, ℕ, suc, List, ◌∷◌, ◌++◌, true, false, None, slice_get, option_map}
use Rattle.htn_model.specs.Grounding.{problem_of}
use Rattle.htn_model.specs.Instances.{initials}
use Rattle.htn_model.specs.Problem.{Child, task, GroundTask, Network, is_compound, perform}
use Rattle.htn_model.specs.State.{State}
use Rattle.htn_model.specs.Task.{Task}
use Rattle.htn_ground.specs.Distinct.{distinct, live_methods}
use Rattle.htn_calls.specs.Series.{opened}
use Rattle.htn_calls.specs.Ordered.{ordered}
use Rattle.htn_walk.specs.Listed.{listing_machine}
use Rattle.call_rules.specs.Listing.{listed_step}
use Rattle.call_rules.specs.Lone.{is_total, are_total}

-- a totally ordered network is that of its nodes
abbrev pub TotalAreOrdered : Type 0
TotalAreOrdered = (n : Network) → is_total n ≡ true → n ≡ ordered n.children

-- the machine starts with the distinct initial networks, by their ranks
abbrev pub StartsAreRanked : Task → Type 0
StartsAreRanked t =
    (rank : ℕ) → slice_get (listing_machine t).initials rank
    ≡ option_map (λ i. opened t.initial_atoms i.network) (slice_get (distinct (initials t)) rank)

-- a step is one of the first node: in the place of a task come the nodes of its instance of that rank, and a step or an
-- action is carried out by the rank 0, and by no other
pub record OrderedStep (t : Task) : Type 0 where
  pub tasks : (s : State) (g : GroundTask) (rest : List Child) (rank : ℕ) → are_total t g ≡ true
      → listed_step t (opened s (ordered (task g ∷ rest))) rank
      ≡ option_map (λ i. opened s (ordered (i.network.children ++ rest))) (slice_get (distinct (live_methods t g)) rank)
  pub others : (s : State) (x : Child) (rest : List Child) → is_compound x ≡ false
      → listed_step t (opened s (ordered (x ∷ rest))) 0
      ≡ option_map (λ after. opened after (ordered rest)) (perform (problem_of t) s x)
  pub by_no_other : (s : State) (x : Child) (rest : List Child) (rank : ℕ) → is_compound x ≡ false
      → listed_step t (opened s (ordered (x ∷ rest))) (suc rank) ≡ None
