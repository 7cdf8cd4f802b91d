-- Tables over the rules of lone nodes, where only states that pass a test are looked at.
use Rattle.std.proofs.Common.{◌≡◌, ℕ, ◌+◌, ◌≤◌, Bool, true, false, cond, List, [], ◌∷◌, length, Option, Some, None, option_map, sym, refl, ap, ◌∙◌, subst, arith}
use Rattle.std.specs.List.{sum_by}
use Rattle.std.proofs.lemmas.Bool.{and_parts}
use Rattle.std.proofs.lemmas.Option.{none-some}
use Rattle.htn_model.specs.Choice.{is_empty}
use Rattle.htn_model.specs.Grounding.{problem_of}
use Rattle.htn_model.specs.Literal.{holds}
use Rattle.htn_model.specs.Machine.{Config, no_network, step_by}
use Rattle.htn_model.specs.Problem.{Child, Network}
use Rattle.htn_model.specs.State.{State}
use Rattle.htn_model.specs.Task.{Task}
use Rattle.word_machine.specs.Words as words
use Rattle.word_machine.specs.Machine.{IsStep, IsDone}
use Rattle.htn_calls.specs.Leads.{Leads, Ends, AreInSeries}
use Rattle.htn_calls.specs.Calls.{Table, Claims, AreBounds}
use Rattle.htn_calls.specs.Cuts.{split}
use Rattle.htn_calls.specs.Series.{opened, opened_series, with_behind, StepsInFront, AreRulesAlone}
use Rattle.htn_calls.specs.Split.{network_of}
use Rattle.htn_calls.specs.Bounds.{is_goal}
use Rattle.htn_calls.proofs.Words.{no_steps, nothing_in_front, nothing_square}
use Rattle.htn_calls.proofs.Blocks.{blocks_in_series, rules_lift}
use Rattle.htn_calls.proofs.Calls.{claims_hold, estimate_below}
use Rattle.htn_calls.proofs.Closed.{closed_checked}
use Rattle.htn_calls.proofs.Cuts.{cuts_split}
use Rattle.htn_calls.specs.Ordered.{ordered}
use Rattle.htn_calls.proofs.Ordered.{ordered_split}
use Rattle.htn_walk.specs.Listed.{listing_machine}
use Rattle.call_rules.specs.Listing.{listed_step, listed_problem}
use Rattle.call_rules.specs.Lone.{lone_rules}
use Rattle.call_rules.specs.Bounds.{ByState, ByBlocks, step_within, IsKept, IsStepSize, size_sum, IsSound, estimate_by, bound_by, SizesAreBounds, ClosedAreChecked, TablesClaim, BoundsAreBelow, BoundsOfOrdered}
use Rattle.call_rules.proofs.Listing.{listed_steps, listed_in_front}
use Rattle.call_rules.proofs.Lone.{lone_in_series, rules_alone}

-- a list that is empty has nothing
empty_is : {X : Type 0} (xs : List X) → is_empty xs ≡ true → xs ≡ []
empty_is [] h = refl
empty_is (x ∷ xs) h = absurd cc

module _ (t : Task) (passes : State → Bool) where
  -- the steps from states that pass
  abbrev within : Config → ℕ → Option Config
  within = step_within t passes

  -- such a step is one of the listing machine
  from_within : (c d : Config) (rank : ℕ) → within c rank ≡ Some d
      → (passes c.state ≡ true) × (listed_step t c rank ≡ Some d)
  from_within c d rank h = by (passes c.state) refl h
    where
      by : (b : Bool) → passes c.state ≡ b → cond b (listed_step t c rank) None ≡ Some d
          → (passes c.state ≡ true) × (listed_step t c rank ≡ Some d)
      by true e h = (e, h)
      by false e h = absurd (none-some d h)

  -- and of the problem of what is listed
  within_sound : (c d : Config) (rank : ℕ) → within c rank ≡ Some d → step_by (listed_problem t) c rank ≡ Some d
  within_sound c d rank h = sym (listed_steps t c rank) ∙ (from_within c d rank h).1

  -- it looks only at what is in front
  within_in_front : StepsInFront within
  within_in_front c network rank open_still = by (passes c.state)
    where
      by : (b : Bool) → cond b (listed_step t (with_behind c network) rank) None
          ≡ option_map (λ d. with_behind d network) (cond b (listed_step t c rank) None)
      by true = listed_in_front t c network rank open_still
      by false = refl

  -- so blocks are in series
  within_in_series : AreInSeries within opened_series
  within_in_series = blocks_in_series (listed_problem t) within within_sound within_in_front

  -- and the rules of lone nodes are rules
  within_rules : AreRulesAlone within (lone_rules t)
  within_rules s block rs known =
      let alone = rules_alone t s block rs known in
      (alone.0, λ rank next h. alone.1 rank next (from_within (opened s block) next rank h).1)

  -- ## Sizes

  module _ (size : Child → ℕ) (lowers : IsStepSize t passes size) where
    -- a word is not shorter than the sizes of the open nodes together
    not_below : (word : List ℕ) (c last : Config) → Leads within word c last
        → sum_by size c.open_nodes ≤ sum_by size last.open_nodes + length word
    not_below [] c last leads =
        let e : sum_by size c.open_nodes ≡ sum_by size last.open_nodes =
        ap (λ (d : Config). sum_by size d.open_nodes) leads in
        omega arith
    not_below (rank ∷ word) c last leads =
        let step = from_within c leads.0 rank leads.1 in
        let one = lowers c leads.0 rank step.0 step.1 in
        let more = not_below word leads.0 last leads.2 in
        omega arith

    -- so a word that ends blocks is not shorter than their sizes
    ends_above : (word : List ℕ) (s u : State) (blocks : List Network) → Ends within opened_series word s blocks u
        → size_sum size blocks ≤ length word
    ends_above word s u blocks ends =
        let l = not_below word (opened_series s blocks) (opened u no_network) ends in
        omega arith

    -- which are base bounds
    bounds_by_size : AreBounds within opened_series (λ s. true) (λ s. size_sum size) (size_sum size)
    bounds_by_size = record {
      by_state = λ word s u blocks ends passed. ends_above word s u blocks ends;
      by_blocks = λ word s u blocks ends passed. ends_above word s u blocks ends;
    }

  -- ## Tables

  module _ (table : Table State Network) (low : ByState) (least : ByBlocks)
      (sound : IsSound t passes table low least) where
    -- their claims hold
    claims : Claims within opened_series table
    claims =
        claims_hold within opened_series within_in_series (lone_rules t)
        (rules_lift (listed_problem t) within within_sound within_in_front (lone_rules t) within_rules) table low least
        sound.bounds sound.checked

    -- the base bounds are bounds for the goal
    goal_bounds : AreBounds within opened_series (is_goal (problem_of t)) low least
    goal_bounds = record {
      by_state = λ word s u blocks ends reached. sound.bounds.by_state word s u blocks ends refl;
      by_blocks = λ word s u blocks ends reached. sound.bounds.by_blocks word s u blocks ends refl;
    }

    -- numbers that lead from a state that passes do so by steps within
    leads_within : IsKept t passes → (word : List ℕ) (c last : Config) → passes c.state ≡ true
        → words.Leads (IsStep (listing_machine t)) c word last → Leads within word c last
    leads_within kept [] c last passed leads = leads
    leads_within kept (rank ∷ word) c last passed leads = (
      leads.0,
      ap (λ b. cond b (listed_step t c rank) None) passed ∙ leads.1,
      leads_within kept word leads.0 last (kept c leads.0 rank passed leads.1) leads.2,
    )

    -- and with nothing behind they lead to the same with nothing behind
    leads_behind : (word : List ℕ) (c last : Config) → Leads within word c last
        → Leads within word (with_behind c no_network) (with_behind last no_network)
    leads_behind [] c last leads = ap (λ d. with_behind d no_network) leads
    leads_behind (rank ∷ word) c last leads = (
      with_behind leads.0 no_network,
      within_in_front c no_network rank
          (no_steps (listed_problem t) within within_sound within_in_front c leads.0 rank leads.1)
          ∙ ap (option_map (λ d. with_behind d no_network)) leads.1,
      leads_behind word leads.0 last leads.2,
    )

    -- so they lead from the blocks of a configuration to none
    leads_from_blocks : (word : List ℕ) (c last : Config) → Leads within word c last → last.open_nodes ≡ []
        → Leads within word (opened_series c.state (split (network_of c))) (opened_series last.state [])
    leads_from_blocks word c last leads none =
        let from : with_behind c no_network ≡ opened_series c.state (split (network_of c)) =
        ap (opened c.state) (sym (cuts_split.whole (network_of c))) in
        let to : with_behind last no_network ≡ opened_series last.state [] =
        nothing_in_front last no_network none nothing_square in
        subst (λ x. Leads within word x (opened_series last.state [])) from
        (subst (λ x. Leads within word (with_behind c no_network) x) to (leads_behind word c last leads))

    -- no numbers that lead to a done configuration are fewer than the bound
    below : (cap : ℕ) → IsKept t passes → (word : List ℕ) (c last : Config)
        → words.Leads (IsStep (listing_machine t)) c word last → IsDone (listing_machine t) last
        → bound_by t passes table low least cap c ≤ length word
    below cap kept word c last leads done = by (passes c.state) refl
      where
        by : (b : Bool) → passes c.state ≡ b
            → cond b (estimate_by t passes table low least cap (split (network_of c)) c.state) 0 ≤ length word
        by true passed =
            let parts = and_parts (is_empty last.open_nodes) (holds last.state (problem_of t).goal) done in
            let none = empty_is last.open_nodes parts.0 in
            estimate_below within opened_series within_in_series table low least (is_goal (problem_of t)) cap
            goal_bounds claims (split (network_of c)) c.state word last.state
            (leads_from_blocks word c last (leads_within kept word c last passed leads) none) parts.1
        by false passed = omega arith

-- sizes that a step lowers by one at most are base bounds
pub sizes_are_bounds : (t : Task) → SizesAreBounds t
sizes_are_bounds t passes size lowers = bounds_by_size t passes size lowers

-- a closed table is checked
pub closed_are_checked : (t : Task) → ClosedAreChecked t
closed_are_checked t table low least closed = closed_checked (lone_rules t) table low least closed

-- tables claim what words do
pub tables_claim : (t : Task) → TablesClaim t
tables_claim t passes table low least sound = claims t passes table low least sound

-- the bound by a table is admissible
pub bounds_are_below : (t : Task) → BoundsAreBelow t
bounds_are_below t passes table low least cap kept sound = below t passes table low least sound cap kept

-- at a totally ordered network the bound is the estimate by its nodes
pub bounds_of_ordered : (t : Task) → BoundsOfOrdered t
bounds_of_ordered t = record {
  bound = λ passes table low least cap s nodes passed.
      ap (λ b. cond b (estimate_by t passes table low least cap (split (ordered nodes)) s) 0) passed
      ∙ ap (λ blocks. estimate_by t passes table low least cap blocks s) (ordered_split nodes);
  size = λ size nodes. ap (λ (n : Network). sum_by size n.children) (lone_in_series nodes);
}
