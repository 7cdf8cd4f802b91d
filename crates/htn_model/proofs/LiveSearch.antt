-- The search with all numbers, and without the dead ones; and the bound is met where the second leaves something out.
use Rattle.std.proofs.Common.{◌≡◌, ℕ, Bool, true, false, cond, List, [], ◌∷◌, Option, Some, None, sym, refl, ap, ◌∙◌, subst, option_and_then, option_map}
use Rattle.htn_model.specs.Problem.{Problem, IsGrounded}
use Rattle.htn_model.specs.Machine.{Config, Choice, step_by, start, FinishesFrom, choose, result_of}
use Rattle.htn_model.specs.Levels.{LevelsFindLeast, IsSound}
use Rattle.htn_model.proofs.Steps.{chosen, step_choice}
use Rattle.htn_model.specs.Met.{LeavesOut, Decides, MetIsLeftOut}
use Rattle.htn_model.specs.Exhaustion.{is_dead, live_step, LeadsLive, Reaches, IsMet}
use Rattle.htn_model.proofs.Exhaustion.{Agrees, chosen_agrees, finishing_alive}
use Rattle.htn_model.proofs.LevelSearch.{LeadsWith, levels_find_least, ReachesWith, left_out, out_reached, out_beyond}

-- ## The search with all numbers, and without the dead ones

-- the search by levels with all numbers finds the least word
pub all_numbers : (problem : Problem) (same : Config → Config → Bool) (bound : ℕ) → IsSound same → LevelsFindLeast problem (step_by problem) same bound
all_numbers problem same bound sound =
    levels_find_least problem (step_by problem) (λ c. Unit {0}) (λ c d number h. h) (λ network. tt) (λ c d number on h. tt) (λ c d number rest on h finishes. h) same sound bound

-- a live step is a step
live_from : (problem : Problem) (c : Config) (choice : Choice) (d : Config) (b : Bool) → cond b None (Some (result_of c choice)) ≡ Some d → Some (result_of c choice) ≡ Some d
live_from problem c choice d true h = absurd cc
live_from problem c choice d false h = h

-- a live step leads where the step does
live_sound : (problem : Problem) (c d : Config) (number : ℕ) → live_step problem c number ≡ Some d → step_by problem c number ≡ Some d
live_sound problem c d number h = by (choose problem c number) refl h
  where
    by : (o : Option Choice) → choose problem c number ≡ o
        → option_and_then (λ choice. cond (is_dead problem choice.network) None (Some (result_of c choice))) o ≡ Some d → step_by problem c number ≡ Some d
    by None e h = absurd cc
    by (Some choice) e h = ap (option_map (result_of c)) e ∙ live_from problem c choice d (is_dead problem choice.network) h

-- a step that some word finishes from is live
live_takes : (problem : Problem) (grounded : IsGrounded problem) (c d : Config) (number : ℕ) (rest : List ℕ) → Agrees problem grounded c.state → step_by problem c number ≡ Some d
    → FinishesFrom problem rest d → live_step problem c number ≡ Some d
live_takes problem grounded c d number rest agrees step finishes =
    let made = step_choice problem c d number step in
    let alive = finishing_alive problem grounded rest c d number agrees step finishes made.0 made.1 in
    ap (option_and_then (λ choice. cond (is_dead problem choice.network) None (Some (result_of c choice)))) made.1
    ∙ ap (λ b. cond b None (Some (result_of c made.0))) alive ∙ ap Some (sym made.2)

-- a step leaves what doesn't change as it was
live_on : (problem : Problem) (grounded : IsGrounded problem) (c d : Config) (number : ℕ) → Agrees problem grounded c.state → step_by problem c number ≡ Some d → Agrees problem grounded d.state
live_on problem grounded c d number agrees step =
    let made = step_choice problem c d number step in
    subst (λ x. Agrees problem grounded x.state) (sym made.2) (chosen_agrees problem grounded c number made.0 agrees (chosen problem c number made.0 made.1))

-- the search by levels without dead numbers finds the least word
pub live_numbers : (problem : Problem) → IsGrounded problem → (same : Config → Config → Bool) (bound : ℕ) → IsSound same → LevelsFindLeast problem (live_step problem) same bound
live_numbers problem grounded same bound sound =
    levels_find_least problem (live_step problem) (λ c. Agrees problem grounded c.state) (live_sound problem) (λ network a still. refl) (live_on problem grounded) (live_takes problem grounded) same sound bound

-- ## The bound is met where something is left out

module _ (problem : Problem) (grounded : IsGrounded problem) where
  -- live steps lead from a configuration to another
  abbrev LiveLeads : List ℕ → Config → Config → Type 0
  LiveLeads =
      LeadsWith problem (live_step problem) (λ c. Agrees problem grounded c.state) (live_sound problem) (λ network a still. refl) (live_on problem grounded) (live_takes problem grounded)

  -- live numbers lead by live steps
  to_live_step : (word : List ℕ) (c d : Config) → LeadsLive problem word c d → LiveLeads word c d
  to_live_step [] c d h = h
  to_live_step (n ∷ word) c d h = (
    result_of c h.0,
    ap (option_and_then (λ choice. cond (is_dead problem choice.network) None (Some (result_of c choice)))) h.1 ∙ ap (λ b. cond b None (Some (result_of c h.0))) h.2,
    to_live_step word (result_of c h.0) d h.3,
  )

  -- a step that is there only if it isn't dead isn't
  alive_from : (c : Config) (choice : Choice) (next : Config) (b : Bool) → cond b None (Some (result_of c choice)) ≡ Some next → (b ≡ false) × (next ≡ result_of c choice)
  alive_from c choice next true h = absurd cc
  alive_from c choice next false h = (refl, (let same : result_of c choice ≡ next = cc in sym same))

  -- a live step is that of a choice that isn't dead
  live_choice : (c next : Config) (n : ℕ) → live_step problem c n ≡ Some next
      → (choice : Choice) × (choose problem c n ≡ Some choice) × (is_dead problem choice.network ≡ false) × (next ≡ result_of c choice)
  live_choice c next n h = by (choose problem c n) refl h
    where
      by : (o : Option Choice) → choose problem c n ≡ o
          → option_and_then (λ choice. cond (is_dead problem choice.network) None (Some (result_of c choice))) o ≡ Some next
          → (choice : Choice) × (choose problem c n ≡ Some choice) × (is_dead problem choice.network ≡ false) × (next ≡ result_of c choice)
      by None e h = absurd cc
      by (Some choice) e h = let parts = alive_from c choice next (is_dead problem choice.network) h in (choice, e, parts.0, parts.1)

  -- live steps lead by live numbers
  from_live_step : (word : List ℕ) (c d : Config) → LiveLeads word c d → LeadsLive problem word c d
  from_live_step [] c d h = h
  from_live_step (n ∷ word) c d h =
      let made = live_choice c h.0 n h.1 in
      (made.0, made.1, made.2, subst (λ x. LeadsLive problem word x d) made.3 (from_live_step word h.0 d h.2))

  module _ (same : Config → Config → Bool) (bound : ℕ) (decides : Decides same) where
    -- the test of configurations holds of equal ones only
    sound : IsSound same
    sound c d h = (decides c d).0 h

    -- a configuration is reached by so many live steps
    abbrev LiveReaches : ℕ → Config → Type 0
    LiveReaches = ReachesWith problem (live_step problem) (λ c. Agrees problem grounded c.state) (live_sound problem) (λ network a still. refl) (live_on problem grounded) (live_takes problem grounded) same sound bound

    -- what is reached by live numbers is reached by live steps
    reaches_live : (steps : ℕ) (c : Config) → Reaches problem steps c → LiveReaches steps c
    reaches_live steps c h = (h.number, h.network, h.is_initial, h.word, h.long, to_live_step h.word (start problem h.network) c h.leads)

    -- what is reached by live steps is reached by live numbers
    live_reaches : (steps : ℕ) (c : Config) → LiveReaches steps c → Reaches problem steps c
    live_reaches steps c h = record { number = h.0; network = h.1; is_initial = h.2; word = h.3; long = h.4; leads = from_live_step h.3 (start problem h.1) c h.5 }

    -- a bound that is met leaves something out
    met_out : IsMet problem bound → LeavesOut problem (live_step problem) same bound
    met_out met =
        left_out problem (live_step problem) (λ c. Agrees problem grounded c.state) (live_sound problem) (λ network a still. refl) (live_on problem grounded) (live_takes problem grounded) same sound bound
        met.config met.steps (reaches_live met.steps met.config met.reached) (λ m h short. met.beyond m (live_reaches m met.config h) short)

    -- a bound that leaves something out is met
    out_met : LeavesOut problem (live_step problem) same bound → IsMet problem bound
    out_met out = record {
      config = out.candidate.config;
      steps = out.steps;
      reached = live_reaches out.steps out.candidate.config
          (out_reached problem (live_step problem) (λ c. Agrees problem grounded c.state) (live_sound problem) (λ network a still. refl) (live_on problem grounded) (live_takes problem grounded) same sound bound out);
      beyond = λ m h short.
          out_beyond problem (live_step problem) (λ c. Agrees problem grounded c.state) (live_sound problem) (λ network a still. refl) (live_on problem grounded) (live_takes problem grounded) same sound bound
          (λ c. (decides c c).1 refl) out m (reaches_live m out.candidate.config h) short;
    }

-- a bound is met exactly where the search leaves something out
pub met_is_left_out : (problem : Problem) → IsGrounded problem → MetIsLeftOut problem
met_is_left_out problem grounded same bound decides = (met_out problem grounded same bound decides, out_met problem grounded same bound decides)
