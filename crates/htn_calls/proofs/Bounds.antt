-- Checked call tables over the words of the machine.
use Rattle.std.proofs.Common.{◌≡◌, ℕ, ◌+◌, ◌≤◌, Bool, true, false, cond, List, [], ◌∷◌, length, Option, Some, None, option_map, option_and_then, refl, ap, ◌∙◌, subst, arith}
use Rattle.htn_model.specs.Problem.{Problem}
use Rattle.htn_model.specs.Machine.{Config, Choice, no_network, choose, result_of, step_by, IsProper}
use Rattle.htn_model.specs.Exhaustion.{is_dead, live_step, LeadsLive}
use Rattle.htn_model.specs.Levels.{Stepping}
use Rattle.htn_model.proofs.Configs.{open_step, step_square}
use Rattle.htn_calls.specs.Leads.{Leads, AreInSeries}
use Rattle.htn_calls.specs.Series.{opened, opened_series, RulesLift}
use Rattle.htn_calls.specs.Bounds.{is_goal, CheckedTablesHold, EstimatesHold, LiveEstimatesHold, MeasuresAreBounds}
use Rattle.htn_calls.proofs.Calls.{claims_hold, estimate_below}
use Rattle.htn_calls.proofs.Words.{steps_in_front, live_steps_in_front, closes_from, closed_is, blocks_square}
use Rattle.htn_calls.proofs.Blocks.{blocks_in_series, rules_lift}

-- ## The two steppings

-- a live step is a step
pub live_sound : (problem : Problem) (c d : Config) (number : ℕ) → live_step problem c number ≡ Some d → step_by problem c number ≡ Some d
live_sound problem c d number h = by (choose problem c number) refl h
  where
    unless_dead : (b : Bool) (x : Config) → cond b None (Some x) ≡ Some d → Some x ≡ Some d
    unless_dead true x h = absurd cc
    unless_dead false x h = h

    by : (o : Option Choice) → choose problem c number ≡ o
        → option_and_then (λ choice. cond (is_dead problem choice.network) None (Some (result_of c choice))) o ≡ Some d → step_by problem c number ≡ Some d
    by None e h = absurd cc
    by (Some choice) e h = ap (option_map (result_of c)) e ∙ unless_dead (is_dead problem choice.network) (result_of c choice) h

-- live numbers lead by live steps
leads_live : (problem : Problem) (word : List ℕ) (c d : Config) → LeadsLive problem word c d → Leads (live_step problem) word c d
leads_live problem [] c d h = h
leads_live problem (number ∷ word) c d h = (
  result_of c h.0,
  ap (option_and_then (λ choice. cond (is_dead problem choice.network) None (Some (result_of c choice)))) h.1 ∙ ap (λ b. cond b None (Some (result_of c h.0))) h.2,
  leads_live problem word (result_of c h.0) d h.3,
)

-- blocks with all numbers are in series
pub all_in_series : (problem : Problem) → AreInSeries (step_by problem) opened_series
all_in_series problem = blocks_in_series problem (step_by problem) (λ c d number h. h) (steps_in_front problem)

-- so they are without the dead numbers
pub live_in_series : (problem : Problem) → AreInSeries (live_step problem) opened_series
live_in_series problem = blocks_in_series problem (live_step problem) (live_sound problem) (live_steps_in_front problem)

-- rules with all numbers are found from the networks alone
pub all_rules_lift : (problem : Problem) → RulesLift (step_by problem)
all_rules_lift problem = rules_lift problem (step_by problem) (λ c d number h. h) (steps_in_front problem)

-- so are those without the dead numbers
pub live_rules_lift : (problem : Problem) → RulesLift (live_step problem)
live_rules_lift problem = rules_lift problem (live_step problem) (live_sound problem) (live_steps_in_front problem)

-- ## Tables

-- where blocks are in series and rules lift, checked tables keep their claims
checked_hold : (step : Stepping) → AreInSeries step opened_series → RulesLift step → CheckedTablesHold step
checked_hold step series lift rules table low least alone bounds checked = claims_hold step opened_series series rules (lift rules alone) table low least bounds checked

-- with all numbers
pub checked_tables_hold : (problem : Problem) → CheckedTablesHold (step_by problem)
checked_tables_hold problem = checked_hold (step_by problem) (all_in_series problem) (all_rules_lift problem)

-- and without the dead ones
pub live_tables_hold : (problem : Problem) → CheckedTablesHold (live_step problem)
live_tables_hold problem = checked_hold (live_step problem) (live_in_series problem) (live_rules_lift problem)

-- ## Estimates

-- no finishing word is below the estimate
pub estimates_hold : (problem : Problem) → EstimatesHold problem
estimates_hold problem table low least cap bounds claims word s blocks finishes =
    let f = closes_from problem word (opened_series s blocks) (blocks_square blocks) finishes in
    estimate_below (step_by problem) opened_series (all_in_series problem) table low least (is_goal problem) cap bounds claims blocks s word f.0 f.1 f.2

-- live words lead from proper configurations to proper ones
live_last : (problem : Problem) (word : List ℕ) (c last : Config) → Leads (live_step problem) word c last → Leads (step_by problem) word c last
live_last problem [] c last h = h
live_last problem (number ∷ word) c last h = (h.0, live_sound problem c h.0 number h.1, live_last problem word h.0 last h.2)

-- where a word leads is proper
proper_last : (problem : Problem) (word : List ℕ) (c last : Config) → IsProper c → Leads (step_by problem) word c last → IsProper last
proper_last problem [] c last proper h = subst IsProper h proper
proper_last problem (number ∷ word) c last proper h = proper_last problem word h.0 last (step_square problem c h.0 number h.1) h.2

-- no live word that leads to a done configuration is below the estimate
pub live_estimates_hold : (problem : Problem) → LiveEstimatesHold problem
live_estimates_hold problem table low least cap bounds claims word s blocks last leads done =
    let by = leads_live problem word (opened_series s blocks) last leads in
    let proper = proper_last problem word (opened_series s blocks) last (blocks_square blocks) (live_last problem word (opened_series s blocks) last by) in
    estimate_below (live_step problem) opened_series (live_in_series problem) table low least (is_goal problem) cap bounds claims blocks s word last.state
    (subst (Leads (live_step problem) word (opened_series s blocks)) (closed_is last proper done.0) by) done.1

-- ## Measures

-- a word is not shorter than a measure that a step lowers by one at most
not_below : (step : Stepping) (low : Config → ℕ) → ((c d : Config) (number : ℕ) → step c number ≡ Some d → low c ≤ low d + 1)
    → (word : List ℕ) (c last : Config) → Leads step word c last → low c ≤ low last + length word
not_below step low lowers [] c last h = let e = ap low h in omega arith
not_below step low lowers (number ∷ word) c last h =
    let one = lowers c h.0 number h.1 in
    let more = not_below step low lowers word h.0 last h.2 in
    omega arith

-- such measures, and the nodes of blocks, are base bounds
measures : (problem : Problem) (step : Stepping) → ((c d : Config) (number : ℕ) → step c number ≡ Some d → step_by problem c number ≡ Some d) → MeasuresAreBounds step
measures problem step sound goal low nothing lowers = record {
  by_state = λ word s t blocks ends reached.
      (let l = not_below step low lowers word (opened_series s blocks) (opened t no_network) ends in let z = nothing t reached in omega arith);
  by_blocks = λ word s t blocks ends reached.
      (let l = not_below step (λ c. length c.open_nodes)
      (λ c d number h. (let o = open_step problem c d number (sound c d number h) in omega arith)) word (opened_series s blocks) (opened t no_network) ends in
      omega arith);
}

-- with all numbers
pub all_measures : (problem : Problem) → MeasuresAreBounds (step_by problem)
all_measures problem = measures problem (step_by problem) (λ c d number h. h)

-- and without the dead ones
pub live_measures : (problem : Problem) → MeasuresAreBounds (live_step problem)
live_measures problem = measures problem (live_step problem) (live_sound problem)
