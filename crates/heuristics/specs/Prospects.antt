-- Prospects: facts about nodes, found before a search, that show which configurations may end.
use Rattle.std.specs.Prelude.{◌≡◌, ℕ, List, Bool, true, false, not, ◌&&◌, ◌||◌, cond, max, Option, None, Some, IfSome}
use Rattle.std.specs.List.{All}
use Rattle.htn_model.specs.Exhaustion.{live_step}
use Rattle.htn_model.specs.Machine.{Config}
use Rattle.htn_model.specs.Problem.{Child, IsGrounded, Problem}
use Rattle.heuristics.specs.Measure.{IsLowerMeasure, is_as_at_first}
use Rattle.heuristics.specs.Sizes.{out_of_reach}
use Rattle.heuristics.specs.Heuristic.{IsEstimate}
use Rattle.heuristics.specs.NeedsBounds.{needs_bound}
use Rattle.heuristics.specs.Needs.{IsOutlook, Outlook, may_end}
use Rattle.heuristics.specs.Rows.{blocks, outlook_of}
use Rattle.heuristics.specs.Reach.{IsRelaxedReach, is_lost_node, is_reached, may_end_by}
use Rattle.heuristics.specs.ReachTables.{reach_of}
use Rattle.heuristics.specs.declared.reach.RelaxedReach.{RelaxedReach}
use Rattle.heuristics.specs.declared.prospects.Prospects.{Prospects}

-- ## Nodes

-- whether a node is known never to end by relaxed reachability, where that was computed
abbrev pub is_unreached : Option RelaxedReach → Child → Bool
is_unreached None x = false
is_unreached (Some r) x = is_lost_node (reach_of r) x

-- whether a node never ends
abbrev pub is_lost : Prospects → Child → Bool
is_lost p x = blocks p.needs x || is_unreached p.reach x

-- the outlook by prospects: what nodes want and give, and which of them never end
abbrev pub outlook_by : Prospects → Outlook
outlook_by p = record { wants = (outlook_of p.needs).wants; gives = (outlook_of p.needs).gives; is_blocked = is_lost p }

-- ## Configurations

-- whether a configuration may be reached in the delete relaxation
abbrev pub may_be_reached : Option RelaxedReach → Config → Bool
may_be_reached None c = true
may_be_reached (Some r) c = is_reached (reach_of r) c

-- whether a configuration may end by relaxed reachability
abbrev pub may_end_reached : Option RelaxedReach → Config → Bool
may_end_reached None c = true
may_end_reached (Some r) c = may_end_by (reach_of r) c

-- whether a configuration never ends: its static atoms are the initial ones, and it may not end by relaxed reachability
abbrev pub is_out : Problem → Option RelaxedReach → Config → Bool
is_out problem reach c = is_as_at_first problem c.state && not (may_end_reached reach c)

-- the bound by a measure and by needs, but past the greatest bound where a configuration never ends by relaxed
-- reachability
abbrev pub prospects_bound : Problem → (Child → ℕ) → ℕ → Prospects → Config → ℕ
prospects_bound problem size cap p c = max (needs_bound problem size cap (outlook_of p.needs) c) (cond (is_out problem p.reach c) out_of_reach 0)

-- ## Soundness

-- the prospects are right for a problem, and its initial configurations are reached, where reachability was computed
pub record AreProspects (problem : Problem) (starts : List Config) (p : Prospects) : Type 0 where
  pub outlook : IsOutlook problem (outlook_of p.needs)
  pub reach : IfSome p.reach (λ r. IsRelaxedReach problem (reach_of r))
  pub first : IfSome p.reach (λ r. All (λ c. is_reached (reach_of r) c ≡ true) starts)

-- ## Laws

-- the bound is a lower bound on the steps that are left; the initial configurations may be reached, and where the
-- static atoms are the initial ones, a live step leads from what may be reached to what may be reached; and whether a
-- configuration that may be reached may end is determined by its nodes and its state
pub record ProspectsHold (problem : Problem) (starts : List Config) (size : Child → ℕ) (cap : ℕ) (p : Prospects) : Type 0 where
  pub first : All (λ c. may_be_reached p.reach c ≡ true) starts
  pub bound : IsEstimate problem (prospects_bound problem size cap p)
  pub stays : (c d : Config) (number : ℕ) → live_step problem c number ≡ Some d → is_as_at_first problem c.state ≡ true
      → may_be_reached p.reach c ≡ true → may_be_reached p.reach d ≡ true
  pub told : (c : Config) → may_be_reached p.reach c ≡ true
      → (may_end problem (outlook_of p.needs) c && may_end_reached p.reach c) ≡ may_end problem (outlook_by p) c

-- right prospects of any grounded problem have these laws
abbrev pub AllProspectsHold : Type 0
AllProspectsHold =
    (problem : Problem) (starts : List Config) (size : Child → ℕ) (cap : ℕ) (p : Prospects) → IsGrounded problem → IsLowerMeasure problem size
    → AreProspects problem starts p → ProspectsHold problem starts size cap p
