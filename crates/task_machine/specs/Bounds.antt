-- How many steps are left at least, by the sizes of the open nodes and by what their network needs.
use Rattle.std.specs.Prelude.{◌≡◌, ℕ, List, Bool, true, false, not, ◌&&◌, None, Option, Some, cond, length, max, option_and_then, refl}
use Rattle.std.specs.Option.{option_map}
use Rattle.std.proofs.Common.{◌∙◌, ap, ap₂, arith}
use Rattle.std.proofs.Math.Bool.{Bool-set}
use Rattle.std.proofs.Math.Bridge.{le_prop}
use Rattle.std.proofs.Math.Nat.{ℕ_set}
use Rattle.std.proofs.lemmas.Option.{none-some}
use Rattle.htn_model.specs.Exhaustion.{is_dead, live_step}
use Rattle.htn_model.specs.Grounding.{problem_of}
use Rattle.htn_model.specs.Machine.{Choice, Config, result_of}
use Rattle.htn_model.specs.Problem.{Child, IsGrounded, Problem}
use Rattle.htn_model.specs.Task.{Task}
use Rattle.htn_walk.specs.Machine.{IsOwn}
use Rattle.htn_walk.proofs.Words.{done_from}
use Rattle.htn_walk.proofs.Laws.{listing_lawful}
use Rattle.htn_walk.specs.Listed.{choose_listed, listing_machine}
use Rattle.htn_walk.proofs.Listed.{numbered}
use Rattle.word_machine.specs.Answer.{IsBeyond, measure_of}
use Rattle.word_machine.specs.declared.measure.Horizon.{Horizon}
use Rattle.word_machine.specs.declared.measure.Measure.{Measure}
use Rattle.word_machine.specs.Machine.{IsLawful, IsLowerBound, IsStep}
use Rattle.heuristics.specs.Measure.{IsLowerMeasure, estimate}
use Rattle.heuristics.specs.Sizes.{out_of_reach, size_of}
use Rattle.heuristics.specs.declared.tree_sizes.TreeSizes.{TreeSizes}
use Rattle.heuristics.proofs.StatesLast.{agreeing}
use Rattle.heuristics.specs.Heuristic.{IsEstimate}
use Rattle.heuristics.specs.Needs.{may_end, Outlook}
use Rattle.heuristics.specs.Rows.{outlook_of}
use Rattle.heuristics.specs.Prospects.{ProspectsHold, may_be_reached, may_end_reached, outlook_by, prospects_bound}
use Rattle.heuristics.specs.declared.prospects.Prospects.{Prospects}

-- the most steps that a plan may have
abbrev pub most_steps : ℕ
most_steps = 10000

-- that a bound is a lower one has one proof at most
pub estimate-prop : (problem : Problem) (low : Config → ℕ) → IsProp (IsEstimate problem low)
estimate-prop problem low = hlevel (le_prop, ℕ_set)

-- the least steps of the open nodes together, and more than any bound where the configuration may not end by its needs
abbrev pub bound_by : Problem → (Child → ℕ) → Outlook → Config → ℕ
bound_by problem size o c = max (estimate size most_steps c) (cond (not (may_end problem o c)) out_of_reach 0)

-- to raise a bound by two tests in turn is to raise it by their conjunction
both_tests : (e x : ℕ) (a b : Bool) → max (max e (cond (not a) x 0)) (cond (not b) x 0) ≡ max e (cond (not (a && b)) x 0)
both_tests e x true true = omega arith
both_tests e x true false = omega arith
both_tests e x false true = omega arith
both_tests e x false false = omega arith

-- the configurations of a task's machine: what no effect names is as at first, and they may be reached
abbrev pub BelongsTo : Task → Prospects → Config → Type 0
BelongsTo t p c = IsOwn (problem_of t) c × (may_be_reached p.reach c ≡ true)

-- of these it is that
pub own_bound : (t : Task) → IsGrounded (problem_of t) → (starts : List Config) (size : Child → ℕ) (p : Prospects) (c : Config) → ProspectsHold (problem_of t) starts size most_steps p → BelongsTo t p c
    → prospects_bound (problem_of t) size most_steps p c ≡ bound_by (problem_of t) size (outlook_by p) c
own_bound t grounded starts size p c holds belongs =
    let problem = problem_of t in
    let first = agreeing problem grounded c.state belongs.0 in
    let e = estimate size most_steps c in
    let ends = may_end problem (outlook_of p.needs) c in
    let reached = may_end_reached p.reach c in
    ap₂ max
    (ap₂ max (ap (λ b. cond b e (length c.open_nodes)) first) (ap (λ b. cond (b && not ends) out_of_reach 0) first))
    (ap (λ b. cond (b && not reached) out_of_reach 0) first)
    ∙ both_tests e out_of_reach ends reached
    ∙ ap (λ b. max e (cond (not b) out_of_reach 0)) (holds.told c belongs.1)

-- how many steps are left at least of a configuration, by a measure
abbrev pub left_by : Task → TreeSizes → Prospects → Measure → Config → ℕ
left_by t sizes p = measure_of (listing_machine t) (prospects_bound (problem_of t) (size_of sizes) most_steps p)

-- more steps are left at least of a configuration than the horizon has
abbrev pub lies_beyond : Task → TreeSizes → Prospects → Horizon → Config → Type 0
lies_beyond t sizes p = IsBeyond (listing_machine t) (prospects_bound (problem_of t) (size_of sizes) most_steps p)

-- that what is known holds has one proof at most
pub prospects-prop : (problem : Problem) (starts : List Config) (size : Child → ℕ) (p : Prospects) → IsProp (ProspectsHold problem starts size most_steps p)
prospects-prop problem starts size p = hlevel (estimate-prop, Bool-set)

-- a rank leads where a number does that is not dead
live_rank : (t : Task) (c d : Config) (rank : ℕ) → IsStep (listing_machine t) c rank d → (number : ℕ) × (live_step (problem_of t) c number ≡ Some d)
live_rank t c d rank step = by (choose_listed t c rank) refl step
  where
    by : (o : Option Choice) → choose_listed t c rank ≡ o → option_map (result_of c) o ≡ Some d → (number : ℕ) × (live_step (problem_of t) c number ≡ Some d)
    by None is h = absurd (none-some d h)
    by (Some choice) is h =
        let n = numbered t c rank choice is in (
          n.number,
          ap (option_and_then (λ (x : Choice). cond (is_dead (problem_of t) x.network) None (Some (result_of c x)))) n.chooses
              ∙ ap (λ b. cond b None (Some (result_of c choice))) n.alive
              ∙ h,
        )

-- a rank leads to what may be reached
pub belonging_lawful : (t : Task) (size : Child → ℕ) (p : Prospects) → IsGrounded (problem_of t) → ProspectsHold (problem_of t) (listing_machine t).initials size most_steps p
    → IsLawful (listing_machine t) (BelongsTo t p)
belonging_lawful t size p grounded holds =
    let m = listing_lawful t grounded in
    record {
      starts = λ k d inside. (m.starts k d inside, holds.first k d inside);
      stays = λ c d rank belongs step. (
          let s = live_rank t c d rank step in
          (m.stays c d rank belongs.0 step, holds.stays c d s.0 s.1 (agreeing (problem_of t) grounded c.state belongs.0) belongs.1));
      wants_open = m.wants_open;
      closes_one = m.closes_one;
      done_closed = m.done_closed;
      dead_never = λ c d e rank ranks belongs dead step leads done. m.dead_never c d e rank ranks belongs.0 dead step leads done;
    }

-- what is a lower bound for the machine by numbers is one for that by ranks
pub bounded : (t : Task) (low : Config → ℕ) → IsEstimate (problem_of t) low → IsLowerBound (listing_machine t) low
bounded t low law = record {
  lowers_one = λ c d rank step. (let s = live_rank t c d rank step.0 in law.consistent.lowers_one c d s.0 s.1);
  done_zero = λ c done. law.consistent.done_zero c (done_from (problem_of t) c done);
  above_open = law.above_open;
}

-- that sizes are a lower measure has one proof at most
pub measure-prop : (problem : Problem) (size : Child → ℕ) → IsProp (IsLowerMeasure problem size)
measure-prop problem size = hlevel le_prop
