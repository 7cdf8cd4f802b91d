-- The word machine of a task by ranks is lawful.
use Rattle.std.specs.Prelude.{◌≡◌, ℕ, ◌<◌, List, [], map, length, Option, Some, None, All, refl, option_map, option_and_then}
use Rattle.std.proofs.Common.{sym, subst, true≢false, arith}
use Rattle.std.proofs.lemmas.List.{get_or-map, length-map}
use Rattle.std.proofs.lemmas.Option.{none-some}
use Rattle.htn_model.specs.Grounding.{problem_of}
use Rattle.htn_model.specs.Machine.{Config, choose, result_of, start, step_by, no_network}
use Rattle.htn_model.specs.Instance.{Instance}
use Rattle.htn_model.specs.Problem.{IsGrounded}
use Rattle.htn_model.specs.Task.{Task}
use Rattle.word_machine.specs.Machine.{IsLawful, IsStep}
use Rattle.htn_walk.specs.Machine.{IsOwn}
use Rattle.htn_walk.proofs.Lawful as laws
use Rattle.htn_walk.specs.Listed.{listed_initials, listing_machine, number_at}

module _ (t : Task) where
  -- a rank leads where a number does
  numbered_step : (c d : Config) (rank : ℕ) → IsStep (listing_machine t) c rank d → (n : ℕ) × (step_by (problem_of t) c n ≡ Some d)
  numbered_step c d rank step = by (number_at t c rank) step
    where
      by : (o : Option ℕ) → option_map (result_of c) (option_and_then (choose (problem_of t) c) o) ≡ Some d → (n : ℕ) × (step_by (problem_of t) c n ≡ Some d)
      by None h = absurd (none-some d h)
      by (Some n) h = (n, h)

  all_own : (found : List (ℕ × Instance)) → All (IsOwn (problem_of t)) (map (λ p. start (problem_of t) p.1.network) found)
  all_own found k d inside =
      let p : ℕ × Instance = (0, record { method = None; values = []; network = no_network }) in
      let long = length-map found (λ (q : ℕ × Instance). start (problem_of t) q.1.network) in
      let low : k < length found = omega arith in
      subst (IsOwn (problem_of t)) (sym (get_or-map (λ (q : ℕ × Instance). start (problem_of t) q.1.network) found k p d low)) (λ a still. refl)

  pub listing_lawful : IsGrounded (problem_of t) → IsLawful (listing_machine t) (IsOwn (problem_of t))
  listing_lawful grounded =
      let m = laws.lawful (problem_of t) grounded in
      record {
        starts = all_own (listed_initials t);
        stays = λ c d rank own step. (let s = numbered_step c d rank step in m.stays c d s.0 own s.1);
        wants_open = λ c d rank step. (let s = numbered_step c d rank step in m.wants_open c d s.0 s.1);
        closes_one = λ c d rank step. (let s = numbered_step c d rank step in m.closes_one c d s.0 s.1);
        done_closed = m.done_closed;
        dead_never = λ c d e rank ranks own dead step leads done. true≢false (sym dead);
      }
