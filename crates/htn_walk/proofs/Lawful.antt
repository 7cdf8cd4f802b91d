-- The word machine of a ground problem keeps to what a search needs of it.
use Rattle.std.proofs.Common.{◌≡◌, ℕ, suc, ◌<◌, ◌≤◌, true≢false, length, map, refl, sym, ap, subst, ◌∙◌, inl, inr, arith, Some, All}
use Rattle.std.proofs.lemmas.Option.{slice_get_cases, get_or_from_slice_get}
use Rattle.htn_model.specs.Problem.{Network, Problem, IsGrounded}
use Rattle.htn_model.specs.Machine.{Config, start, step_by}
use Rattle.htn_model.proofs.Steps.{chosen, step_choice}
use Rattle.htn_model.proofs.Regrown.{choice_within}
use Rattle.htn_model.proofs.Configs.{open_step}
use Rattle.htn_model.proofs.Exhaustion.{chosen_agrees, finishing_alive}
use Rattle.word_machine.specs.Machine.{IsLawful}
use Rattle.htn_walk.specs.Machine.{is_dead_choice, machine_of, IsOwn}
use Rattle.htn_walk.proofs.Words.{slice_get-map_back, done_from, leads_from}

-- what an initial network starts with is one of the problem's configurations
start_own : (problem : Problem) (network : Network) → IsOwn problem (start problem network)
start_own problem network a still = refl

-- what all initial networks start with are the problem's configurations
starts_own : (problem : Problem) → All (IsOwn problem) (map (start problem) problem.initials)
starts_own problem k d inside =
    elim (slice_get_cases (map (start problem) problem.initials) k).1 [
      | inl at ↦ (let initial = slice_get-map_back (start problem) problem.initials k at.0 at.2 in
          subst (IsOwn problem) (initial.2 ∙ sym (get_or_from_slice_get (map (start problem) problem.initials) k at.0 d at.2)) (start_own problem initial.0))
      | inr past ↦ (let p : length (map (start problem) problem.initials) ≤ k = past.0 in absurd (omega arith))
    ]

module _ (problem : Problem) (grounded : IsGrounded problem) where
  -- a step leads from the problem's configurations to one of them
  stays_own : (c d : Config) (n : ℕ) → IsOwn problem c → step_by problem c n ≡ Some d → IsOwn problem d
  stays_own c d n own step =
      let made = step_choice problem c d n step in
      subst (IsOwn problem) (sym made.2) (chosen_agrees problem grounded c n made.0 own (chosen problem c n made.0 made.1))

  -- a step is possible only where a node is open
  wants_open : (c d : Config) (n : ℕ) → step_by problem c n ≡ Some d → 0 < length c.open_nodes
  wants_open c d n step =
      let made = step_choice problem c d n step in
      let inside : made.0.position < length c.open_nodes = choice_within problem c n made.0 (chosen problem c n made.0 made.1) in
      omega arith

  -- the machine of a problem keeps the laws that a search needs
  pub lawful : IsLawful (machine_of problem) (IsOwn problem)
  lawful = record {
    starts = starts_own problem;
    stays = stays_own;
    wants_open = wants_open;
    closes_one = λ c d n step. (let one : length c.open_nodes ≤ suc (length d.open_nodes) = open_step problem c d n step in omega arith);
    done_closed = λ c done. ap length (done_from problem c done).0;
    dead_never = λ c d e n ns own dead step leads done. (
        let made = step_choice problem c d n step in
        let alive = finishing_alive problem grounded ns c d n own step (leads_from problem ns d e leads done) made.0 made.1 in
        true≢false (sym dead ∙ ap (is_dead_choice problem) made.1 ∙ alive));
  }
