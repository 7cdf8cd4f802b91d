-- The words of a problem's machine are the problem's words.
use Rattle.std.proofs.Common.{◌≡◌, ℕ, zero, suc, ◌+◌, ◌<◌, Bool, true, false, true≢false, ◌&&◌, List, [], ◌∷◌, length, map, refl, sym, ap, subst, ◌∙◌, inl, inr, arith, slice_get, Some, option_map}
use Rattle.std.proofs.lemmas.Bool.{cases_lt, cases_Bool, and_parts}
use Rattle.std.proofs.lemmas.Option.{none-some, same_Some}
use Rattle.htn_model.specs.Literal.{holds}
use Rattle.htn_model.specs.Problem.{Problem}
use Rattle.htn_model.specs.Choice.{is_empty}
use Rattle.htn_model.specs.Machine.{Config, result_of, start, IsDone as IsDoneIn, FinishesFrom, Finishes as FinishesIn}
use Rattle.htn_model.specs.Levels.{is_done}
use Rattle.htn_model.specs.Answer.{IsNoGreater, IsNoLater}
use Rattle.htn_model.specs.Exhaustion.{is_dead, LeadsLive, Reaches as ReachesIn, IsMet as IsMetIn}
use Rattle.htn_model.proofs.Steps.{step_choice}
use Rattle.word_machine.specs.Words.{IsLexicographicallyBefore, Precedes, Leads, Reaches, step_count}
use Rattle.word_machine.specs.Machine.{IsStep, IsLiveStep, IsFinishing, IsMet}
use Rattle.htn_walk.specs.Machine.{is_dead_choice, machine_of}

-- ## Lists

-- a place of the mapped list has the mapped value
pub slice_get-map : {A B : Type 0} (f : A → B) (xs : List A) (i : ℕ) (x : A) → slice_get xs i ≡ Some x → slice_get (map f xs) i ≡ Some (f x)
slice_get-map f [] i x at = absurd (none-some x at)
slice_get-map f (y ∷ xs) zero x at = ap Some (ap f (same_Some y x at))
slice_get-map f (y ∷ xs) (suc i) x at = slice_get-map f xs i x at

-- what stands in the mapped list is the image of what stands there
pub slice_get-map_back : {A B : Type 0} (f : A → B) (xs : List A) (i : ℕ) (y : B) → slice_get (map f xs) i ≡ Some y → (x : A) × (slice_get xs i ≡ Some x) × (f x ≡ y)
slice_get-map_back f [] i y at = absurd (none-some y at)
slice_get-map_back f (x ∷ xs) zero y at = (x, refl, same_Some (f x) y at)
slice_get-map_back f (x ∷ xs) (suc i) y at = slice_get-map_back f xs i y at

-- of two words of one length, one before which the other doesn't come is no greater
no_greater : (v w : List ℕ) → length v ≡ length w → (IsLexicographicallyBefore w v → ⊥) → IsNoGreater v w
no_greater [] w long not = tt
no_greater (x ∷ v) [] long not = absurd (omega arith)
no_greater (x ∷ v) (y ∷ w) long not =
    elim (cases_lt x y) [
      | inl less ↦ inl less
      | inr most ↦ elim (cases_lt y x) [
        | inl more ↦ absurd (not (inl more))
        | inr least ↦ (let e : x ≡ y = omega arith in inr (e, no_greater v w (omega arith) (λ before. not (inr (sym e, before)))))
      ]
    ]

-- a word that no other comes before is no later than it
pub no_later : (v w : List ℕ) → (Precedes w v → ⊥) → IsNoLater v w
no_later v w not =
    elim (cases_lt (length v) (length w)) [
      | inl shorter ↦ inl shorter
      | inr most ↦ elim (cases_lt (length w) (length v)) [
        | inl longer ↦ absurd (not (inl longer))
        | inr least ↦ (let e : length v ≡ length w = omega arith in inr (e, no_greater v w e (λ before. not (inr (sym e, before)))))
      ]
    ]

-- ## Words

-- a list that tests as empty is empty
empty_from : {X : Type 0} (xs : List X) → is_empty xs ≡ true → xs ≡ []
empty_from [] e = refl
empty_from (x ∷ xs) e = absurd (true≢false (sym e))

-- two tests that hold hold together
both_true : (a b : Bool) → a ≡ true → b ≡ true → (a && b) ≡ true
both_true true b p q = q
both_true false b p q = absurd (true≢false (sym p))

module _ (problem : Problem) where
  -- a configuration that tests as done is done
  pub done_from : (c : Config) → is_done problem c ≡ true → IsDoneIn problem c
  done_from c done = let parts = and_parts _ _ done in (empty_from c.open_nodes parts.0, parts.1)

  -- a configuration that is done tests as done
  pub done_back : (c : Config) → IsDoneIn problem c → is_done problem c ≡ true
  done_back c done = both_true (is_empty c.open_nodes) (holds c.state problem.goal) (ap is_empty done.0) done.1

  -- numbers that lead the machine to a done configuration finish from there in the problem
  pub leads_from : (ns : List ℕ) (c to : Config) → Leads (IsStep (machine_of problem)) c ns to → is_done problem to ≡ true → FinishesFrom problem ns c
  leads_from [] c to leads done = subst (IsDoneIn problem) (sym leads) (done_from to done)
  leads_from (n ∷ ns) c to leads done = (leads.0, leads.1, leads_from ns leads.0 to leads.2 done)

  -- numbers that finish in the problem lead the machine to a done configuration
  leads_back : (ns : List ℕ) (c : Config) → FinishesFrom problem ns c → (to : Config) × Leads (IsStep (machine_of problem)) c ns to × (is_done problem to ≡ true)
  leads_back [] c finish = (c, refl, done_back c finish)
  leads_back (n ∷ ns) c finish = let rest = leads_back ns finish.0 finish.2 in (rest.0, (finish.0, finish.1, rest.1), rest.2)

  -- a word that finishes in the machine finishes in the problem
  pub finishes_from : (w : List ℕ) → IsFinishing (machine_of problem) w → FinishesIn problem w
  finishes_from [] finish = absurd finish.1
  finishes_from (i ∷ ns) finish =
      let reached = finish.1 in
      let initial = slice_get-map_back (start problem) problem.initials i reached.0 reached.1 in
      (initial.0, initial.1, subst (FinishesFrom problem ns) (sym initial.2) (leads_from ns reached.0 finish.0 reached.2 finish.2))

  -- a word that finishes in the problem finishes in the machine
  pub finishes_back : (w : List ℕ) → FinishesIn problem w → IsFinishing (machine_of problem) w
  finishes_back [] finish = absurd finish
  finishes_back (i ∷ ns) finish =
      let rest = leads_back ns (start problem finish.0) finish.2 in
      (rest.0, (start problem finish.0, slice_get-map (start problem) problem.initials i finish.0 finish.1, rest.1), rest.2)

  -- ## Words without dead numbers

  -- live numbers of the machine are live in the problem
  live_from : (ns : List ℕ) (c d : Config) → Leads (IsLiveStep (machine_of problem)) c ns d → LeadsLive problem ns c d
  live_from [] c d leads = leads
  live_from (n ∷ ns) c d leads =
      let made = step_choice problem c leads.0 n leads.1.0 in
      let alive : is_dead problem made.0.network ≡ false = elim (cases_Bool (is_dead problem made.0.network)) [
        | inl t ↦ absurd (leads.1.1 (ap (is_dead_choice problem) made.1 ∙ t))
        | inr f ↦ f
      ] in
      (made.0, made.1, alive, subst (λ x. LeadsLive problem ns x d) made.2 (live_from ns leads.0 d leads.2))

  -- live numbers of the problem are live in the machine
  live_back : (ns : List ℕ) (c d : Config) → LeadsLive problem ns c d → Leads (IsLiveStep (machine_of problem)) c ns d
  live_back [] c d leads = leads
  live_back (n ∷ ns) c d leads = (
    result_of c leads.0,
    (ap (option_map (result_of c)) leads.1, λ dead. true≢false (sym dead ∙ ap (is_dead_choice problem) leads.1 ∙ leads.2)),
    live_back ns (result_of c leads.0) d leads.3,
  )

  -- a configuration that a word without dead numbers reaches
  reached_from : (i : ℕ) (ns : List ℕ) (c : Config) → Reaches (IsLiveStep (machine_of problem)) (map (start problem) problem.initials) (i ∷ ns) c → ReachesIn problem (length ns) c
  reached_from i ns c reached =
      let initial = slice_get-map_back (start problem) problem.initials i reached.0 reached.1 in
      record {
        number = i;
        network = initial.0;
        is_initial = initial.1;
        word = ns;
        long = refl;
        leads = subst (λ x. LeadsLive problem ns x c) (sym initial.2) (live_from ns reached.0 c reached.2);
      }

  -- what the problem reaches the machine reaches
  reached_back : (steps : ℕ) (c : Config) (r : ReachesIn problem steps c) → Reaches (IsLiveStep (machine_of problem)) (map (start problem) problem.initials) (r.number ∷ r.word) c
  reached_back steps c r =
      (start problem r.network, slice_get-map (start problem) problem.initials r.number r.network r.is_initial, live_back r.word (start problem r.network) c r.leads)

  -- a bound that is met in the machine is met in the problem
  pub met_from : (bound : ℕ) → IsMet (machine_of problem) bound → IsMetIn problem bound
  met_from bound met = by met.0 met.2 met.3
    where
      by : (word : List ℕ) → Reaches (IsLiveStep (machine_of problem)) (map (start problem) problem.initials) word met.1
          → ((other : List ℕ) → Reaches (IsLiveStep (machine_of problem)) (map (start problem) problem.initials) other met.1 → bound < step_count other + length met.1.open_nodes) → IsMetIn problem bound
      by [] reached beyond = absurd reached
      by (i ∷ ns) reached beyond = record {
        config = met.1;
        steps = length ns;
        reached = reached_from i ns met.1 reached;
        beyond = λ n r within. (
            let over : bound < length r.word + length met.1.open_nodes = beyond (r.number ∷ r.word) (reached_back n met.1 r) in
            let long : length r.word ≡ n = r.long in
            omega arith);
      }

  -- a bound that is met in the problem is met in the machine
  pub met_back : (bound : ℕ) → IsMetIn problem bound → IsMet (machine_of problem) bound
  met_back bound met = (met.reached.number ∷ met.reached.word, met.config, reached_back met.steps met.config met.reached, beyond)
    where
      beyond : (other : List ℕ) → Reaches (IsLiveStep (machine_of problem)) (map (start problem) problem.initials) other met.config → bound < step_count other + length met.config.open_nodes
      beyond [] reached = absurd reached
      beyond (i ∷ ns) reached =
          elim (cases_lt bound (length ns + length met.config.open_nodes)) [
            | inl over ↦ over
            | inr within ↦ absurd (met.beyond (length ns) (reached_from i ns met.config reached) within)
          ]
