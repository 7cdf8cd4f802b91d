-- No finishing word has a dead number, and an exhausted search has seen every finishing word's last configuration.
use Rattle.std.proofs.Common.{◌≡◌, ℕ, suc, ◌<◌, Bool, true, false, not, cond, ◌&&◌, ◌||◌, List, [], ◌∷◌, ◌++◌, length, take, drop, Option, Some, None, option_map, ◌⊎◌, inl, inr, sym, refl, ap, ap₂, ◌∙◌, subst, arith}
use Rattle.std.specs.List.{list_any}
use Rattle.std.proofs.lemmas.Bool.{cases_Bool, both_ways, and_parts, or_cases, or_left, or_right, not-true}
use Rattle.htn_model.specs.Atom.{Atom}
use Rattle.htn_model.specs.State.{State, contains}
use Rattle.htn_model.specs.Literal.{Literal, atom, equality, Action, literal_holds, holds, after}
use Rattle.htn_model.specs.Problem.{GroundTask, Child, precondition, action, task, Problem, IsGrounded, AreChanged, perform_action, perform}
use Rattle.htn_model.specs.Choice.{splice, child_of}
use Rattle.htn_model.specs.Machine.{Config, Choice, result_of, start, IsDone, FinishesFrom, Finishes, choose, step_by}
use Rattle.htn_model.specs.Answer.{IsAnswer}
use Rattle.htn_model.specs.Exhaustion.{is_dead_literal, is_dead_child, is_dead, LeadsLive, IsMet, ExhaustionDecides, FinishesLive, DeadNumbersNeverFinish}
use Rattle.htn_model.proofs.Sets.{contains-after}
use Rattle.htn_model.proofs.Splices.{split_at}
use Rattle.htn_model.proofs.Steps.{Decomposes, Executes, chosen, step_choice}
use Rattle.htn_model.proofs.Regrown.{choice_within}
use Rattle.htn_model.proofs.OneToOne.{one_to_one}

-- one passes in joined lists where one does in the first or in the second
any-append : {X : Type 0} (test : X → Bool) (xs ys : List X) → list_any test (xs ++ ys) ≡ (list_any test xs || list_any test ys)
any-append test [] ys = refl
any-append test (x ∷ xs) ys = by (test x) (any-append test xs ys)
  where
    by : (b : Bool) → list_any test (xs ++ ys) ≡ (list_any test xs || list_any test ys) → (b || list_any test (xs ++ ys)) ≡ ((b || list_any test xs) || list_any test ys)
    by true h = refl
    by false h = h

module _ (problem : Problem) (grounded : IsGrounded problem) where
  -- a state that agrees with the initial one on what no effect names
  abbrev pub Agrees : State → Type 0
  Agrees state = (a : Atom) → problem.is_changed a.predicate ≡ false → contains state a ≡ contains problem.initial_state a

  -- a set of atoms that change has none whose predicate doesn't
  unchanged : (s : State) (a : Atom) → problem.is_changed a.predicate ≡ false → AreChanged problem.is_changed s → contains s a ≡ false
  unchanged s a still changed = elim (cases_Bool (contains s a)) [
    | inl t ↦ absurd (both_ways (problem.is_changed a.predicate) still (changed a t))
    | inr f ↦ f
  ]

  -- what isn't deleted and not added stays
  kept : (x : Bool) → (false || (x && not false)) ≡ x
  kept true = refl
  kept false = refl

  -- an effect leaves what doesn't change as it was
  after_agrees : (state : State) (a : Action) → AreChanged problem.is_changed a.adds → AreChanged problem.is_changed a.deletes → Agrees state → Agrees (after state a)
  after_agrees state a adds deletes agrees x still =
      contains-after state a x
      ∙ ap₂ (λ p q. p || (contains state x && not q)) (unchanged a.adds x still adds) (unchanged a.deletes x still deletes)
      ∙ kept (contains state x) ∙ agrees x still

  -- a state that is there only if a test holds is that state
  cond_state : (b : Bool) (s next : State) → cond b (Some s) None ≡ Some next → s ≡ next
  cond_state true s next h = cc
  cond_state false s next h = absurd cc

  -- an action leaves what doesn't change as it was
  action_agrees : (g : GroundTask) (state next : State) (o : Option Action) → problem.action_of g ≡ o → Agrees state → perform_action state o ≡ Some next → Agrees next
  action_agrees g state next None e agrees h = absurd cc
  action_agrees g state next (Some a) e agrees h =
      let named = grounded.effects g a e in
      subst Agrees (cond_state (holds state a.precondition) (after state a) next h) (after_agrees state a named.0 named.1 agrees)

  -- so does whatever is carried out
  perform_agrees : (state next : State) (x : Child) → Agrees state → perform problem state x ≡ Some next → Agrees next
  perform_agrees state next (precondition literals) agrees h = subst Agrees (cond_state (holds state literals) state next h) agrees
  perform_agrees state next (action g) agrees h = action_agrees g state next (problem.action_of g) refl agrees h
  perform_agrees state next (task t) agrees h = absurd cc

  -- ## A dead step never holds

  -- a dead literal is false in each state that agrees
  dead_literal : (state : State) (l : Literal) → Agrees state → is_dead_literal problem l ≡ true → literal_holds state l ≡ false
  dead_literal state (atom true a) agrees dead =
      let parts = and_parts _ _ dead in agrees a (not-true _ parts.0) ∙ not-true _ parts.1
  dead_literal state (atom false a) agrees dead =
      let parts = and_parts _ _ dead in ap not (agrees a (not-true _ parts.0)) ∙ not-true _ parts.1
  dead_literal state (equality true x y) agrees dead = not-true _ dead
  dead_literal state (equality false x y) agrees dead = not-true _ dead

  -- where the first fails, both together do
  and_first : (x y : Bool) → x ≡ false → (x && y) ≡ false
  and_first x y h = ap (λ z. z && y) h

  -- where the second fails, both together do
  and_second : (x y : Bool) → y ≡ false → (x && y) ≡ false
  and_second true y h = h
  and_second false y h = refl

  -- literals of which one is dead don't hold
  dead_literals : (state : State) (ls : List Literal) → Agrees state → list_any (is_dead_literal problem) ls ≡ true → holds state ls ≡ false
  dead_literals state [] agrees dead = absurd cc
  dead_literals state (l ∷ ls) agrees dead = either (or_cases (is_dead_literal problem l) (list_any (is_dead_literal problem) ls) dead) (dead_literals state ls agrees)
    where
      either : (is_dead_literal problem l ≡ true) ⊎ (list_any (is_dead_literal problem) ls ≡ true) → (list_any (is_dead_literal problem) ls ≡ true → holds state ls ≡ false) → holds state (l ∷ ls) ≡ false
      either (inl h) later = and_first _ _ (dead_literal state l agrees h)
      either (inr h) later = and_second _ _ (later h)

  -- a state that is there only if a test holds shows that it does
  cond_holds : (b : Bool) (s next : State) → cond b (Some s) None ≡ Some next → b ≡ true
  cond_holds true s next h = refl
  cond_holds false s next h = absurd cc

  -- what is carried out is not dead
  performed_alive : (state next : State) (x : Child) → Agrees state → perform problem state x ≡ Some next → is_dead_child problem x ≡ false
  performed_alive state next (precondition literals) agrees h = elim (cases_Bool (list_any (is_dead_literal problem) literals)) [
    | inl t ↦ absurd (both_ways _ (dead_literals state literals agrees t) (cond_holds (holds state literals) state next h))
    | inr f ↦ f
  ]
  performed_alive state next (action g) agrees h = refl
  performed_alive state next (task t) agrees h = refl

  -- what is chosen is not dead
  chosen_alive : (c : Config) (number : ℕ) (choice : Choice) → Agrees c.state → Decomposes problem c number choice ⊎ Executes problem c number choice
      → is_dead_child problem (child_of c.open_nodes choice.position) ≡ false
  chosen_alive c number choice agrees (inl d) = ap (is_dead_child problem) d.is_task
  chosen_alive c number choice agrees (inr e) = performed_alive c.state choice.state (child_of c.open_nodes choice.position) agrees e.performs

  -- a choice leaves what doesn't change as it was
  pub chosen_agrees : (c : Config) (number : ℕ) (choice : Choice) → Agrees c.state → Decomposes problem c number choice ⊎ Executes problem c number choice → Agrees choice.state
  chosen_agrees c number choice agrees (inl d) = subst Agrees (sym d.state) agrees
  chosen_agrees c number choice agrees (inr e) = perform_agrees c.state choice.state (child_of c.open_nodes choice.position) agrees e.performs

  -- one of the nodes is dead
  abbrev HasDead : List Child → Type 0
  HasDead xs = list_any (is_dead_child problem) xs ≡ true

  -- a dead node stays where another is replaced
  dead_stays : (i : ℕ) (ys xs : List Child) → i < length xs → is_dead_child problem (child_of xs i) ≡ false → HasDead xs → HasDead (splice i ys xs)
  dead_stays i ys xs within alive dead =
      let test = is_dead_child problem in
      let whole : (list_any test (take i xs) || (test (child_of xs i) || list_any test (drop (suc i) xs))) ≡ true =
      sym (ap (list_any test) (split_at i xs (precondition []) within) ∙ any-append test (take i xs) (child_of xs i ∷ drop (suc i) xs)) ∙ dead in
      any-append test (take i xs) (ys ++ drop (suc i) xs)
      ∙ ap (λ b. list_any test (take i xs) || b) (any-append test ys (drop (suc i) xs))
      ∙ widen (list_any test (take i xs)) (test (child_of xs i)) (list_any test (drop (suc i) xs)) (list_any test ys) alive whole
    where
      widen : (a b d e : Bool) → b ≡ false → (a || (b || d)) ≡ true → (a || (e || d)) ≡ true
      widen true b d e f h = refl
      widen false true d e f h = absurd cc
      widen false false true true f h = refl
      widen false false true false f h = refl
      widen false false false e f h = absurd cc

  -- a dead node of a network comes in with it
  dead_enters : (i : ℕ) (ys xs : List Child) → HasDead ys → HasDead (splice i ys xs)
  dead_enters i ys xs dead =
      let test = is_dead_child problem in
      any-append test (take i xs) (ys ++ drop (suc i) xs)
      ∙ or_right _ _ (any-append test ys (drop (suc i) xs) ∙ or_left _ _ dead)

  -- a configuration with a dead node never finishes
  never_finishes : (word : List ℕ) (c : Config) → Agrees c.state → HasDead c.open_nodes → FinishesFrom problem word c → ⊥
  never_finishes [] c agrees dead h = both_ways _ (ap (list_any (is_dead_child problem)) h.0) dead
  never_finishes (number ∷ word) c agrees dead h =
      let made = step_choice problem c h.0 number h.1 in
      let choice = made.0 in
      let kinds = chosen problem c number choice made.1 in
      let within = choice_within problem c number choice kinds in
      never_finishes word (result_of c choice) (chosen_agrees c number choice agrees kinds)
      (dead_stays choice.position choice.network.children c.open_nodes within (chosen_alive c number choice agrees kinds) dead)
      (subst (FinishesFrom problem word) made.2 h.2)

  -- a number after which a word finishes is not dead
  pub finishing_alive : (word : List ℕ) (c next : Config) (number : ℕ) → Agrees c.state → step_by problem c number ≡ Some next → FinishesFrom problem word next
      → (choice : Choice) → choose problem c number ≡ Some choice → is_dead problem choice.network ≡ false
  finishing_alive word c next number agrees step finishes choice chooses =
      let kinds = chosen problem c number choice chooses in
      let same : Some next ≡ Some (result_of c choice) = sym step ∙ ap (option_map (result_of c)) chooses in
      let result : next ≡ result_of c choice = cc in
      elim (cases_Bool (is_dead problem choice.network)) [
        | inl t ↦ absurd (never_finishes word (result_of c choice) (chosen_agrees c number choice agrees kinds)
            (dead_enters choice.position choice.network.children c.open_nodes t) (subst (FinishesFrom problem word) result finishes))
        | inr f ↦ f
      ]

  -- live numbers lead to a done configuration
  record Lives (word : List ℕ) (c : Config) : Type 0 where
    last : Config
    leads : LeadsLive problem word c last
    done : IsDone problem last

  -- a word that finishes has live numbers only
  lives : (word : List ℕ) (c : Config) → Agrees c.state → FinishesFrom problem word c → Lives word c
  lives [] c agrees h = record { last = c; leads = refl; done = h }
  lives (number ∷ word) c agrees h =
      let made = step_choice problem c h.0 number h.1 in
      let choice = made.0 in
      let kinds = chosen problem c number choice made.1 in
      let next_agrees = chosen_agrees c number choice agrees kinds in
      let finishes = subst (FinishesFrom problem word) made.2 h.2 in
      let later = lives word (result_of c choice) next_agrees finishes in
      let alive : is_dead problem choice.network ≡ false = elim (cases_Bool (is_dead problem choice.network)) [
        | inl t ↦ absurd (never_finishes word (result_of c choice) next_agrees (dead_enters choice.position choice.network.children c.open_nodes t) finishes)
        | inr f ↦ f
      ] in
      record { last = later.last; leads = (choice, made.1, alive, later.leads); done = later.done }

  -- live numbers that lead to a done configuration finish
  finishes_live : (word : List ℕ) (c last : Config) → LeadsLive problem word c last → IsDone problem last → FinishesFrom problem word c
  finishes_live [] c last leads done = subst (IsDone problem) (sym leads) done
  finishes_live (number ∷ word) c last leads done =
      (result_of c leads.0, ap (option_map (result_of c)) leads.1, finishes_live word (result_of c leads.0) last leads.3 done)

  -- the configuration in which a solution's code ends is one that the bound would meet
  met_by : (bound : ℕ) → IsAnswer problem bound None → (word : List ℕ) → Finishes problem word → IsMet problem bound
  met_by bound none [] h = absurd h
  met_by bound none (number ∷ word) h =
      let live = lives word (start problem h.0) (λ a still. refl) h.2 in
      record {
        config = live.last;
        steps = length word;
        reached = record { number = number; network = h.0; is_initial = h.1; word = word; long = refl; leads = live.leads };
        beyond = λ m r within.
            (let again : Finishes problem (r.number ∷ r.word) = (r.network, r.is_initial, finishes_live r.word (start problem r.network) live.last r.leads live.done) in
            let laws = one_to_one problem grounded in
            let s = laws.solution (r.number ∷ r.word) again in
            let c = laws.code s.0 s.1 in
            let same = ap length (laws.one_code s.0 c.0 (r.number ∷ r.word) s.1 c.1 s.2) in
            let long = c.2 in
            let steps = r.long in
            let small = none s.0 s.1 in
            let empty = ap length live.done.0 in
            omega arith);
      }

  -- where the bound isn't met, no answer means no solution
  pub exhaustion_decides : ExhaustionDecides problem
  exhaustion_decides bound not_met none s solves =
      let c = (one_to_one problem grounded).code s solves in not_met (met_by bound none c.0 c.3)

  -- a finishing word finishes by live numbers
  to_live : (word : List ℕ) → Finishes problem word → FinishesLive problem word
  to_live [] h = h
  to_live (number ∷ word) h =
      let live = lives word (start problem h.0) (λ a still. refl) h.2 in
      (h.0, live.last, h.1, live.leads, live.done)

  -- a word that finishes by live numbers finishes
  from_live : (word : List ℕ) → FinishesLive problem word → Finishes problem word
  from_live [] h = h
  from_live (number ∷ word) h = (h.0, h.2, finishes_live word (start problem h.0) h.1 h.3 h.4)

  -- dead numbers never finish
  pub dead_numbers_never_finish : DeadNumbersNeverFinish problem
  dead_numbers_never_finish word = (to_live word, from_live word)
