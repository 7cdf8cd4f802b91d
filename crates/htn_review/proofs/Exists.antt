-- Texts that fit together have a task, and a task and a bound have an answer.
use Rattle.std.proofs.Common.{◌≡◌, ℕ, zero, suc, ◌+◌, ◌<◌, ◌⊎◌, ◌↔◌, inl, inr, Bool, true, false, cond, List, [], ◌∷◌, length, filter, flat_map, Option, Some, None, slice_get, codes, sym, refl, ap, ◌∙◌, subst, arith}
use Rattle.std.specs.List.{list_any}
use Rattle.std.proofs.lemmas.Bool.{both_ways, cases_order, lt-leb}
use Rattle.htn_model.specs.Problem.{IsGrounded, Problem}
use Rattle.htn_model.specs.Tree.{Solution}
use Rattle.htn_model.specs.Answer.{IsAnswer, IsLeastWord}
use Rattle.htn_model.specs.Equality.{config_eq-decides}
use Rattle.htn_model.specs.Exhaustion.{IsMet, IsUnsolvable, live_step}
use Rattle.htn_model.specs.Levels.{LevelsFindLeast, Reached, first_done, is_within, keep_new, level, successors}
use Rattle.htn_model.specs.Machine.{config_eq}
use Rattle.htn_model.specs.Met.{LeavesOut, candidates, seen_before}
use Rattle.htn_model.specs.Grounding.{problem_of}
use Rattle.htn_model.specs.Numbered.{numbered}
use Rattle.htn_model.specs.Task.{Task}
use Rattle.htn_model.proofs.Answers.{least_word_answers}
use Rattle.htn_model.proofs.Exhaustion.{exhaustion_decides}
use Rattle.htn_model.proofs.LiveSearch.{live_numbers, met_is_left_out}
use Rattle.htn_model.proofs.OneToOne.{one_to_one}
use Rattle.hddl_meaning.proofs.SomeTask.{tasks_exist}
use Rattle.htn_ground.specs.Naming.{naming_of}
use Rattle.plan_text.specs.Written.{written}
use Rattle.htn_review.specs.declared.outcome.Outcome.{Outcome}
use Rattle.htn_review.specs.declared.outcome.Outcome.TheVariants.{Found, NoPlan, Unsolvable}
use Rattle.htn_review.specs.Headline.{Says}
use Rattle.htn_review.specs.Laws.{AnswersExist, TextsHaveATask}
use Rattle.htn_review.proofs.OneAnswer.{is_grounded}

-- ## Lists

-- an element at which neither of two tests is true
abbrev Fails : {X : Type 0} → (X → Bool) → (X → Bool) → List X → Type 0
Fails {X = X} a b xs = (k : ℕ) × (x : X) × (slice_get xs k ≡ Some x) × (a x ≡ false) × (b x ≡ false)

module _ {X : Type 0} (a b : X → Bool) where
  -- where a list fails nowhere and its first value passes either test, the longer one fails nowhere
  fails_later : (x : X) (xs : List X) → (a x ≡ false → b x ≡ false → ⊥) → (Fails a b xs → ⊥) → Fails a b (x ∷ xs) → ⊥
  fails_later x xs here later (zero, y, is, p, q) = let same : x ≡ y = cc in here (ap a same ∙ p) (ap b same ∙ q)
  fails_later x xs here later (suc k, y, is, p, q) = later (k, y, is, p, q)

  -- a list fails somewhere or nowhere
  fails_or_not : (xs : List X) → Fails a b xs ⊎ (Fails a b xs → ⊥)
  fails_or_not [] = inr (λ h. let none : None ≡ Some h.1 = h.2 in absurd cc)
  fails_or_not (x ∷ xs) = by (a x) (b x) refl refl (fails_or_not xs)
    where
      by : (s t : Bool) → a x ≡ s → b x ≡ t → Fails a b xs ⊎ (Fails a b xs → ⊥) → Fails a b (x ∷ xs) ⊎ (Fails a b (x ∷ xs) → ⊥)
      by false false p q later = inl (0, x, refl, p, q)
      by true t p q (inl h) = inl (suc h.0, h.1, h.2, h.3, h.4)
      by true t p q (inr none) = inr (fails_later x xs (λ e f. both_ways (a x) e p) none)
      by false true p q (inl h) = inl (suc h.0, h.1, h.2, h.3, h.4)
      by false true p q (inr none) = inr (fails_later x xs (λ e f. both_ways (b x) f q) none)

-- where no value passes, the filtered list is empty
none_pass : {X : Type 0} (test : X → Bool) (xs : List X) → ((x : X) → test x ≡ false) → filter test xs ≡ []
none_pass test [] h = refl
none_pass test (x ∷ xs) h = ap (λ b. cond b (x ∷ filter test xs) (filter test xs)) (h x) ∙ none_pass test xs h

-- ## A ground problem

module _ (problem : Problem) (grounded : IsGrounded problem) (bound : ℕ) where
  -- the search by levels finds the least word
  least : LevelsFindLeast problem (live_step problem) config_eq bound
  least = live_numbers problem grounded config_eq bound (λ c d h. (config_eq-decides c d).0 h)

  -- ### The first level with a done configuration

  -- no configuration of this level is done
  abbrev IsNone : ℕ → Type 0
  IsNone steps = first_done problem (level problem (live_step problem) config_eq bound steps).reached ≡ None

  -- among the first levels one has a done configuration, or none has
  abbrev Search : ℕ → Type 0
  Search n =
      ((steps : ℕ) × (r : Reached) × (steps < n) × ((earlier : ℕ) → earlier < steps → IsNone earlier)
      × (first_done problem (level problem (live_step problem) config_eq bound steps).reached ≡ Some r))
      ⊎ ((steps : ℕ) → steps < n → IsNone steps)

  -- the first levels can be searched
  searched : (n : ℕ) → Search n
  searched zero = inr (λ steps lt. absurd (omega arith))
  searched (suc n) = by (searched n) (first_done problem (level problem (live_step problem) config_eq bound n).reached) refl
    where
      by : Search n → (o : Option Reached) → first_done problem (level problem (live_step problem) config_eq bound n).reached ≡ o → Search (suc n)
      by (inl h) o e = inl (h.0, h.1, (let lt = h.2 in omega arith), h.3, h.4)
      by (inr none) (Some r) e = inl (n, r, omega arith, none, e)
      by (inr none) None e = inr (λ steps lt. last steps lt (cases_order steps n))
        where
          last : (steps : ℕ) → steps < suc n → (steps ≡ n) ⊎ ((steps < n) ⊎ (n < steps)) → IsNone steps
          last steps lt (inl same) = subst IsNone (sym same) e
          last steps lt (inr (inl less)) = none steps less
          last steps lt (inr (inr more)) = absurd (omega arith)

  -- ### What the search leaves out

  -- something is left out at this level because of the bound
  abbrev LeftAt : ℕ → Type 0
  LeftAt steps =
      Fails (is_within bound steps) (λ r. list_any (config_eq r.config) (seen_before problem (live_step problem) config_eq bound steps))
      (candidates problem (live_step problem) config_eq bound steps)

  -- past the bound a level reaches nothing
  nothing_at : (steps : ℕ) → bound < steps → (level problem (live_step problem) config_eq bound steps).reached ≡ []
  nothing_at zero beyond = absurd (omega arith)
  nothing_at (suc steps) beyond =
      let before = level problem (live_step problem) config_eq bound steps in
      ap (keep_new config_eq before.seen)
      (none_pass (is_within bound (suc steps)) (flat_map (successors problem (live_step problem)) before.reached)
      (λ r. lt-leb (suc steps + length r.config.open_nodes) bound (omega arith)))

  -- past the bound nothing is left out
  none_left : (steps : ℕ) → suc bound < steps → LeftAt steps → ⊥
  none_left zero beyond h = omega arith
  none_left (suc steps) beyond h =
      let empty : candidates problem (live_step problem) config_eq bound (suc steps) ≡ [] = ap (flat_map (successors problem (live_step problem))) (nothing_at steps (omega arith)) in
      let none : None ≡ Some h.1 = ap (λ rs. slice_get rs h.0) (sym empty) ∙ h.2 in
      absurd cc

  -- whether something is left out among the first levels can be decided
  left_or_not : (n : ℕ) → ((steps : ℕ) × LeftAt steps) ⊎ ((steps : ℕ) → steps < n → LeftAt steps → ⊥)
  left_or_not zero = inr (λ steps lt h. omega arith)
  left_or_not (suc n) =
      by (left_or_not n)
      (fails_or_not (is_within bound n) (λ r. list_any (config_eq r.config) (seen_before problem (live_step problem) config_eq bound n))
      (candidates problem (live_step problem) config_eq bound n))
    where
      by : ((steps : ℕ) × LeftAt steps) ⊎ ((steps : ℕ) → steps < n → LeftAt steps → ⊥) → LeftAt n ⊎ (LeftAt n → ⊥)
          → ((steps : ℕ) × LeftAt steps) ⊎ ((steps : ℕ) → steps < suc n → LeftAt steps → ⊥)
      by (inl h) here = inl h
      by (inr none) (inl h) = inl (n, h)
      by (inr none) (inr not_here) = inr (λ steps lt h. last steps lt h (cases_order steps n))
        where
          last : (steps : ℕ) → steps < suc n → LeftAt steps → (steps ≡ n) ⊎ ((steps < n) ⊎ (n < steps)) → ⊥
          last steps lt h (inl same) = not_here (subst LeftAt same h)
          last steps lt h (inr (inl less)) = none steps less h
          last steps lt h (inr (inr more)) = omega arith

  -- what is left out at a level is left out by the search
  left_out : ((steps : ℕ) × LeftAt steps) → LeavesOut problem (live_step problem) config_eq bound
  left_out (steps, (position, candidate, stands, beyond, unseen)) = record {
    steps = steps;
    position = position;
    candidate = candidate;
    stands = stands;
    beyond = beyond;
    unseen = unseen;
  }

  -- whether the bound is met can be decided
  met_or_not : IsMet problem bound ⊎ (IsMet problem bound → ⊥)
  met_or_not = by (left_or_not (suc (suc bound)))
    where
      met : IsMet problem bound ↔ LeavesOut problem (live_step problem) config_eq bound
      met = met_is_left_out problem grounded config_eq bound config_eq-decides

      by : ((steps : ℕ) × LeftAt steps) ⊎ ((steps : ℕ) → steps < suc (suc bound) → LeftAt steps → ⊥) → IsMet problem bound ⊎ (IsMet problem bound → ⊥)
      by (inl h) = inl (met.1 (left_out h))
      by (inr none) = inr (λ h. nowhere (met.0 h))
        where
          anywhere : (steps : ℕ) → LeftAt steps → (steps ≡ suc bound) ⊎ ((steps < suc bound) ⊎ (suc bound < steps)) → ⊥
          anywhere steps h (inl same) = none steps (omega arith) h
          anywhere steps h (inr (inl less)) = none steps (omega arith) h
          anywhere steps h (inr (inr more)) = none_left steps more h

          nowhere : LeavesOut problem (live_step problem) config_eq bound → ⊥
          nowhere l = anywhere l.steps (l.position, l.candidate, l.stands, l.beyond, l.unseen) (cases_order l.steps (suc bound))

  -- ### The answer

  -- there is an answer with its text
  abbrev Comes : Type 0
  Comes =
      ((s : Solution) × IsAnswer problem bound (Some s))
      ⊎ ((IsAnswer problem bound None × IsMet problem bound) ⊎ (IsUnsolvable problem × (IsMet problem bound → ⊥)))

  -- where there is a least word, there is an answer
  by_word : (word : List ℕ) → IsLeastWord problem bound (Some word) → Comes
  by_word word h =
      let found = (one_to_one problem grounded).solution word h.0 in
      inl (found.0, (least_word_answers problem grounded).answer bound (Some word) (Some found.0) h (found.1, found.2))

  -- where there is no plan within the bound, there is an answer
  by_none : IsAnswer problem bound None → IsMet problem bound ⊎ (IsMet problem bound → ⊥) → Comes
  by_none none (inl met) = inr (inl (none, met))
  by_none none (inr not_met) = inr (inr (exhaustion_decides problem grounded bound not_met none, not_met))

  -- a grounded problem and a bound have an answer
  comes : Comes
  comes = by (searched (suc bound))
    where
      by : Search (suc bound) → Comes
      by (inl h) = by_word h.1.word (least.found h.0 h.1 (let lt = h.2 in omega arith) h.3 h.4)
      by (inr none) =
          by_none ((least_word_answers problem grounded).answer bound None None (least.none (λ steps low. none steps (omega arith))) tt) met_or_not

-- ## A task

-- a task and a bound have an outcome with its text
said : (t : Task) → IsGrounded (problem_of t) → (bound : ℕ) → (outcome : Outcome) × (text : List ℕ) × Says t bound outcome text
said t grounded bound = by (comes (problem_of t) grounded bound)
  where
    by : Comes (problem_of t) grounded bound → (outcome : Outcome) × (text : List ℕ) × Says t bound outcome text
    by (inl (s, h)) = (Found, written (numbered (naming_of t) s), (s, h, refl))
    by (inr (inl h)) = (NoPlan, codes "none\n", (h.0, h.1, refl))
    by (inr (inr h)) = (Unsolvable, codes "unsolvable\n", (h.0, h.1, refl))

-- texts that fit together have an answer for each bound
pub answers_exist : AnswersExist
answers_exist domain problem bound task is =
    let says = said task (is_grounded domain problem task is) bound in
    (says.0, says.1, (task, is, says.2))

-- texts that fit together have a task
pub texts_have_a_task : TextsHaveATask
texts_have_a_task domain problem d p domain_spelled problem_spelled fits =
    let task = tasks_exist d p in (
      task.0,
      record {
        domain_tree = d;
        problem_tree = p;
        domain_spelled = domain_spelled;
        problem_spelled = problem_spelled;
        fits = fits;
        is_task = task.1;
      },
    )
