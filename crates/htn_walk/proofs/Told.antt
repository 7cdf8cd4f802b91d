-- Words of ranks that finish, and their numbers.
use Rattle.std.proofs.Common.{◌≡◌, ℕ, zero, suc, ◌+◌, ◌<◌, ◌≤◌, arith, ◌-◌, IfSome, SomeIff, true, get_or, List, [], ◌∷◌, length, Option, Some, None, IsSome, slice_get, refl, sym, ap, ◌∙◌, subst, option_map, unwrap_or}
use Rattle.std.proofs.lemmas.Option.{none-some, same_Some, slice_get-map, slice_get_within, get_or_from_slice_get}
use Rattle.htn_model.specs.Grounding.{problem_of}
use Rattle.htn_model.specs.Instance.{Instance}
use Rattle.htn_model.specs.Instances.{initials}
use Rattle.htn_model.specs.Levels.{is_done}
use Rattle.htn_model.specs.Machine.{Config, Choice, choose, result_of, start, step_by, FinishesFrom}
use Rattle.htn_model.specs.Problem.{IsGrounded}
use Rattle.htn_model.specs.Task.{Task}
use Rattle.htn_model.specs.Tree.{Solution, total_size}
use Rattle.htn_model.specs.Answer.{IsAnswer as IsAnswerFor}
use Rattle.htn_model.proofs.Answers.{least_word_answers}
use Rattle.htn_ground.specs.Distinct.{distinct}
use Rattle.word_machine.specs.Words.{Leads, step_count}
use Rattle.word_machine.specs.Machine.{IsStep, IsFinishing}
use Rattle.word_machine.specs.Answer.{IsAnswer, IsLeastFinishing, NoneFinishes, NoneFinishesBefore}
use Rattle.word_machine.specs.declared.found.Found.{Found}
use Rattle.word_machine.proofs.Answering.{live_finishes}
use Rattle.htn_walk.specs.Machine.{IsOwn, machine_of}
use Rattle.htn_walk.specs.Fewer.{FinishesLive, IsToldBy, numbers_from}
use Rattle.htn_walk.proofs.Answers.{least_word, none_answered}
use Rattle.htn_walk.proofs.Fewer.{answer_told, least_told, none_told}
use Rattle.htn_walk.proofs.Lawful.{lawful}
use Rattle.htn_walk.proofs.Words.{done_from, slice_get-map_back}
use Rattle.htn_walk.specs.Listed.{choose_listed, initial_of, listed_initials, listing_machine, number_of}
use Rattle.htn_walk.proofs.Listed.{distinct_initials, enough, listed_initial}
use Rattle.htn_walk.specs.Rebuilt.{IsSolutionOf}
use Rattle.htn_walk.specs.Told.{FinishesListed, told, told_word}

module _ (t : Task) where
  -- what ranks lead to from nowhere or somewhere
  abbrev onward : Option Config → List ℕ → List ℕ
  onward = numbers_from (machine_of (problem_of t)) (listing_machine t) (initial_of t) (number_of t)

  -- one rank leads as its number does
  told_step : (c next : Config) (rank : ℕ) → IsStep (listing_machine t) c rank next → step_by (problem_of t) c (number_of t c rank) ≡ Some next
  told_step c next rank step = ((enough t).step c next rank step).0

  -- the numbers of ranks that finish do so
  pub finishes_told : (ranks : List ℕ) (c : Config) → FinishesListed t c ranks → FinishesFrom (problem_of t) (told t c ranks) c
  finishes_told [] c h = done_from (problem_of t) c (subst (λ x. is_done (problem_of t) x ≡ true) (sym h.1) h.2)
  finishes_told (rank ∷ ranks) c h =
      let next = h.1.0 in
      let rest = finishes_told ranks next (h.0, h.1.2, h.2) in
      (next, told_step c next rank h.1.1, subst (λ o. FinishesFrom (problem_of t) (onward o ranks) next) (sym h.1.1) rest)

  -- where an image is there, something is
  some_of : {A B : Type 0} (f : A → B) (o : Option A) (y : B) → option_map f o ≡ Some y → IsSome o
  some_of f None y h = absurd (none-some y h)
  some_of f (Some x) y h = refl

  -- the next rank chooses
  pub next_chooses : (c : Config) (rank : ℕ) (ranks : List ℕ) → FinishesListed t c (rank ∷ ranks) → IsSome (choose_listed t c rank)
  next_chooses c rank ranks h = some_of (result_of c) (choose_listed t c rank) h.1.0 h.1.1

  -- after one rank the others finish, and have the other numbers
  pub one_told : (c : Config) (rank : ℕ) (ranks : List ℕ) (choice : Choice) (new : Config) → FinishesListed t c (rank ∷ ranks) → choose (problem_of t) c (number_of t c rank) ≡ Some choice
      → new ≡ result_of c choice → (told t c (rank ∷ ranks) ≡ number_of t c rank ∷ told t new ranks) × FinishesListed t new ranks
  one_told c rank ranks choice new h chooses is =
      let next = h.1.0 in
      let same : next ≡ new = same_Some next new (sym (told_step c next rank h.1.1) ∙ ap (option_map (result_of c)) chooses ∙ ap Some (sym is)) in (
        ap (λ o. number_of t c rank ∷ onward o ranks) (h.1.1 ∙ ap Some same),
        subst (λ x. FinishesListed t x ranks) same (h.0, h.1.2, h.2),
      )

  -- the initial network of a word of ranks that finishes
  pub record IsBegun (rank : ℕ) (ranks : List ℕ) (x : Instance) : Type 0 where
    pub number : ℕ
    pub among : slice_get (initials t) number ≡ Some x
    pub finishes : FinishesListed t (start (problem_of t) x.network) ranks
    pub word : told_word t (rank ∷ ranks) ≡ number ∷ told t (start (problem_of t) x.network) ranks

  -- a word of ranks begins at what is listed
  begun_by : (rank : ℕ) (ranks : List ℕ) (p : ℕ × Instance) → slice_get (listed_initials t) rank ≡ Some p → FinishesListed t (start (problem_of t) p.1.network) ranks → IsBegun rank ranks p.1
  begun_by rank ranks p at finishes = record {
    number = p.0;
    among = listed_initial t rank p at;
    finishes = finishes;
    word =
        ap (λ (o : Option (ℕ × Instance)). unwrap_or (option_map (λ (q : ℕ × Instance). q.0) o) 0 ∷ onward (slice_get (listing_machine t).initials rank) ranks) at
        ∙ ap (λ o. p.0 ∷ onward o ranks) (slice_get-map (λ (q : ℕ × Instance). start (problem_of t) q.1.network) (listed_initials t) rank ∙ ap (option_map (λ (q : ℕ × Instance). start (problem_of t) q.1.network)) at);
  }

  -- a word of ranks that finishes begins at a distinct initial network
  pub begun : (rank : ℕ) (ranks : List ℕ) → IsFinishing (listing_machine t) (rank ∷ ranks) → (x : Instance) × (slice_get (distinct (initials t)) rank ≡ Some x) × IsBegun rank ranks x
  begun rank ranks h =
      let p = slice_get-map_back (λ (q : ℕ × Instance). start (problem_of t) q.1.network) (listed_initials t) rank h.1.0 h.1.1 in (
        p.0.1,
        ap (λ l. slice_get l rank) (sym (distinct_initials t)) ∙ slice_get-map (λ (q : ℕ × Instance). q.1) (listed_initials t) rank ∙ ap (option_map (λ (q : ℕ × Instance). q.1)) p.1,
        begun_by rank ranks p.0 p.1 (h.0, subst (λ c. Leads (IsStep (listing_machine t)) c ranks h.0) (sym p.2) h.1.2, h.2),
      )

-- ## The search's answer

module _ (t : Task) (grounded : IsGrounded (problem_of t)) (bound : ℕ) where
  -- no finishing word has a dead number
  alive : FinishesLive (machine_of (problem_of t))
  alive = live_finishes (machine_of (problem_of t)) (IsOwn (problem_of t)) (lawful (problem_of t) grounded)

  -- an answer by ranks is one by numbers
  pub told_answer : (found tells : Found) → IsAnswer (listing_machine t) bound found → IsToldBy (machine_of (problem_of t)) (listing_machine t) (initial_of t) (number_of t) found tells
      → IsAnswer (machine_of (problem_of t)) bound tells
  told_answer found tells answer is = answer_told (machine_of (problem_of t)) (listing_machine t) (initial_of t) (number_of t) (enough t) alive bound found tells answer is

  -- where no word of ranks within the bound finishes, no solution is within it
  pub told_none : NoneFinishes (listing_machine t) bound → IsAnswerFor (problem_of t) bound None
  told_none none =
      none_answered (problem_of t) bound grounded (none_told (machine_of (problem_of t)) (listing_machine t) (initial_of t) (number_of t) (enough t) alive bound none)

  -- the solution of the least word of ranks answers
  pub told_solution : (ranks : List ℕ) (s : Solution) → IsLeastFinishing (listing_machine t) bound ranks → IsSolutionOf (problem_of t) (told_word t ranks) s → IsAnswerFor (problem_of t) bound (Some s)
  told_solution ranks s least is =
      (least_word_answers (problem_of t) grounded).answer bound (Some (told_word t ranks)) (Some s)
      (least_word (problem_of t) bound (told_word t ranks) (least_told (machine_of (problem_of t)) (listing_machine t) (initial_of t) (number_of t) (enough t) alive bound ranks least))
      (is.solves, is.code)

module _ (t : Task) (grounded : IsGrounded (problem_of t)) where
  -- where no word of ranks finishes in fewer steps, no solution has at most one node fewer
  pub none_within : (nodes : ℕ) → NoneFinishesBefore (listing_machine t) (nodes + 1) → IsAnswerFor (problem_of t) nodes None
  none_within nodes none = told_none t grounded nodes (λ word finish. (let over : nodes + 1 ≤ step_count word = none word finish in omega arith))

  -- the same where the number may be 0
  pub none_known : (nodes : ℕ) (within : Option ℕ) → SomeIff within (1 ≤ nodes) (nodes - 1) → NoneFinishesBefore (listing_machine t) nodes
      → IfSome within (λ n. IsAnswerFor (problem_of t) n None)
  none_known nodes None is none = tt
  none_known nodes (Some n) is none =
      let same : nodes ≡ n + 1 = (let above : 1 ≤ nodes = is.0 in let less : n ≡ nodes - 1 = is.1 in omega arith) in
      none_within n (subst (NoneFinishesBefore (listing_machine t)) same none)

-- ## The instance of a word's first rank

module _ (t : Task) (rank : ℕ) (ranks : List ℕ) (items : List Instance) (finishes : IsFinishing (listing_machine t) (rank ∷ ranks)) (all : items ≡ distinct (initials t)) where
  -- the first rank is within what is listed
  pub rank_within : rank < length items
  rank_within = slice_get_within items rank (begun t rank ranks finishes).0 (ap (λ l. slice_get l rank) all ∙ (begun t rank ranks finishes).1)

  -- the word begins at the instance that stands there
  pub begun_at : (y : Instance) → y ≡ get_or items rank y → IsBegun t rank ranks y
  begun_at y at =
      let b = begun t rank ranks finishes in
      subst (IsBegun t rank ranks) (sym (at ∙ get_or_from_slice_get items rank b.0 y (ap (λ l. slice_get l rank) all ∙ b.1))) b.2
