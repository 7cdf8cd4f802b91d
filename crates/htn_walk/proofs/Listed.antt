-- What a search lists is enough: it answers by ranks as the machine answers by numbers.
use Rattle.std.proofs.Common.{◌≡◌, ℕ, zero, suc, ◌+◌, ◌<◌, ◌≤◌, ◌⊎◌, Bool, true, false, true≢false, not, cond, List, [], ◌∷◌, map, filter, length, get_or, slice_get, Option, Some, None, refl, sym, ap, subst, ◌∙◌, inl, inr, arith, option_map, option_and_then, unwrap_or}
use Rattle.std.specs.List.{enumerate_from, range_with_len}
use Rattle.std.proofs.lemmas.List.FromFn.{get_or-range_with_len, length-range_with_len}
use Rattle.std.proofs.lemmas.Bool.{cases_Bool}
use Rattle.std.proofs.lemmas.Option.{none-some, same_Some, slice_get-map, slice_get-get_or, slice_get_within}
use Rattle.htn_model.specs.Choice.{child_of, first_free_compound}
use Rattle.htn_model.specs.Equality.{network_eq-decides}
use Rattle.htn_model.specs.Exhaustion.{is_dead}
use Rattle.htn_model.specs.Grounding.{problem_of}
use Rattle.htn_model.specs.Instance.{Instance}
use Rattle.htn_model.specs.Instances.{initials, methods_of}
use Rattle.htn_model.specs.Machine.{Config, Choice, no_network, choose, result_of, start}
use Rattle.htn_model.specs.Problem.{Child, precondition, action, task, GroundTask, is_before}
use Rattle.htn_model.specs.Task.{Task}
use Rattle.htn_model.proofs.Steps.{Decomposes, Executes, chosen, step_choice}
use Rattle.htn_ground.specs.Distinct as ground
use Rattle.htn_ground.specs.Distinct.{same_network}
use Rattle.word_machine.specs.Machine.{IsStep, IsLiveStep, IsLiveNumbers}
use Rattle.htn_walk.specs.Machine.{machine_of, is_dead_choice}
use Rattle.htn_walk.specs.Fewer.{HasEnough}
use Rattle.htn_walk.proofs.Words.{slice_get-map_back}
use Rattle.htn_walk.specs.Listed.{listed_methods, listed_initials, listed_for, number_by, number_at, choose_listed, listing_machine, number_of, initial_of}
use Rattle.htn_walk.specs.Live.{live_methods, live_numbers}
use Rattle.htn_walk.proofs.Distinct.{IsKept, kept_first, seconds_kept, rises_at, rises_numbered, rises_filter}
use Rattle.htn_walk.proofs.Numbers.{choose_instance, live_numbers_are, range_rises}
use Rattle.htn_walk.proofs.Once.{In, In-at, at-In}

-- ## Numbered elements

module _ {X : Type 0} where
  -- a member is numbered by its position
  numbered_in : (a : ℕ) (xs : List X) (n : ℕ) (x : X) → slice_get xs n ≡ Some x → In (a + n, x) (enumerate_from a xs)
  numbered_in a [] n x at = absurd (none-some x at)
  numbered_in a (y ∷ xs) zero x at = inl (let e : a ≡ a + 0 = omega arith in λ i. (e i, same_Some y x at i))
  numbered_in a (y ∷ xs) (suc n) x at = inr (subst (λ (k : ℕ). In (k, x) (enumerate_from (a + 1) xs)) (let e : a + 1 + n ≡ a + suc n = omega arith in e) (numbered_in (a + 1) xs n x at))

  -- a numbered member stands at its position
  in_numbered : (a : ℕ) (xs : List X) (p : ℕ × X) → In p (enumerate_from a xs) → (j : ℕ) × (a + j ≡ p.0) × (slice_get xs j ≡ Some p.1)
  in_numbered a [] p inside = absurd inside
  in_numbered a (y ∷ xs) p inside =
      elim inside [
        | inl here ↦ (0, (let e : a + 0 ≡ a = omega arith in e) ∙ ap (λ (q : ℕ × X). q.0) here, ap (λ (q : ℕ × X). Some q.1) here)
        | inr later ↦ (let at = in_numbered (a + 1) xs p later in let e : a + 1 + at.0 ≡ p.0 = at.1 in (suc at.0, (let f : a + suc at.0 ≡ p.0 = omega arith in f), at.2))
      ]

  -- a member that passes is among what passes
  in_filter : (keeps : X → Bool) (xs : List X) (x : X) → In x xs → keeps x ≡ true → In x (filter keeps xs)
  in_filter keeps [] x inside passes = absurd inside
  in_filter keeps (y ∷ xs) x inside passes = by (keeps y) refl (in_filter keeps xs x)
    where
      by : (b : Bool) → keeps y ≡ b → (In x xs → keeps x ≡ true → In x (filter keeps xs)) → In x (cond b (y ∷ filter keeps xs) (filter keeps xs))
      by true is rest = elim inside [ inl here ↦ inl here | inr later ↦ inr (rest later passes) ]
      by false is rest = elim inside [ inl here ↦ absurd (true≢false (sym passes ∙ ap keeps (sym here) ∙ is)) | inr later ↦ rest later passes ]

  -- what is among it is a member and passes
  passed : (keeps : X → Bool) (xs : List X) (x : X) → In x (filter keeps xs) → In x xs × (keeps x ≡ true)
  passed keeps [] x inside = absurd inside
  passed keeps (y ∷ xs) x inside = by (keeps y) refl (passed keeps xs x) inside
    where
      by : (b : Bool) → keeps y ≡ b → (In x (filter keeps xs) → In x xs × (keeps x ≡ true)) → In x (cond b (y ∷ filter keeps xs) (filter keeps xs)) → In x (y ∷ xs) × (keeps x ≡ true)
      by true is rest there = elim there [ inl here ↦ (inl here, ap keeps (sym here) ∙ is) | inr later ↦ (let at = rest later in (inr at.0, at.1)) ]
      by false is rest there = let at = rest there in (inr at.0, at.1)

-- an image that is there is that of something
map_some : {A B : Type 0} (f : A → B) (o : Option A) (y : B) → option_map f o ≡ Some y → (x : A) × (o ≡ Some x) × (f x ≡ y)
map_some f None y h = absurd (none-some y h)
map_some f (Some x) y h = (x, refl, same_Some (f x) y h)

-- what isn't so is false
not_true : (b : Bool) → not b ≡ true → b ≡ false
not_true true h = sym h
not_true false h = refl

-- ## What is listed

-- whether an instance is not dead
abbrev is_alive : Task → ℕ × Instance → Bool
is_alive t p = not (is_dead (problem_of t) p.1.network)

-- the same, or of one network
alike : (p q : ℕ × Instance) → (p ≡ q) ⊎ (same_network p.1 q.1 ≡ true) → q.1.network ≡ p.1.network
alike p q (inl same) = ap (λ (r : ℕ × Instance). r.1.network) (sym same)
alike p q (inr one) = sym ((network_eq-decides p.1.network q.1.network).0 one)

module _ (t : Task) (g : GroundTask) where
  -- of the live instances those with one network are kept by the first
  methods_kept : IsKept same_network [] (live_methods t g) (listed_methods t g)
  methods_kept = kept_first same_network 0 [] (live_methods t g) tt tt (rises_filter (is_alive t) 0 (enumerate_from 0 (methods_of t g)) (rises_numbered 0 (methods_of t g)))

  -- an instance is listed with its number, and is not dead
  pub listed_method : (rank : ℕ) (p : ℕ × Instance) → slice_get (listed_methods t g) rank ≡ Some p → (slice_get (methods_of t g) p.0 ≡ Some p.1) × (is_dead (problem_of t) p.1.network ≡ false)
  listed_method rank p at =
      elim (methods_kept.each p (In-at (listed_methods t g) rank p at)) [
        | inl none ↦ absurd none
        | inr live ↦ (
            let found = passed (is_alive t) (enumerate_from 0 (methods_of t g)) p live in
            let stands = in_numbered 0 (methods_of t g) p found.0 in
            let e : 0 + stands.0 ≡ p.0 = stands.1 in
            let number : p.0 ≡ stands.0 = omega arith in
            (ap (slice_get (methods_of t g)) number ∙ stands.2, not_true (is_dead (problem_of t) p.1.network) found.1))
      ]

  -- without their numbers
  pub listed_instances : map (λ (p : ℕ × Instance). p.1) (listed_methods t g) ≡ ground.distinct (ground.live_methods t g)
  listed_instances =
      seconds_kept same_network [] (live_methods t g) ∙ ap ground.distinct (seconds_alive 0 (methods_of t g))
    where
      seconds_alive : (a : ℕ) (xs : List Instance) → map (λ (p : ℕ × Instance). p.1) (filter (is_alive t) (enumerate_from a xs)) ≡ filter (λ i. not (is_dead (problem_of t) i.network)) xs
      seconds_alive a [] = refl
      seconds_alive a (x ∷ xs) = by (not (is_dead (problem_of t) x.network)) (seconds_alive (a + 1) xs)
        where
          by : (b : Bool) → map (λ (p : ℕ × Instance). p.1) (filter (is_alive t) (enumerate_from (a + 1) xs)) ≡ filter (λ i. not (is_dead (problem_of t) i.network)) xs
              → map (λ (p : ℕ × Instance). p.1) (cond b ((a, x) ∷ filter (is_alive t) (enumerate_from (a + 1) xs)) (filter (is_alive t) (enumerate_from (a + 1) xs)))
              ≡ cond b (x ∷ filter (λ i. not (is_dead (problem_of t) i.network)) xs) (filter (λ i. not (is_dead (problem_of t) i.network)) xs)
          by true rest = ap (λ l. x ∷ l) rest
          by false rest = rest

  -- one of an equal network and no greater number is listed
  method_listed : (n : ℕ) (x : Instance) → slice_get (methods_of t g) n ≡ Some x → is_dead (problem_of t) x.network ≡ false
      → (rank : ℕ) × (q : ℕ × Instance) × (slice_get (listed_methods t g) rank ≡ Some q) × (q.1.network ≡ x.network) × (q.0 ≤ n)
  method_listed n x at alive =
      let stands : In (n, x) (enumerate_from 0 (methods_of t g)) = subst (λ (k : ℕ). In (k, x) (enumerate_from 0 (methods_of t g))) (let e : 0 + n ≡ n = omega arith in e) (numbered_in 0 (methods_of t g) n x at) in
      let first = methods_kept.first (n, x) (in_filter (is_alive t) (enumerate_from 0 (methods_of t g)) (n, x) stands (ap not alive)) in
      let rank = at-In (listed_methods t g) first.0 first.1 in
      (rank.0, first.0, rank.1, alike (n, x) first.0 first.2, first.3)

module _ (t : Task) where
  -- and so are initial networks
  initials_kept : IsKept same_network [] (enumerate_from 0 (initials t)) (listed_initials t)
  initials_kept = kept_first same_network 0 [] (enumerate_from 0 (initials t)) tt tt (rises_numbered 0 (initials t))

  -- an initial network that is listed is one, by its number
  pub listed_initial : (rank : ℕ) (p : ℕ × Instance) → slice_get (listed_initials t) rank ≡ Some p → slice_get (initials t) p.0 ≡ Some p.1
  listed_initial rank p at =
      elim (initials_kept.each p (In-at (listed_initials t) rank p at)) [
        | inl none ↦ absurd none
        | inr found ↦ (
            let stands = in_numbered 0 (initials t) p found in
            let e : 0 + stands.0 ≡ p.0 = stands.1 in
            let number : p.0 ≡ stands.0 = omega arith in
            ap (slice_get (initials t)) number ∙ stands.2)
      ]

  -- those that are listed are the distinct ones
  pub distinct_initials : map (λ (p : ℕ × Instance). p.1) (listed_initials t) ≡ ground.distinct (initials t)
  distinct_initials = seconds_kept same_network [] (enumerate_from 0 (initials t)) ∙ ap ground.distinct (seconds 0 (initials t))
    where
      seconds : (a : ℕ) (xs : List Instance) → map (λ (p : ℕ × Instance). p.1) (enumerate_from a xs) ≡ xs
      seconds a [] = refl
      seconds a (x ∷ xs) = ap (λ l. x ∷ l) (seconds (a + 1) xs)

  -- for each initial network an equal one is listed, with no greater number
  initial_listed : (n : ℕ) (x : Instance) → slice_get (initials t) n ≡ Some x
      → (rank : ℕ) × (q : ℕ × Instance) × (slice_get (listed_initials t) rank ≡ Some q) × (q.1.network ≡ x.network) × (q.0 ≤ n)
  initial_listed n x at =
      let stands : In (n, x) (enumerate_from 0 (initials t)) = subst (λ (k : ℕ). In (k, x) (enumerate_from 0 (initials t))) (let e : 0 + n ≡ n = omega arith in e) (numbered_in 0 (initials t) n x at) in
      let first = initials_kept.first (n, x) stands in
      let rank = at-In (listed_initials t) first.0 first.1 in
      (rank.0, first.0, rank.1, alike (n, x) first.0 first.2, first.3)

-- ## Ranks of a configuration

module _ (t : Task) (c : Config) where
  -- where no compound task is free, ranks are numbers
  pub free_listed : first_free_compound c.open_nodes (is_before c.order) ≡ None → (rank : ℕ) → choose_listed t c rank ≡ choose (problem_of t) c rank
  free_listed none rank = ap (λ o. option_and_then (choose (problem_of t) c) (number_by t c rank o)) none

  module _ (i : ℕ) (g : GroundTask) (first : first_free_compound c.open_nodes (is_before c.order) ≡ Some i) (stands : child_of c.open_nodes i ≡ task g) where
    -- the number of a rank is that of what is listed there
    pub at_task : (rank : ℕ) → number_at t c rank ≡ option_map (λ p. p.0) (slice_get (listed_methods t g) rank)
    at_task rank = ap (number_by t c rank) first ∙ ap (λ x. option_map (λ (p : ℕ × Instance). p.0) (slice_get (listed_for t x) rank)) stands

    -- the number of a listed instance
    pub number_listed : (rank : ℕ) (p : ℕ × Instance) → slice_get (listed_methods t g) rank ≡ Some p → number_at t c rank ≡ Some p.0
    number_listed rank p at = at_task rank ∙ ap (option_map (λ (q : ℕ × Instance). q.0)) at

    -- a rank chooses the instance that is listed there
    pub instance_listed : (rank : ℕ) (p : ℕ × Instance) → slice_get (listed_methods t g) rank ≡ Some p
        → choose_listed t c rank ≡ Some (record { position = i; network = p.1.network; state = c.state })
    instance_listed rank p at =
        ap (option_and_then (choose (problem_of t) c)) (number_listed rank p at)
        ∙ choose_instance t c i g first stands p.0 p.1 (listed_method t g rank p at).0

  -- the number of a rank that chooses, which is not dead
  pub record IsNumbered (rank : ℕ) (choice : Choice) : Type 0 where
    pub number : ℕ
    pub is : number_at t c rank ≡ Some number
    pub chooses : choose (problem_of t) c number ≡ Some choice
    pub alive : is_dead (problem_of t) choice.network ≡ false

  -- what a rank chooses isn't dead
  alive_at : (rank n : ℕ) (choice : Choice) → number_at t c rank ≡ Some n → choose (problem_of t) c n ≡ Some choice → is_dead (problem_of t) choice.network ≡ false
  alive_at rank n choice is chooses = by (chosen (problem_of t) c n choice chooses)
    where
      by : Decomposes (problem_of t) c n choice ⊎ Executes (problem_of t) c n choice → is_dead (problem_of t) choice.network ≡ false
      by (inr e) = ap (is_dead (problem_of t)) e.network
      by (inl d) =
          let p = map_some (λ (q : ℕ × Instance). q.0) (slice_get (listed_methods t d.name) rank) n (sym (at_task choice.position d.name d.first d.is_task rank) ∙ is) in
          let found = listed_method t d.name rank p.0 p.1 in
          let network : slice_get (map (λ (x : Instance). x.network) (methods_of t d.name)) n ≡ Some p.0.1.network =
          slice_get-map (λ (x : Instance). x.network) (methods_of t d.name) n ∙ ap (option_map (λ (x : Instance). x.network)) (ap (slice_get (methods_of t d.name)) (sym p.2) ∙ found.0) in
          ap (is_dead (problem_of t)) (same_Some choice.network p.0.1.network (sym d.method ∙ network)) ∙ found.1

  -- a rank chooses what its number does
  pub numbered : (rank : ℕ) (choice : Choice) → choose_listed t c rank ≡ Some choice → IsNumbered rank choice
  numbered rank choice chooses = by (number_at t c rank) refl chooses
    where
      by : (o : Option ℕ) → number_at t c rank ≡ o → option_and_then (choose (problem_of t) c) o ≡ Some choice → IsNumbered rank choice
      by None is h = absurd (none-some choice h)
      by (Some n) is h = record { number = n; is = is; chooses = h; alive = alive_at rank n choice is h }

  -- numbers ascend with ranks
  ascends : (o : Option ℕ) → first_free_compound c.open_nodes (is_before c.order) ≡ o → (r s m n : ℕ) → r < s → number_by t c r o ≡ Some m → number_by t c s o ≡ Some n → m < n
  ascends None first r s m n less p q =
      let a : r ≡ m = same_Some r m p in
      let b : s ≡ n = same_Some s n q in
      omega arith
  ascends (Some i) first r s m n less p q = by (child_of c.open_nodes i) p q
    where
      by : (x : Child) → option_map (λ (p : ℕ × Instance). p.0) (slice_get (listed_for t x) r) ≡ Some m → option_map (λ (p : ℕ × Instance). p.0) (slice_get (listed_for t x) s) ≡ Some n → m < n
      by (precondition literals) p q = absurd (none-some m p)
      by (action g) p q = absurd (none-some m p)
      by (task g) p q =
          let x = map_some (λ (p : ℕ × Instance). p.0) (slice_get (listed_methods t g) r) m p in
          let y = map_some (λ (p : ℕ × Instance). p.0) (slice_get (listed_methods t g) s) n q in
          let rises : x.0.0 < y.0.0 = rises_at 0 (listed_methods t g) (methods_kept t g).rises r s x.0 y.0 less x.1 y.1 in
          let a : x.0.0 ≡ m = x.2 in
          let b : y.0.0 ≡ n = y.2 in
          omega arith

  -- for each live step a rank leads to the same, with no greater number
  first_listed : (d : Config) (n : ℕ) → IsLiveStep (machine_of (problem_of t)) c n d → (rank : ℕ) × IsStep (listing_machine t) c rank d × (number_of t c rank ≤ n)
  first_listed d n live = by (chosen (problem_of t) c n made.0 made.1)
    where
      made : (choice : Choice) × (choose (problem_of t) c n ≡ Some choice) × (result_of c choice ≡ d)
      made = let found = step_choice (problem_of t) c d n live.0 in (found.0, found.1, sym found.2)

      dies : is_dead (problem_of t) made.0.network ≡ true → ⊥
      dies dead = live.1 (ap (is_dead_choice (problem_of t)) made.1 ∙ dead)

      by : Decomposes (problem_of t) c n made.0 ⊎ Executes (problem_of t) c n made.0 → (rank : ℕ) × IsStep (listing_machine t) c rank d × (number_of t c rank ≤ n)
      by (inr e) = (
        n,
        ap (option_map (result_of c)) (free_listed e.none n ∙ made.1) ∙ ap Some made.2,
        (let same : number_of t c n ≡ n = ap (λ o. unwrap_or (number_by t c n o) 0) e.none in omega arith),
      )
      by (inl a) =
          let at = slice_get-map_back (λ (x : Instance). x.network) (methods_of t a.name) n made.0.network a.method in
          let alive : is_dead (problem_of t) made.0.network ≡ false = elim (cases_Bool (is_dead (problem_of t) made.0.network)) [ inl dead ↦ absurd (dies dead) | inr f ↦ f ] in
          let listed = method_listed t a.name n at.0 at.1 (ap (is_dead (problem_of t)) at.2 ∙ alive) in
          let number = number_listed made.0.position a.name a.first a.is_task listed.0 listed.1 listed.2 in
          let chooses = instance_listed made.0.position a.name a.first a.is_task listed.0 listed.1 listed.2 in
          let network : listed.1.1.network ≡ made.0.network = listed.3 ∙ at.2 in
          let same : choose_listed t c listed.0 ≡ Some made.0 = chooses ∙ (λ j. Some (record { position = made.0.position; network = network j; state = sym a.state j })) in
          let low : listed.1.0 ≤ n = listed.4 in
          let is : number_of t c listed.0 ≡ listed.1.0 = ap (λ o. unwrap_or o 0) number in
          (listed.0, ap (option_map (result_of c)) same ∙ ap Some made.2, (let h : number_of t c listed.0 ≤ n = omega arith in h))

  -- a step by a rank is the live step by its number
  listed_steps : (d : Config) (rank : ℕ) → IsStep (listing_machine t) c rank d → IsLiveStep (machine_of (problem_of t)) c (number_of t c rank) d
  listed_steps d rank step =
      let choice = map_some (result_of c) (choose_listed t c rank) d step in
      let told = numbered rank choice.0 choice.1 in
      subst (λ n. IsLiveStep (machine_of (problem_of t)) c n d) (sym (ap (λ o. unwrap_or o 0) told.is)) (
        ap (option_map (result_of c)) told.chooses ∙ ap Some choice.2,
        λ dead. true≢false (sym dead ∙ ap (is_dead_choice (problem_of t)) told.chooses ∙ told.alive),
      )

  -- the numbers of steps ascend with their ranks
  listed_ascend : (d e : Config) (r s : ℕ) → r < s → IsStep (listing_machine t) c r d → IsStep (listing_machine t) c s e → number_of t c r < number_of t c s
  listed_ascend d e r s less p q =
      let x = map_some (result_of c) (choose_listed t c r) d p in
      let y = map_some (result_of c) (choose_listed t c s) e q in
      let m = numbered r x.0 x.1 in
      let n = numbered s y.0 y.1 in
      let lower : m.number < n.number = ascends (first_free_compound c.open_nodes (is_before c.order)) refl r s m.number n.number less m.is n.is in
      let a : number_of t c r ≡ m.number = ap (λ o. unwrap_or o 0) m.is in
      let b : number_of t c s ≡ n.number = ap (λ o. unwrap_or o 0) n.is in
      omega arith

-- ## The whole

module _ (t : Task) where
  -- the number of an initial rank is that of what is listed there
  number_initial : (rank : ℕ) (p : ℕ × Instance) → slice_get (listed_initials t) rank ≡ Some p → initial_of t rank ≡ p.0
  number_initial rank p at = ap (λ (o : Option (ℕ × Instance)). unwrap_or (option_map (λ (q : ℕ × Instance). q.0) o) 0) at

  -- the configuration in which an initial network is open
  begin : ℕ × Instance → Config
  begin p = start (problem_of t) p.1.network

  -- the machine's initial configuration of an initial network
  initial_at : (n : ℕ) (x : Instance) → slice_get (initials t) n ≡ Some x → slice_get (machine_of (problem_of t)).initials n ≡ Some (start (problem_of t) x.network)
  initial_at n x at =
      slice_get-map (start (problem_of t)) (problem_of t).initials n
      ∙ ap (option_map (start (problem_of t))) (slice_get-map (λ (y : Instance). y.network) (initials t) n ∙ ap (option_map (λ (y : Instance). y.network)) at)

  -- what a search lists is enough for its answer
  pub enough : HasEnough (machine_of (problem_of t)) (listing_machine t) (initial_of t) (number_of t)
  enough = record {
    is_done = λ c. refl;
    open_len = λ c. refl;
    none_dead = λ c rank. refl;
    initial = λ rank c at. (
        let p = slice_get-map_back (λ (q : ℕ × Instance). start (problem_of t) q.1.network) (listed_initials t) rank c at in
        ap (slice_get (machine_of (problem_of t)).initials) (number_initial rank p.0 p.1) ∙ initial_at p.0.0 p.0.1 (listed_initial t rank p.0 p.1) ∙ ap Some p.2);
    initials_ascend = λ r s c d less x y. (
        let p = slice_get-map_back (λ (q : ℕ × Instance). start (problem_of t) q.1.network) (listed_initials t) r c x in
        let q = slice_get-map_back (λ (q : ℕ × Instance). start (problem_of t) q.1.network) (listed_initials t) s d y in
        let rises : p.0.0 < q.0.0 = rises_at 0 (listed_initials t) (initials_kept t).rises r s p.0 q.0 less p.1 q.1 in
        let a : initial_of t r ≡ p.0.0 = number_initial r p.0 p.1 in
        let b : initial_of t s ≡ q.0.0 = number_initial s q.0 q.1 in
        omega arith);
    first_initial = λ number c at. (
        let network = slice_get-map_back (start (problem_of t)) (problem_of t).initials number c at in
        let x = slice_get-map_back (λ (y : Instance). y.network) (initials t) number network.0 network.1 in
        let listed = initial_listed t number x.0 x.1 in
        let low : listed.1.0 ≤ number = listed.4 in
        let a : initial_of t listed.0 ≡ listed.1.0 = number_initial listed.0 listed.1 listed.2 in
        (listed.0, slice_get-map (λ (q : ℕ × Instance). start (problem_of t) q.1.network) (listed_initials t) listed.0 ∙ ap (option_map (λ (q : ℕ × Instance). start (problem_of t) q.1.network)) listed.2 ∙ ap Some (ap (start (problem_of t)) (listed.3 ∙ x.2) ∙ network.2), (let h : initial_of t listed.0 ≤ number = omega arith in h)));
    step = λ c d rank step. listed_steps t c d rank step;
    steps_ascend = λ c d e r s less p q. listed_ascend t c d e r s less p q;
    first_step = λ c d number live. first_listed t c d number live;
  }

-- ## The ranks that a search takes

-- any numbered instance, where one has to be given
nothing : ℕ × Instance
nothing = (0, record { method = None; values = []; network = no_network })

module _ (t : Task) (c : Config) where
  -- where a compound task is free, the ranks of its instances are the live numbers
  pub ranks_live : (i : ℕ) (g : GroundTask) → first_free_compound c.open_nodes (is_before c.order) ≡ Some i → child_of c.open_nodes i ≡ task g
      → IsLiveNumbers (listing_machine t) c (range_with_len 0 (length (listed_methods t g)))
  ranks_live i g first stands = record {
    ascending = range_rises 0 (length (listed_methods t g));
    each = λ k d inside. (
        let long = length-range_with_len 0 (length (listed_methods t g)) in
        let low : k < length (listed_methods t g) = omega arith in
        let is : get_or (range_with_len 0 (length (listed_methods t g))) k d ≡ k = get_or-range_with_len 0 (length (listed_methods t g)) k d low ∙ (let e : 0 + k ≡ k = omega arith in e) in
        let p = get_or (listed_methods t g) k nothing in
        subst (λ n. (e : Config) × IsLiveStep (listing_machine t) c n e) (sym is) (
          result_of c (record { position = i; network = p.1.network; state = c.state }),
          (ap (option_map (result_of c)) (instance_listed t c i g first stands k p (slice_get-get_or (listed_methods t g) k nothing low)), λ dead. true≢false (sym dead)),
        ));
    all = λ n d live. (
        let choice = map_some (result_of c) (choose_listed t c n) d live.0 in
        let told = numbered t c n choice.0 choice.1 in
        let p = map_some (λ (q : ℕ × Instance). q.0) (slice_get (listed_methods t g) n) told.number (sym (at_task t c i g first stands n) ∙ told.is) in
        let inside : n < length (listed_methods t g) = slice_get_within (listed_methods t g) n p.0 p.1 in
        let long = length-range_with_len 0 (length (listed_methods t g)) in
        (n, (let low : n < length (range_with_len 0 (length (listed_methods t g))) = omega arith in low), get_or-range_with_len 0 (length (listed_methods t g)) n n inside ∙ (let e : 0 + n ≡ n = omega arith in e)));
  }

  -- where none is free, the live numbers are those of the nodes
  pub free_live : first_free_compound c.open_nodes (is_before c.order) ≡ None → IsLiveNumbers (listing_machine t) c (live_numbers (problem_of t) c)
  free_live none = record {
    ascending = (live_numbers_are (problem_of t) c).ascending;
    each = λ k d inside. (
        let live = (live_numbers_are (problem_of t) c).each k d inside in
        (live.0, (ap (option_map (result_of c)) (free_listed t c none (get_or (live_numbers (problem_of t) c) k d)) ∙ live.1.0, λ dead. true≢false (sym dead))));
    all = λ n d live. (
        let same : number_of t c n ≡ n = ap (λ o. unwrap_or (number_by t c n o) 0) none in
        (live_numbers_are (problem_of t) c).all n d (subst (λ k. IsLiveStep (machine_of (problem_of t)) c k d) same (listed_steps t c d n live.0)));
  }
