-- The numbers of a configuration that are not dead.
use Rattle.std.proofs.Common.{◌≡◌, ℕ, suc, ◌+◌, ◌<◌, ◌≤◌, Bool, true, false, not, cond, List, [], ◌∷◌, filter, map, length, slice_get, get_or, Option, Some, None, Contains, ◌⊎◌, inl, inr, refl, sym, ap, ap₂, ◌∙◌, arith, true≢false, option_map, option_and_then, is_some}
use mathlib.Core.Path.{fun_ext}
use Rattle.std.specs.List.{range_with_len, enumerate_from}
use Rattle.std.specs.List.Sorted.{IsStrictlyIncreasing}
use Rattle.std.proofs.lemmas.List.{length-map}
use Rattle.std.proofs.lemmas.List.FromFn.{get_or-range_with_len, length-range_with_len}
use Rattle.std.proofs.lemmas.List.Kept.{IsStrictlyIncreasing-filter}
use Rattle.std.proofs.lemmas.Option.{slice_get-get_or, slice_get-map, slice_get_cases, get_or_from_slice_get}
use Rattle.htn_model.specs.Choice.{passing, is_free, child_of, first_free_compound}
use Rattle.htn_model.specs.Exhaustion.{is_dead}
use Rattle.htn_model.specs.Grounding.{problem_of}
use Rattle.htn_model.specs.Instance.{Instance}
use Rattle.htn_model.specs.Instances.{methods_of}
use Rattle.htn_model.specs.Levels.{choice_count, choice_count_by, method_count}
use Rattle.htn_model.specs.Machine.{Config, Choice, no_network, choose, choose_from, network_at, result_of}
use Rattle.htn_model.specs.Problem.{GroundTask, Network, Order, Problem, perform, is_before, task}
use Rattle.htn_model.specs.State.{State}
use Rattle.htn_model.specs.Task.{Task}
use Rattle.htn_model.proofs.Passing.{passes, found}
use Rattle.htn_model.proofs.Steps.{Decomposes, Executes, chosen, step_choice}
use Rattle.word_machine.specs.Machine.{IsLiveNumbers, IsLiveStep}
use Rattle.htn_walk.specs.Machine.{machine_of, is_dead_choice}
use Rattle.htn_walk.specs.Live.{is_live_choice, live_methods, live_numbers, numbers}

-- whether a number chooses and is not dead
abbrev pub is_live_at : Problem → Config → ℕ → Bool
is_live_at problem c n = is_live_choice problem (choose problem c n)

-- ## Numbers that pass a test

-- consecutive numbers rise
pub range_rises : (a n : ℕ) → IsStrictlyIncreasing (range_with_len a n)
range_rises a n k inside =
    let long = length-range_with_len a n in
    let here = get_or-range_with_len a n k 0 (omega arith) in
    let next = get_or-range_with_len a n (k + 1) 0 (omega arith) in
    omega arith

-- the numbers that pass a test rise
pub passing_rises : (test : ℕ → Bool) (n : ℕ) → IsStrictlyIncreasing (passing test n)
passing_rises test n = IsStrictlyIncreasing-filter test (range_with_len 0 n) (range_rises 0 n)

-- each of them passes
pub passing_each : (test : ℕ → Bool) (n k d : ℕ) → k < length (passing test n) → test (get_or (passing test n) k d) ≡ true
passing_each test n k d inside = (passes test n k (get_or (passing test n) k d) (slice_get-get_or (passing test n) k d inside)).1

-- a position at which something stands is within the list
within_of : {X : Type 0} (xs : List X) (k : ℕ) (x : X) → slice_get xs k ≡ Some x → k < length xs
within_of xs k x at = elim (slice_get_cases xs k).1 [ inl here ↦ here.1 | inr past ↦ (let e = past.1 in absurd cc) ]

-- each number that passes is among them
pub passing_all : (test : ℕ → Bool) (n j : ℕ) → j < n → test j ≡ true → Contains (passing test n) j
passing_all test n j low h =
    let at = found test n j low h in (at.0, within_of (passing test n) at.0 j at.1, get_or_from_slice_get (passing test n) at.0 j j at.1)

-- ## The live numbers are those of the machine

module _ (problem : Problem) (c : Config) where
  -- a live choice is one that isn't dead
  alive : (o : Option Choice) → is_live_choice problem o ≡ true → (choice : Choice) × (o ≡ Some choice) × (is_dead_choice problem o ≡ false)
  alive None h = absurd cc
  alive (Some choice) h = (choice, refl, by (is_dead problem choice.network) h)
    where
      by : (b : Bool) → not b ≡ true → b ≡ false
      by true h = sym h
      by false h = refl

  -- the number of a live choice is a live step
  pub leads_live : (n : ℕ) → is_live_choice problem (choose problem c n) ≡ true → (d : Config) × IsLiveStep (machine_of problem) c n d
  leads_live n h =
      let made = alive (choose problem c n) h in (result_of c made.0, (ap (option_map (result_of c)) made.1, λ dead. true≢false (sym dead ∙ made.2)))

  -- a number that chooses is below the count
  below_count : (n : ℕ) (choice : Choice) → Decomposes problem c n choice ⊎ Executes problem c n choice → n < choice_count problem c
  below_count n choice (inl d) =
      let count : choice_count problem c ≡ length (problem.methods_of d.name) = ap (choice_count_by problem c) d.first ∙ ap (method_count problem) d.is_task in
      let low = within_of (problem.methods_of d.name) n choice.network d.method in
      omega arith
  below_count n choice (inr e) =
      let count : choice_count problem c ≡ length (passing (is_free (length c.open_nodes) (is_before c.order)) (length c.open_nodes)) = ap (choice_count_by problem c) e.none in
      let low = within_of (passing (is_free (length c.open_nodes) (is_before c.order)) (length c.open_nodes)) n choice.position e.nth in
      omega arith

  -- a choice that isn't dead is live
  live_from : (o : Option Choice) (choice : Choice) → o ≡ Some choice → (is_dead_choice problem o ≡ true → ⊥) → is_live_choice problem o ≡ true
  live_from None choice e live = absurd cc
  live_from (Some x) choice e live = by (is_dead problem x.network) live
    where
      by : (b : Bool) → (b ≡ true → ⊥) → not b ≡ true
      by true live = absurd (live refl)
      by false live = refl

  -- the live numbers are those of live steps, ascending
  pub live_numbers_are : IsLiveNumbers (machine_of problem) c (live_numbers problem c)
  live_numbers_are = record {
    ascending = passing_rises (λ n. is_live_choice problem (choose problem c n)) (choice_count problem c);
    each = λ k d inside. leads_live (get_or (live_numbers problem c) k d) (passing_each (λ n. is_live_choice problem (choose problem c n)) (choice_count problem c) k d inside);
    all = λ n d step. (
        let made = step_choice problem c d n step.0 in
        passing_all (λ n. is_live_choice problem (choose problem c n)) (choice_count problem c) n
        (below_count n made.0 (chosen problem c n made.0 made.1)) (live_from (choose problem c n) made.0 made.1 step.1));
  }

-- ## The numbers of a compound task's instances

-- the numbers of members that pass are the numbers that pass
numbered_filter : {X : Type 0} (q : X → Bool) (test : ℕ → Bool) (a : ℕ) (xs : List X) → ((k : ℕ) (x : X) → slice_get xs k ≡ Some x → test (a + k) ≡ q x)
    → map (λ (p : ℕ × X). p.0) (filter (λ (p : ℕ × X). q p.1) (enumerate_from a xs)) ≡ filter test (range_with_len a (length xs))
numbered_filter q test a [] same = refl
numbered_filter {X} q test a (x ∷ xs) same =
    let here : test a ≡ q x = ap test (let e : a ≡ a + 0 = omega arith in e) ∙ same 0 x refl in
    let later = numbered_filter q test (a + 1) xs (λ k y at. ap test (let e : a + 1 + k ≡ a + suc k = omega arith in e) ∙ same (suc k) y at) in
    by (q x) ∙ ap₂ (λ b l. cond b (a ∷ l) l) (sym here) later
  where
    rest : List (ℕ × X)
    rest = filter (λ (p : ℕ × X). q p.1) (enumerate_from (a + 1) xs)

    by : (b : Bool) → map (λ (p : ℕ × X). p.0) (cond b ((a, x) ∷ rest) rest) ≡ cond b (a ∷ map (λ (p : ℕ × X). p.0) rest) (map (λ (p : ℕ × X). p.0) rest)
    by true = refl
    by false = refl

-- all of a list pass a test that all pass
pub all_kept : {X : Type 0} (xs : List X) → filter (λ (x : X). true) xs ≡ xs
all_kept [] = refl
all_kept (x ∷ xs) = ap (λ l. x ∷ l) (all_kept xs)

module _ (t : Task) (c : Config) (i : ℕ) (g : GroundTask) (first : first_free_compound c.open_nodes (is_before c.order) ≡ Some i) (stands : child_of c.open_nodes i ≡ task g) where
  -- the number of an instance chooses it
  pub choose_instance : (n : ℕ) (x : Instance) → slice_get (methods_of t g) n ≡ Some x → choose (problem_of t) c n ≡ Some (record { position = i; network = x.network; state = c.state })
  choose_instance n x at =
      let place : Network → Choice = λ network. record { position = i; network = network; state = c.state } in
      ap (choose_from (problem_of t) c n) first ∙ ap (λ y. option_map place (network_at (problem_of t) y n)) stands
      ∙ ap (option_map place) (slice_get-map (λ (y : Instance). y.network) (methods_of t g) n ∙ ap (option_map (λ (y : Instance). y.network)) at)

  -- there are as many choices as instances
  count : length (methods_of t g) ≡ choice_count (problem_of t) c
  count =
      sym (length-map (methods_of t g) (λ (y : Instance). y.network)) ∙ sym (ap (choice_count_by (problem_of t) c) first ∙ ap (method_count (problem_of t)) stands)

  -- the numbers of live instances are the live ones
  pub instance_numbers : map (λ (p : ℕ × Instance). p.0) (live_methods t g) ≡ live_numbers (problem_of t) c
  instance_numbers =
      numbered_filter (λ (x : Instance). not (is_dead (problem_of t) x.network)) (is_live_at (problem_of t) c) 0 (methods_of t g)
      (λ k x at. ap (is_live_at (problem_of t) c) (let e : 0 + k ≡ k = omega arith in e) ∙ ap (is_live_choice (problem_of t)) (choose_instance k x at))
      ∙ ap (passing (is_live_at (problem_of t) c)) count

  -- the numbers of all instances are all that are allowed
  pub all_instance_numbers : map (λ (p : ℕ × Instance). p.0) (enumerate_from 0 (methods_of t g)) ≡ numbers (problem_of t) c
  all_instance_numbers =
      let chooses : ℕ → Bool = λ n. is_some (choose (problem_of t) c n) in
      ap (map (λ (p : ℕ × Instance). p.0)) (sym (all_kept (enumerate_from 0 (methods_of t g))))
      ∙ numbered_filter (λ (x : Instance). true) chooses 0 (methods_of t g)
      (λ k x at. ap chooses (let e : 0 + k ≡ k = omega arith in e) ∙ ap (λ (o : Option Choice). is_some o) (choose_instance k x at))
      ∙ ap (passing chooses) count

-- ## The numbers of steps and actions

-- the free open nodes
abbrev pub free_nodes : Config → List ℕ
free_nodes c = passing (is_free (length c.open_nodes) (is_before c.order)) (length c.open_nodes)

-- the free positions that were found are the free nodes
pub free_seen : (c : Config) (order : Order) (items : List ℕ) → items ≡ passing (is_free (length order) (is_before order)) (length order) → order ≡ c.order → length c.order ≡ length c.open_nodes
    → items ≡ free_nodes c
free_seen c order items is same whole =
    is ∙ ap (λ o. passing (is_free (length o) (is_before o)) (length o)) same ∙ ap (λ n. passing (is_free n (is_before c.order)) n) whole

-- each of them is the position of an open node
pub free_within : (c : Config) (items : List ℕ) (k d : ℕ) → items ≡ free_nodes c → k < length items → get_or items k d < length c.open_nodes
free_within c items k d is inside =
    (passes (is_free (length c.open_nodes) (is_before c.order)) (length c.open_nodes) k (get_or items k d) (ap (λ l. slice_get l k) (sym is) ∙ slice_get-get_or items k d inside)).0

module _ (problem : Problem) (c : Config) (none : first_free_compound c.open_nodes (is_before c.order) ≡ None) where
  -- the number of a free node carries it out, if its literals hold
  choose_free : (n i : ℕ) → slice_get (free_nodes c) n ≡ Some i
      → choose problem c n ≡ option_map (λ state. record { position = i; network = no_network; state = state }) (perform problem c.state (child_of c.open_nodes i))
  choose_free n i at =
      ap (choose_from problem c n) none
      ∙ ap (option_and_then (λ j. option_map (λ state. record { position = j; network = no_network; state = state }) (perform problem c.state (child_of c.open_nodes j)))) at

  module _ (items : List ℕ) (n : ℕ) (is : items ≡ free_nodes c) (inside : n < length items) where
    -- what the free node at a place of the list does
    choose_at : choose problem c n ≡ option_map (λ state. record { position = get_or items n 0; network = no_network; state = state }) (perform problem c.state (child_of c.open_nodes (get_or items n 0)))
    choose_at = choose_free n (get_or items n 0) (ap (λ l. slice_get l n) (sym is) ∙ slice_get-get_or items n 0 inside)

    -- a node that can be carried out is chosen by its number
    pub picks : (s : State) → perform problem c.state (child_of c.open_nodes (get_or items n 0)) ≡ Some s
        → choose problem c n ≡ Some (record { position = get_or items n 0; network = no_network; state = s })
    picks s h = choose_at ∙ ap (option_map (λ state. record { position = get_or items n 0; network = no_network; state = state })) h

    -- and its number is live
    pub picks_live : (s : State) → perform problem c.state (child_of c.open_nodes (get_or items n 0)) ≡ Some s → is_live_at problem c n ≡ true
    picks_live s h = ap (is_live_choice problem) (picks s h)

    -- the number of one that can't isn't
    pub skips : perform problem c.state (child_of c.open_nodes (get_or items n 0)) ≡ None → is_live_at problem c n ≡ false
    skips h = ap (is_live_choice problem) (choose_at ∙ ap (option_map (λ state. record { position = get_or items n 0; network = no_network; state = state })) h)

  -- where all free nodes were gone over, those that passed are the live numbers
  pub all_seen : (items : List ℕ) (n : ℕ) → items ≡ free_nodes c → length items ≤ n → n ≤ length items → passing (is_live_at problem c) n ≡ live_numbers problem c
  all_seen items n is past within =
      let count : choice_count problem c ≡ length (free_nodes c) = ap (choice_count_by problem c) none in
      ap (passing (is_live_at problem c)) (let e : n ≡ length items = omega arith in e ∙ ap length is ∙ sym count)

  -- none of them is dead
  pub none_dead : live_numbers problem c ≡ numbers problem c
  none_dead = ap (λ (test : ℕ → Bool). passing test (choice_count problem c)) (fun_ext (λ n. alike n (choose problem c n) refl))
    where
      alike : (n : ℕ) (o : Option Choice) → choose problem c n ≡ o → is_live_choice problem o ≡ is_some o
      alike n None e = refl
      alike n (Some choice) e = by (chosen problem c n choice e)
        where
          by : Decomposes problem c n choice ⊎ Executes problem c n choice → is_live_choice problem (Some choice) ≡ true
          by (inl d) = (let a = d.first in let b = none in absurd cc)
          by (inr x) = ap (λ (m : Network). not (is_dead problem m)) x.network
