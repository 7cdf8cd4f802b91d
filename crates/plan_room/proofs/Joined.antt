-- A line's children have room in a network exactly where its positions and the choices for them have.
use Rattle.std.proofs.Common.{◌≡◌, ℕ, zero, suc, ◌+◌, ◌-◌, ◌≤◌, ◌<◌, ◌⊎◌, ◌&&◌, inl, inr, Bool, true, cond, eqb, List, [], ◌∷◌, ◌++◌, length, get_or, Option, Some, None, slice_get, sym, refl, ap, ◌∙◌, subst, arith}
use Rattle.std.proofs.lemmas.Bool.{cases_lt, lt-ltb, le-ltb, eq-eqb, eqb-true}
use Rattle.std.proofs.lemmas.Option.{slice_get_within, slice_get_cases, get_or_from_slice_get}
use Rattle.std.proofs.lemmas.List.{length-append}
use Rattle.htn_model.specs.Literal.{Literal}
use Rattle.htn_model.specs.Problem.{Network, Child, precondition, action, task, IsSquare}
use Rattle.htn_model.specs.Equality.{child_eq-decides}
use Rattle.htn_model.specs.PlanFile.{IsIn, IsRearrangementOf}
use Rattle.htn_model.specs.Fits.{PlanTree, action_at, decomposition, child_of, subtask_positions, StandAt, StepFits, Fits, AllFit, NetworkFits}
use Rattle.htn_model.proofs.Ascending.{in_at}
use Rattle.htn_model.proofs.Laid.{IsSubtask, subtask_at, in_subtasks, subtasks_distinct}
use Rattle.htn_model.proofs.Monotone.{fits_monotone}
use Rattle.htn_model.proofs.Rearranged.{in_arranged}
use Rattle.plan_room.specs.Placing.{HaveSpans, IsSequence}
use Rattle.plan_room.specs.Matching.{Seating, IsSeated, HasMatchedRoom, IsSeating}
use Rattle.plan_room.specs.Lines.{Lines, plans_of}
use Rattle.plan_room.specs.Seats.{is_child_at, is_step_at, suits_at, ChoiceRoom, seating_of, AreAsMany}
use Rattle.plan_room.proofs.Onto.{onto, in_turn, length_in_turn, at_turn, turned}

-- ## By places of lists

module _ (l : Lines) (network : Network) (start finish : ℕ → ℕ) where
  -- children stand at positions of their tasks
  stand : (children positions : List ℕ) → length positions ≡ length children
      → ((j : ℕ) → j < length children → slice_get network.children (get_or positions j 0) ≡ Some (child_of (l.plan_of (get_or children j 0))))
      → StandAt network.children positions (plans_of l.plan_of children)
  stand [] [] e h = refl
  stand [] (a ∷ positions) e h = absurd (omega arith)
  stand (c ∷ children) [] e h = absurd (omega arith)
  stand (c ∷ children) (a ∷ positions) e h = (h 0 (omega arith), stand children positions (omega arith) (λ j low. h (suc j) (omega arith)))

  -- and fit there
  all_fit : (children positions : List ℕ) → length positions ≡ length children
      → ((j : ℕ) → j < length children → Fits l.naming l.problem l.states (l.plan_of (get_or children j 0)) (start (get_or positions j 0)) (finish (get_or positions j 0)))
      → AllFit l.naming l.problem l.states positions (plans_of l.plan_of children) start finish
  all_fit [] positions e h = tt
  all_fit (c ∷ children) [] e h = absurd (omega arith)
  all_fit (c ∷ children) (a ∷ positions) e h = (h 0 (omega arith), all_fit children positions (omega arith) (λ j low. h (suc j) (omega arith)))

  -- as many positions as children
  as_many_stand : (children positions : List ℕ) → StandAt network.children positions (plans_of l.plan_of children) → length positions ≡ length children
  as_many_stand [] positions h = ap length h
  as_many_stand (c ∷ children) [] h = absurd h
  as_many_stand (c ∷ children) (a ∷ positions) h = ap suc (as_many_stand children positions h.1)

  -- each child stands at its position
  stands_at : (children positions : List ℕ) → StandAt network.children positions (plans_of l.plan_of children) → (j : ℕ) → j < length children
      → slice_get network.children (get_or positions j 0) ≡ Some (child_of (l.plan_of (get_or children j 0)))
  stands_at [] positions h j low = absurd (omega arith)
  stands_at (c ∷ children) [] h j low = absurd h
  stands_at (c ∷ children) (a ∷ positions) h zero low = h.0
  stands_at (c ∷ children) (a ∷ positions) h (suc j) low = stands_at children positions h.1 j (omega arith)

  -- and fits there
  pub fits_at : (children positions : List ℕ) → AllFit l.naming l.problem l.states positions (plans_of l.plan_of children) start finish → (j : ℕ) → j < length children
      → Fits l.naming l.problem l.states (l.plan_of (get_or children j 0)) (start (get_or positions j 0)) (finish (get_or positions j 0))
  fits_at [] positions h j low = absurd (omega arith)
  fits_at (c ∷ children) [] h j low = absurd h
  fits_at (c ∷ children) (a ∷ positions) h zero low = h.0
  fits_at (c ∷ children) (a ∷ positions) h (suc j) low = fits_at children positions h.1 j (omega arith)

-- ## Choices

-- a plan tree is a subtask
plan_is_subtask : (p : PlanTree) → IsSubtask (child_of p)
plan_is_subtask (action_at g i) = tt
plan_is_subtask (decomposition t method plans) = tt

-- what passes for a child is it
is_child : (o : Option Child) (c : Child) → is_child_at o c ≡ true → o ≡ Some c
is_child None c is = absurd cc
is_child (Some b) c is = ap Some ((child_eq-decides b c).0 is)

-- what passes for a step is one
is_step : (o : Option Child) (b : Bool) → (is_step_at o && b) ≡ true → ((literals : List Literal) × (o ≡ Some (precondition literals))) × (b ≡ true)
is_step None b is = absurd cc
is_step (Some (precondition literals)) b is = ((literals, refl), is)
is_step (Some (action g)) b is = absurd cc
is_step (Some (task t)) b is = absurd cc

module _ (l : Lines) (children : List ℕ) (network : Network) (sequence : List ℕ) (gap : ℕ) where
  -- the search for room of the network's choices
  abbrev w : Seating
  w = seating_of l children network sequence gap

  -- how many children there are
  abbrev k : ℕ
  k = length children

  -- the positions of subtasks
  abbrev subtasks : List ℕ
  subtasks = subtask_positions 0 network.children

  -- the choice is a child that stands at the position
  abbrev ChildAt : ℕ → ℕ → Type 0
  ChildAt a c = (c < k) × (slice_get network.children a ≡ Some (child_of (l.plan_of (get_or children c 0))))

  -- the choice is the step of the position
  abbrev StepAt : ℕ → ℕ → Type 0
  StepAt a c = (c ≡ k + a) × ((literals : List Literal) × (slice_get network.children a ≡ Some (precondition literals)))

  -- the child at a position suits it
  pub suited_child : (a c : ℕ) → ChildAt a c → suits_at l children network a c ≡ true
  suited_child a c (low, is) =
      subst (λ b. cond b (is_child_at (slice_get network.children a) (child_of (l.plan_of (get_or children c 0)))) (is_step_at (slice_get network.children a) && eqb c (k + a)) ≡ true)
      (sym (lt-ltb c k low)) (subst (λ o. is_child_at o (child_of (l.plan_of (get_or children c 0))) ≡ true) (sym is) ((child_eq-decides (child_of (l.plan_of (get_or children c 0))) (child_of (l.plan_of (get_or children c 0)))).1 refl))

  -- and so does its step
  pub suited_step : (a c : ℕ) → StepAt a c → suits_at l children network a c ≡ true
  suited_step a c (e, (literals, is)) =
      subst (λ b. cond b (is_child_at (slice_get network.children a) (child_of (l.plan_of (get_or children c 0)))) (is_step_at (slice_get network.children a) && eqb c (k + a)) ≡ true)
      (sym (le-ltb c k (omega arith))) (subst (λ o. (is_step_at o && eqb c (k + a)) ≡ true) (sym is) (eq-eqb c (k + a) e))

  -- what suits a position is the child there, or its step
  pub suited : (a c : ℕ) → suits_at l children network a c ≡ true → ChildAt a c ⊎ StepAt a c
  suited a c is = by (cases_lt c k)
    where
      by : (c < k) ⊎ (k ≤ c) → ChildAt a c ⊎ StepAt a c
      by (inl low) = inl (
        low,
        is_child (slice_get network.children a) (child_of (l.plan_of (get_or children c 0)))
            (subst (λ b. cond b (is_child_at (slice_get network.children a) (child_of (l.plan_of (get_or children c 0)))) (is_step_at (slice_get network.children a) && eqb c (k + a)) ≡ true)
            (lt-ltb c k low) is),
      )
      by (inr high) =
          let (step, same) = is_step (slice_get network.children a) (eqb c (k + a))
          (subst (λ b. cond b (is_child_at (slice_get network.children a) (child_of (l.plan_of (get_or children c 0)))) (is_step_at (slice_get network.children a) && eqb c (k + a)) ≡ true)
          (le-ltb c k high) is) in inr (eqb-true c (k + a) same, step)

  -- positions that share a choice share all
  pub alike_so : (a b c d : ℕ) → suits_at l children network a c ≡ true → suits_at l children network b c ≡ true → suits_at l children network a d ≡ true
      → suits_at l children network b d ≡ true
  alike_so a b c d ac bc ad = by (suited a c ac) (suited b c bc) (suited a d ad)
    where
      by : ChildAt a c ⊎ StepAt a c → ChildAt b c ⊎ StepAt b c → ChildAt a d ⊎ StepAt a d → suits_at l children network b d ≡ true
      by (inl x) (inl y) (inl z) = suited_child b d (z.0, y.1 ∙ sym x.1 ∙ z.1)
      by (inl x) (inl y) (inr z) =
          let (literals, stands) = z.1 in
          let same : precondition literals ≡ child_of (l.plan_of (get_or children c 0)) = (let e = x.1 in cc) in
          absurd (subst IsSubtask (sym same) (plan_is_subtask (l.plan_of (get_or children c 0))))
      by (inl x) (inr y) at = absurd (let e = x.0 in let f = y.0 in omega arith)
      by (inr x) (inl y) at = absurd (let e = x.0 in let f = y.0 in omega arith)
      by (inr x) (inr y) at = subst (λ p. suits_at l children network p d ≡ true) (let e = x.0 in let f = y.0 in let g : a ≡ b = omega arith in g) ad

  module _ (square : IsSquare (length network.children) network.order) where
    -- ### From the choices

    module _ (many : AreAsMany l children network) (m : ℕ → ℕ) (seated : IsSeated w m) where
      child_there : (a : ℕ) → IsIn a subtasks → ChildAt a (m a)
      child_there a i =
          let s = subtask_at 0 network.children a i in
          let stands : slice_get network.children a ≡ Some s.child = subst (λ b. slice_get network.children b ≡ Some s.child) (let e = s.is in let f : s.offset ≡ a = omega arith in f) s.stands in
          let low : a < length network.order = (let x = slice_get_within network.children a s.child stands in let e = square.0 in omega arith) in
          elim (suited a (m a) (seated.suited a low)) [
            | inl child ↦ child
            | inr step ↦ (let (literals, is) = step.1 in let same : s.child ≡ precondition literals = cc in absurd (subst IsSubtask same s.is_subtask))
          ]

      inside : (a : ℕ) → IsIn a subtasks → a < length network.order
      inside a i = let x = slice_get_within network.children a _ (child_there a i).1 in let e = square.0 in omega arith

      apart : (a b : ℕ) → IsIn a subtasks → IsIn b subtasks → m a ≡ m b → a ≡ b
      apart a b i j = seated.apart a b (inside a i) (inside b j)

      position : (c : ℕ) → c < k → (a : ℕ) × IsIn a subtasks × (m a ≡ c)
      position = onto m subtasks k (subtasks_distinct 0 network.children) apart many (λ a i. (child_there a i).0)

      -- what can stand somewhere does
      pub used_so : (a c : ℕ) → a < length network.order → suits_at l children network a c ≡ true → (b : ℕ) × (b < length network.order) × (m b ≡ c)
      used_so a c low is = by (suited a c is) (suited a (m a) (seated.suited a low))
        where
          by : ChildAt a c ⊎ StepAt a c → ChildAt a (m a) ⊎ StepAt a (m a) → (b : ℕ) × (b < length network.order) × (m b ≡ c)
          by (inl child) here = let (b, i, same) = position c child.0 in (b, inside b i, same)
          by (inr step) (inl child) =
              let (literals, stands) = step.1 in
              let same : precondition literals ≡ child_of (l.plan_of (get_or children (m a) 0)) = (let e = child.1 in cc) in
              absurd (subst IsSubtask (sym same) (plan_is_subtask (l.plan_of (get_or children (m a) 0))))
          by (inr step) (inr other) = (a, low, (let e = step.0 in let f = other.0 in omega arith))

      module _ (h : ℕ) (start finish : ℕ → ℕ) (have : HaveSpans (λ a. ChoiceRoom l children network (m a)) network.order gap h start finish) where
        abbrev position_at : (c : ℕ) → (c < k) ⊎ (k ≤ c) → ℕ
        position_at c (inl low) = (position c low).0
        position_at c (inr past) = 0

        place : ℕ → ℕ
        place c = position_at c (cases_lt c k)

        placed : (c : ℕ) → c < k → IsIn (place c) subtasks × (m (place c) ≡ c)
        unfolding place
        placed c low = by (cases_lt c k)
          where
            by : (side : (c < k) ⊎ (k ≤ c)) → IsIn (position_at c side) subtasks × (m (position_at c side) ≡ c)
            by (inl small) = ((position c small).1, (position c small).2)
            by (inr past) = absurd (omega arith)

        positions : List ℕ
        positions = in_turn place 0 k

        positions_at : (j : ℕ) → j < k → get_or positions j 0 ≡ place j
        unfolding positions
        positions_at j low = at_turn place 0 k j low ∙ ap place (let e : 0 + j ≡ j = omega arith in e)

        as_many : length positions ≡ k
        unfolding positions
        as_many = length_in_turn place 0 k

        each_once : IsRearrangementOf positions subtasks
        unfolding positions
        each_once = turned m place subtasks k (subtasks_distinct 0 network.children) apart (λ a i. (child_there a i).0) (λ c low. (placed c low).0) (λ c low. (placed c low).1)

        stands_there : (j : ℕ) → j < k → slice_get network.children (place j) ≡ Some (child_of (l.plan_of (get_or children j 0)))
        stands_there j low =
            let there = child_there (place j) (placed j low).0 in
            subst (λ c. slice_get network.children (place j) ≡ Some (child_of (l.plan_of (get_or children c 0)))) (placed j low).1 there.1

        fits_there : (j : ℕ) → j < k → Fits l.naming l.problem l.states (l.plan_of (get_or children j 0)) (start (place j)) (finish (place j))
        fits_there j low =
            let room = have.rooms (place j) (inside (place j) (placed j low).0) in
            subst (λ c. Fits l.naming l.problem l.states (l.plan_of (get_or children c 0)) (start (place j)) (finish (place j))) (placed j low).1
            (room.0 (let e = (placed j low).1 in omega arith))

        steps_fit : (a : ℕ) (literals : List Literal) → slice_get network.children a ≡ Some (precondition literals) → StepFits l.states literals (start a) (finish a)
        steps_fit a literals is = by (suited a (m a) (seated.suited a low))
          where
            low : a < length network.order
            low = let x = slice_get_within network.children a (precondition literals) is in let e = square.0 in omega arith

            by : ChildAt a (m a) ⊎ StepAt a (m a) → StepFits l.states literals (start a) (finish a)
            by (inl child) =
                let same : precondition literals ≡ child_of (l.plan_of (get_or children (m a) 0)) = (let e = child.1 in cc) in
                absurd (subst IsSubtask (sym same) (plan_is_subtask (l.plan_of (get_or children (m a) 0))))
            by (inr step) =
                let room = (have.rooms a low).1 (let e = step.0 in omega arith) in
                let (others, stands, fits) = room.1 in
                let back : m a - k ≡ a = (let e = step.0 in omega arith) in
                let there : slice_get network.children a ≡ Some (precondition others) = subst (λ b. slice_get network.children b ≡ Some (precondition others)) back stands in
                let same : others ≡ literals = cc in
                subst (λ ls. StepFits l.states ls (start a) (finish a)) same fits

        pub to_fits : NetworkFits l.naming l.problem l.states network (plans_of l.plan_of children) gap h
        to_fits = (
          positions,
          record {
            each_once = each_once;
            stand = stand l network start finish children positions as_many (λ j low.
                subst (λ a. slice_get network.children a ≡ Some (child_of (l.plan_of (get_or children j 0)))) (sym (positions_at j low)) (stands_there j low));
          },
          start,
          finish,
          have.spans,
          steps_fit,
          all_fit l network start finish children positions as_many (λ j low.
              subst (λ a. Fits l.naming l.problem l.states (l.plan_of (get_or children j 0)) (start a) (finish a)) (sym (positions_at j low)) (fits_there j low)),
        )

    -- ### From a matching

    module _ (h : ℕ) (fits : NetworkFits l.naming l.problem l.states network (plans_of l.plan_of children) gap h) where
      abbrev where_at : List ℕ
      where_at = fits.0

      abbrev from : ℕ → ℕ
      from = fits.2

      abbrev to : ℕ → ℕ
      to = fits.3

      standing : StandAt network.children where_at (plans_of l.plan_of children)
      standing = fits.1.stand

      count_is : length where_at ≡ k
      count_is = as_many_stand l network from to children where_at standing

      -- the child or the step that stands at a position
      record Seat (a : ℕ) : Type 0 where
        pub choice : ℕ
        pub is : ((choice < k) × (get_or where_at choice 0 ≡ a)) ⊎ StepAt a choice

      child_seat : (a : ℕ) (c : Child) → slice_get network.children a ≡ Some c → IsSubtask c → Seat a
      child_seat a c e subtask =
          let listed : IsIn a subtasks = subst (λ b. IsIn b subtasks) (let f : 0 + a ≡ a = omega arith in f) (in_subtasks 0 network.children a c e subtask) in
          let (j, is) = in_at a where_at (in_arranged a where_at subtasks fits.1.each_once listed) in
          record { choice = j; is = inl ((let x = slice_get_within where_at j a is in let f = count_is in omega arith), get_or_from_slice_get where_at j a 0 is) }

      seat_for : (a : ℕ) (c : Child) → slice_get network.children a ≡ Some c → Seat a
      seat_for a (precondition literals) e = record { choice = k + a; is = inr (refl, (literals, e)) }
      seat_for a (action g) e = child_seat a (action g) e tt
      seat_for a (task t) e = child_seat a (task t) e tt

      seat_at : (a : ℕ) → a < length network.order → Seat a
      seat_at a low = by (slice_get_cases network.children a).1
        where
          by : ((c : Child) × (a < length network.children) × (slice_get network.children a ≡ Some c) × (get_or network.children a c ≡ c))
              ⊎ ((length network.children ≤ a) × (slice_get network.children a ≡ None)) → Seat a
          by (inl found) = seat_for a found.0 found.2
          by (inr past) = absurd (let e = square.0 in let f = past.0 in omega arith)

      abbrev choice_at : (a : ℕ) → (a < length network.order) ⊎ (length network.order ≤ a) → ℕ
      choice_at a (inl low) = (seat_at a low).choice
      choice_at a (inr past) = 0

      choices : ℕ → ℕ
      choices a = choice_at a (cases_lt a (length network.order))

      seat_is : (a : ℕ) → a < length network.order → ((choices a < k) × (get_or where_at (choices a) 0 ≡ a)) ⊎ StepAt a (choices a)
      unfolding choices
      seat_is a low = by (cases_lt a (length network.order))
        where
          by : (side : (a < length network.order) ⊎ (length network.order ≤ a)) → ((choice_at a side < k) × (get_or where_at (choice_at a side) 0 ≡ a)) ⊎ StepAt a (choice_at a side)
          by (inl small) = (seat_at a small).is
          by (inr past) = absurd (omega arith)

      suited_so : (a : ℕ) → ((choices a < k) × (get_or where_at (choices a) 0 ≡ a)) ⊎ StepAt a (choices a) → suits_at l children network a (choices a) ≡ true
      suited_so a (inl (low, same)) = suited_child a (choices a) (
        low,
        subst (λ b. slice_get network.children b ≡ Some (child_of (l.plan_of (get_or children (choices a) 0)))) same
            (stands_at l network from to children where_at standing (choices a) low),
      )
      suited_so a (inr step) = suited_step a (choices a) step

      low_so : (a : ℕ) → a < length network.order → ((choices a < k) × (get_or where_at (choices a) 0 ≡ a)) ⊎ StepAt a (choices a) → choices a < k + length network.children
      low_so a low (inl child) = (let e = child.0 in omega arith)
      low_so a low (inr step) = (let e = step.0 in let f = square.0 in omega arith)

      apart_so : (a b : ℕ) → choices a ≡ choices b → ((choices a < k) × (get_or where_at (choices a) 0 ≡ a)) ⊎ StepAt a (choices a)
          → ((choices b < k) × (get_or where_at (choices b) 0 ≡ b)) ⊎ StepAt b (choices b) → a ≡ b
      apart_so a b e (inl x) (inl y) = sym x.1 ∙ ap (λ c. get_or where_at c 0) e ∙ y.1
      apart_so a b e (inl x) (inr y) = absurd (let f = x.0 in let g = y.0 in omega arith)
      apart_so a b e (inr x) (inl y) = absurd (let f = x.0 in let g = y.0 in omega arith)
      apart_so a b e (inr x) (inr y) = (let f = x.0 in let g = y.0 in omega arith)

      room_so : (a : ℕ) → ((choices a < k) × (get_or where_at (choices a) 0 ≡ a)) ⊎ StepAt a (choices a) → ChoiceRoom l children network (choices a) (from a) (to a)
      room_so a (inl (low, same)) = (
        (λ small. subst (λ b. Fits l.naming l.problem l.states (l.plan_of (get_or children (choices a) 0)) (from b) (to b)) same
            (fits_at l network from to children where_at fits.6 (choices a) low)),
        (λ past. absurd (omega arith)),
      )
      room_so a (inr (e, (literals, is))) = (
        (λ small. absurd (omega arith)),
        (λ past. (fits.4.forward a, (literals, subst (λ b. slice_get network.children b ≡ Some (precondition literals)) (let f : a ≡ choices a - k = omega arith in f) is, fits.5 a literals is))),
      )

      pub from_fits : HasMatchedRoom w h
      from_fits = (
        choices,
        record {
          low = λ a low. low_so a low (seat_is a low);
          suited = λ a low. suited_so a (seat_is a low);
          apart = λ a b la lb e. apart_so a b e (seat_is a la) (seat_is b lb);
        },
        (from, to, record { spans = fits.4; rooms = λ a low. room_so a (seat_is a low) }),
      )

-- the children are as many as the subtasks where they have room at all
as_long : (xs ys : List ℕ) → IsRearrangementOf xs ys → length xs ≡ length ys
as_long [] ys r = sym (ap length r)
as_long (x ∷ xs) ys (left, right, e, r) =
    let more = as_long xs (left ++ right) r in let f = ap length e in let g = length-append left (x ∷ right) in let i = length-append left right in omega arith

-- where a network has room it has as many subtasks as there are children
pub as_many_fit : (l : Lines) (children : List ℕ) (network : Network) (g h : ℕ) → NetworkFits l.naming l.problem l.states network (plans_of l.plan_of children) g h
    → AreAsMany l children network
as_many_fit l children network g h fits =
    sym (as_long fits.0 (subtask_positions 0 network.children) fits.1.each_once) ∙ as_many_stand l network fits.2 fits.3 children fits.0 fits.1.stand

-- what has room has it forwards
pub fits_forward : (l : Lines) (p : PlanTree) (g h : ℕ) → Fits l.naming l.problem l.states p g h → g ≤ h
fits_forward l (action_at t i) g h (from, to) = omega arith
fits_forward l (decomposition t method plans) g h fits =
    let spans = fits.4.4 in let low = spans.from 0 in let forward = spans.forward 0 in let high = spans.to 0 in omega arith

-- the rooms of choices are such as a search asks for
pub is_seating : (l : Lines) (children : List ℕ) (network : Network) (sequence : List ℕ) (gap : ℕ) → IsSquare (length network.children) network.order
    → AreAsMany l children network → IsSequence network.order sequence → gap ≤ l.actions → IsSeating (seating_of l children network sequence gap)
is_seating l children network sequence gap square many is_sequence small = record {
  sequence = is_sequence;
  square = subst (λ n. IsSquare n network.order) (sym square.0) square;
  within = small;
  forward = λ c x y room. elim (cases_lt c (length children)) [
    | inl low ↦ fits_forward l (l.plan_of (get_or children c 0)) x y (room.0 low)
    | inr past ↦ (room.1 past).0
  ];
  sooner = λ c x y z low room. (
    (λ inside. fits_monotone l.naming l.problem l.states (l.plan_of (get_or children c 0)) x y z y low (let e : y ≤ y = omega arith in e) (room.0 inside)),
    (λ past. let (forward, (literals, is, (at, from, to, there))) = room.1 past in
        ((let f = forward in omega arith), (literals, is, (at, (let f = from in omega arith), to, there)))),
  );
  used = λ m seated a c low less is. used_so l children network sequence gap square many m seated a c low is;
  alike = alike_so l children network sequence gap;
}
