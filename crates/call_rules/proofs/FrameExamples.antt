-- The small problem in frames, computed.
use Rattle.std.proofs.Common.{◌≡◌, ℕ, zero, suc, ◌+◌, ◌≤◌, ◌⊎◌, Bool, true, false, not, cond, ◌&&◌, ◌||◌, List, [], ◌∷◌, ◌++◌, filter, length, map, Some, None, inl, inr, refl, sym, ap, ap₂, ◌∙◌, subst, true≢false, arith}
use Rattle.std.specs.Prelude.{Contains, get_or, max, min}
use Rattle.std.specs.List.{list_any}
use Rattle.std.proofs.lemmas.Option.{none-some, same_Some}
use Rattle.htn_model.specs.Atom.{Atom}
use Rattle.htn_model.specs.AtomOrder.{same_state, state_eq-decides}
use Rattle.htn_model.specs.State.{State, contains, set_of, state_eq, union}
use Rattle.htn_model.specs.Literal.{atom, Action}
use Rattle.htn_model.specs.Problem.{action, network_eq}
use Rattle.htn_model.specs.Examples.{fact, named}
use Rattle.htn_model.proofs.Sets.{is_same, same_as, contains-set_of, contains-union}
use Rattle.htn_model.proofs.Sketches.{holds_shown, perform_shown}
use Rattle.htn_model.specs.Sketch.{drawn}
use Rattle.htn_calls.specs.Calls.{Exit, Summary, Place, Rule, Covers, by_summary}
use Rattle.htn_calls.specs.Bounds.{is_goal}
use Rattle.call_rules.specs.Frame.{Frame, within, lift}
use Rattle.call_rules.specs.Local.{AreIn, IsActionIn}
use Rattle.call_rules.specs.Framed.{IsPart, framed, lifted_summary}
use Rattle.call_rules.specs.Closed.{IsMetIn, IsCalledIn, IsFollowedIn, IsClosedIn}
use Rattle.call_rules.specs.FramedValues.{IsFromCall}
use Rattle.call_rules.specs.FrameExamples.{moving_sketch, moving, state, block, only, either, frame_by, frame, rules, one_exit, listing, value, StatesArePartedSo, NodesHaveFramesSo, CallsAreLiftedSo, CallsCloseSo, ValuesAreSo}
use Rattle.call_rules.proofs.Parts.{contains-within}

-- ## Parts of states that are listed

-- a filtered list has an atom where the list has it and it passes
filtered : (frame : Frame) (q : Atom) (xs : List Atom)
    → (list_any (is_same q) xs && frame q) ≡ list_any (is_same q) (filter frame xs)
filtered frame q [] = refl
filtered frame q (x ∷ xs) = by (is_same q x) refl (frame x) refl (filtered frame q xs)
  where
    by : (s : Bool) → is_same q x ≡ s → (f : Bool) → frame x ≡ f
        → (list_any (is_same q) xs && frame q) ≡ list_any (is_same q) (filter frame xs)
        → ((s || list_any (is_same q) xs) && frame q)
        ≡ list_any (is_same q) (cond f (x ∷ filter frame xs) (filter frame xs))
    by true same true e rest =
        ap frame (same_as q x same) ∙ e ∙ sym (ap (λ b. b || list_any (is_same q) (filter frame xs)) same)
    by true same false e rest =
        let out : frame q ≡ false = ap frame (same_as q x same) ∙ e in
        out ∙ sym (never (list_any (is_same q) xs)) ∙ sym (ap (λ b. list_any (is_same q) xs && b) out) ∙ rest
      where
        never : (b : Bool) → (b && false) ≡ false
        never true = refl
        never false = refl
    by false other true e rest = rest ∙ sym (ap (λ b. b || list_any (is_same q) (filter frame xs)) other)
    by false other false e rest = rest

-- the part of a listed state is listed by the filter
part_of : (frame : Frame) (xs : List Atom) → within frame (set_of xs) ≡ set_of (filter frame xs)
part_of frame xs =
    same_state (within frame (set_of xs)) (set_of (filter frame xs))
    (λ q. contains-within frame (set_of xs) q ∙ ap (λ b. b && frame q) (contains-set_of xs q) ∙ filtered frame q xs
    ∙ sym (contains-set_of (filter frame xs) q))

-- one is found in joined lists where it is in the first or in the second
found_in : (q : Atom) (xs ys : List Atom)
    → (list_any (is_same q) xs || list_any (is_same q) ys) ≡ list_any (is_same q) (xs ++ ys)
found_in q [] ys = refl
found_in q (x ∷ xs) ys = regroup (is_same q x) _ _ ∙ ap (λ b. is_same q x || b) (found_in q xs ys)
  where
    regroup : (a b c : Bool) → ((a || b) || c) ≡ (a || (b || c))
    regroup true b c = refl
    regroup false b c = refl

-- a listed state with the part of another is listed by both filters
lift_of : (frame : Frame) (xs ys : List Atom)
    → lift frame (set_of xs) (set_of ys) ≡ set_of (filter (λ a. not (frame a)) xs ++ filter frame ys)
lift_of frame xs ys =
    ap₂ union (part_of (λ a. not (frame a)) xs) (part_of frame ys)
    ∙ united (filter (λ a. not (frame a)) xs) (filter frame ys)
  where
    united : (us vs : List Atom) → union (set_of us) (set_of vs) ≡ set_of (us ++ vs)
    united us vs =
        same_state (union (set_of us) (set_of vs)) (set_of (us ++ vs))
        (λ q. contains-union (set_of us) (set_of vs) q
        ∙ ap₂ (λ b c. b || c) (contains-set_of us q) (contains-set_of vs q)
        ∙ found_in q us vs ∙ sym (contains-set_of (us ++ vs) q))

-- ## States

-- listed states of which one has a fact and the other doesn't are not the same
apart_by : (n : ℕ) (xs ys : List Atom) → list_any (is_same (fact n)) xs ≡ true
    → list_any (is_same (fact n)) ys ≡ false → set_of xs ≡ set_of ys → ⊥
apart_by n xs ys has lost same =
    true≢false (sym has ∙ sym (contains-set_of xs (fact n)) ∙ ap (λ s. contains s (fact n)) same
    ∙ contains-set_of ys (fact n) ∙ lost)

-- what is in the frame before the action and after it
part_before : within (either 1 2) (state 2) ≡ state 0
part_before = part_of (either 1 2) (fact 0 ∷ fact 1 ∷ [])

part_after : within (either 1 2) (state 3) ≡ state 1
part_after = part_of (either 1 2) (fact 0 ∷ fact 2 ∷ [])

own_part : within (either 1 2) (state 0) ≡ state 0
own_part = part_of (either 1 2) (fact 1 ∷ [])

-- what the action leads to, lifted
lifted_after : lift (either 1 2) (state 2) (state 1) ≡ state 3
lifted_after = lift_of (either 1 2) (fact 0 ∷ fact 1 ∷ []) (fact 2 ∷ [])

-- how frames part states
pub states_are_parted_so : StatesArePartedSo
states_are_parted_so = record {
  inside = part_before;
  outside = part_of (λ a. not (either 1 2 a)) (fact 0 ∷ fact 1 ∷ []);
  lifted = lifted_after;
  of_part = lift_of (either 1 2) (fact 1 ∷ []) (fact 0 ∷ fact 2 ∷ []);
  apart = λ same.
      apart_by 1 (fact 1 ∷ []) (fact 2 ∷ []) refl refl (sym part_before ∙ same ∙ part_after);
}

-- ## Nodes

-- an atom alone is in a frame that has it
one_in : (frame : Frame) (x : Atom) → frame x ≡ true → AreIn frame (set_of (x ∷ []))
one_in frame x inside a has = by (is_same a x) refl (sym (contains-set_of (x ∷ []) a) ∙ has)
  where
    by : (b : Bool) → is_same a x ≡ b → (b || false) ≡ true → frame a ≡ true
    by true same h = ap frame (same_as a x same) ∙ inside
    by false other h = absurd (true≢false (sym h))

-- listed states in another order
turned : (x y : Atom) → set_of (x ∷ y ∷ []) ≡ set_of (y ∷ x ∷ [])
turned x y =
    same_state (set_of (x ∷ y ∷ [])) (set_of (y ∷ x ∷ []))
    (λ q. contains-set_of (x ∷ y ∷ []) q ∙ swap (is_same q x) (is_same q y) ∙ sym (contains-set_of (y ∷ x ∷ []) q))
  where
    swap : (a b : Bool) → (a || (b || false)) ≡ (b || (a || false))
    swap true true = refl
    swap true false = refl
    swap false true = refl
    swap false false = refl

-- the action
moves : Action
moves = drawn (record { precondition = atom true (fact 1) ∷ []; deletes = fact 1 ∷ []; adds = fact 2 ∷ [] })

-- frames of the action
pub nodes_have_frames_so : NodesHaveFramesSo
unfolding moves
nodes_have_frames_so = record {
  both = λ a is.
      subst (IsActionIn (either 1 2)) (same_Some moves a is)
      (record { reads = refl; deletes = one_in (either 1 2) (fact 1) refl; adds = one_in (either 1 2) (fact 2) refl });
  unread = λ all. true≢false (sym (all moves refl).reads);
  unwritten = λ all. true≢false (sym ((all moves refl).adds (fact 2) (contains-set_of (fact 2 ∷ []) (fact 2))));
  in_part = perform_shown moving_sketch (fact 1 ∷ []) (action (named 1));
  in_whole =
      perform_shown moving_sketch (fact 0 ∷ fact 1 ∷ []) (action (named 1))
      ∙ ap (λ s. Some s) (turned (fact 2) (fact 0));
}

-- ## Calls

-- the call of the task in a state that has that part
lifted_call : (s : State) → IsPart (either 1 2) s (state 0)
    → framed state block frame (listing 2) ((0, 0) ∷ []) s (block 0)
    ≡ Some (one_exit (lift (either 1 2) s (state 1)) 2)
lifted_call s is =
    ap (λ b. cond (b && network_eq (block 0) (block 0)) (Some (one_exit (lift (either 1 2) s (state 1)) 2)) None)
    ((state_eq-decides (state 0) (within (either 1 2) s)).1 is)

-- in states with another part there is none
no_call : (s : State) → (IsPart (either 1 2) s (state 0) → ⊥)
    → framed state block frame (listing 2) ((0, 0) ∷ []) s (block 0) ≡ None
no_call s not_part =
    ap (λ b. cond (b && network_eq (block 0) (block 0)) (Some (one_exit (lift (either 1 2) s (state 1)) 2)) None)
    (by (state_eq (state 0) (within (either 1 2) s)) refl)
  where
    by : (b : Bool) → state_eq (state 0) (within (either 1 2) s) ≡ b → b ≡ false
    by true e = absurd (not_part ((state_eq-decides (state 0) (within (either 1 2) s)).0 e))
    by false e = refl

-- the only call of the task is in state 0
task_call : (cost i : ℕ) (u : Summary ℕ) → listing cost i 0 ≡ Some u → (i ≡ 0) × (one_exit 1 cost ≡ u)
task_call cost zero u h = (refl, same_Some (one_exit 1 cost) u h)
task_call cost (suc i) u h = absurd (none-some u h)

-- and so is that of the action
action_call : (cost i : ℕ) (u : Summary ℕ) → listing cost i 1 ≡ Some u → (i ≡ 0) × (one_exit 1 1 ≡ u)
action_call cost zero u h = (refl, same_Some (one_exit 1 1) u h)
action_call cost (suc i) u h = absurd (none-some u h)

-- the state of a first exit
exit_state : Summary State → State
exit_state u = get_or (map (λ e. e.state) u.exits) 0 (state 0)

-- calls in whole states
pub calls_are_lifted_so : CallsAreLiftedSo
unfolding exit_state
calls_are_lifted_so = record {
  in_part =
      lifted_call (state 0) (sym own_part)
      ∙ ap (λ s. Some (one_exit s 2)) (lift_of (either 1 2) (fact 1 ∷ []) (fact 2 ∷ []));
  in_whole = whole;
  elsewhere = no_call (state 3) (λ is. apart_by 1 (fact 1 ∷ []) (fact 2 ∷ []) refl refl (is ∙ part_after));
  lifted = record {
    part = 0;
    summary = one_exit 1 2;
    is_part = sym part_before;
    listed = refl;
    lifted = ap (λ s. one_exit s 2) (sym lifted_after);
  };
  lost = λ call.
      (let same : one_exit 1 2 ≡ call.summary = (task_call 2 call.part call.summary call.listed).1 in
      let exits : one_exit (state 1) 2 ≡ one_exit (lift (either 1 2) (state 2) (state 1)) 2 =
      call.lifted ∙ sym (ap (lifted_summary state block frame 0 (state 2)) same) in
      apart_by 0 (fact 0 ∷ fact 2 ∷ []) (fact 2 ∷ []) refl refl (sym (ap exit_state exits ∙ lifted_after)));
  bound =
      ap (λ o. max 1 (by_summary o 0 (λ s. cond (is_goal moving s) 0 9))) whole
      ∙ ap (λ b. max 1 (min (2 + cond b 0 9) 9)) (holds_shown (fact 0 ∷ fact 2 ∷ []) moving.goal);
}
  where
    whole : framed state block frame (listing 2) ((0, 0) ∷ []) (state 2) (block 0) ≡ Some (one_exit (state 3) 2)
    whole = lifted_call (state 2) (sym part_before) ∙ ap (λ s. Some (one_exit s 2)) lifted_after

-- ## What is checked of calls

-- what stands in a list of one is that
the_one : {X : Type 0} (y x : X) → Contains (y ∷ []) x → y ≡ x
the_one y x (zero, low, is) = is
the_one y x (suc k, low, is) = absurd (omega arith)

-- a place
at : ℕ → List ℕ → ℕ → Place ℕ ℕ
at i blocks distance = record { state = i; blocks = blocks; distance = distance }

-- the call of the action has one place, after it
action_closed : (cost : ℕ) → IsClosedIn state frame rules (listing cost) length 0 1 (one_exit 1 1)
unfolding at
action_closed cost = record {
  places = at 1 [] 1 ∷ [];
  rules_of = record { state = 1; blocks = [] } ∷ [];
  known = refl;
  met = λ r h.
      (let same = the_one (record { state = 1; blocks = [] }) r h in
      inr (
        at 1 [] 1,
        (0, omega arith, refl),
        ap (λ (x : Rule ℕ ℕ). state x.state) same,
        ap (λ (x : Rule ℕ ℕ). x.blocks) same,
        omega arith,
      ));
  followed = λ p h.
      subst
      (λ (x : Place ℕ ℕ). IsFollowedIn state frame rules (listing cost) length (one_exit 1 1) (at 1 [] 1 ∷ []) 1
      x.state x.blocks x.distance)
      (the_one (at 1 [] 1) p h)
      (inr (record { state = 1; cost = 1 }, (0, omega arith, refl), refl, omega arith));
}

-- the call of the task has two, before the action and after it
task_closed : (cost : ℕ) → cost ≤ 2 → IsClosedIn state frame rules (listing cost) length 0 0 (one_exit 1 cost)
unfolding at
task_closed cost few = record {
  places = places;
  rules_of = record { state = 0; blocks = 1 ∷ [] } ∷ [];
  known = refl;
  met = λ r h.
      (let same = the_one (record { state = 0; blocks = 1 ∷ [] }) r h in
      inr (
        at 0 (1 ∷ []) 1,
        (0, omega arith, refl),
        ap (λ (x : Rule ℕ ℕ). state x.state) same,
        ap (λ (x : Rule ℕ ℕ). x.blocks) same,
        omega arith,
      ));
  followed = followed;
}
  where
    places : List (Place ℕ ℕ)
    places = at 0 (1 ∷ []) 1 ∷ at 1 [] 2 ∷ []

    follows : Place ℕ ℕ → Type 0
    follows x =
        IsFollowedIn state frame rules (listing cost) length (one_exit 1 cost) places 0 x.state x.blocks x.distance

    called : IsCalledIn state frame rules (listing cost) length (one_exit 1 cost) places 0 0 1 [] 1
    called = record {
      part = 0;
      summary = one_exit 1 1;
      is_part = sym own_part;
      listed = refl;
      inside = λ a has. has;
      met = λ e h.
          (let same = the_one (record { state = 1; cost = 1 }) e h in
          inr (
            at 1 [] 2,
            (1, omega arith, refl),
            sym (lift_of (either 1 2) (fact 1 ∷ []) (fact 2 ∷ []))
                ∙ ap (λ (x : Exit ℕ). lift (either 1 2) (state 0) (state x.state)) same,
            refl,
            subst (λ (x : Exit ℕ). 2 ≤ 1 + x.cost) same (omega arith),
          ));
      floor = omega arith;
    }

    followed : (p : Place ℕ ℕ) → Contains places p → follows p
    followed p (zero, low, is) = subst follows is called
    followed p (suc zero, low, is) =
        subst follows is (inr (record { state = 1; cost = cost }, (0, omega arith, refl), refl, omega arith))
    followed p (suc (suc k), low, is) = absurd (omega arith)

-- all calls
all_closed : (cost : ℕ) → cost ≤ 2 → (i j : ℕ) (u : Summary ℕ) → listing cost i j ≡ Some u
    → IsClosedIn state frame rules (listing cost) length i j u
all_closed cost few zero zero u h =
    subst (IsClosedIn state frame rules (listing cost) length 0 0) (same_Some (one_exit 1 cost) u h)
    (task_closed cost few)
all_closed cost few zero (suc zero) u h =
    subst (IsClosedIn state frame rules (listing cost) length 0 1) (same_Some (one_exit 1 1) u h) (action_closed cost)
all_closed cost few zero (suc (suc k)) u h = absurd (none-some u h)
all_closed cost few (suc i) j u h = absurd (none-some u h)

-- where the call of the task is closed, its instance is followed by the call of the action in state 0
module _ (of_task : Frame) (cost : ℕ)
    (closed : IsClosedIn state (frame_by of_task) rules (listing cost) length 0 0 (one_exit 1 cost)) where
  -- places of a call, as it is followed
  abbrev follows : ℕ → List ℕ → ℕ → Type 0
  follows = IsFollowedIn state (frame_by of_task) rules (listing cost) length (one_exit 1 cost) closed.places 0

  abbrev IsCalledAt : ℕ → ℕ → Type 0
  IsCalledAt i distance =
      IsCalledIn state (frame_by of_task) rules (listing cost) length (one_exit 1 cost) closed.places 0 i 1 []
      distance

  action_called : (i : ℕ) × (distance : ℕ) × (distance ≤ 1) × IsCalledAt i distance
  action_called =
      let known : (record { state = 0; blocks = 1 ∷ [] } ∷ []) ≡ closed.rules_of =
      same_Some _ closed.rules_of closed.known in
      let first : Contains closed.rules_of (record { state = 0; blocks = 1 ∷ [] }) =
      subst (λ rs. Contains rs (record { state = 0; blocks = 1 ∷ [] })) known (0, omega arith, refl) in
      by (closed.met (record { state = 0; blocks = 1 ∷ [] }) first)
    where
      by : IsMetIn state (frame_by of_task) rules (listing cost) length (one_exit 1 cost) closed.places (state 0)
          (1 ∷ []) 1
          → (i : ℕ) × (distance : ℕ) × (distance ≤ 1) × IsCalledAt i distance
      by (inl low) = absurd (omega arith)
      by (inr (p, stands, same, blocks, near)) =
          (p.state, p.distance, near, subst (λ b. follows p.state b p.distance) blocks (closed.followed p stands))

-- the task ends in no less than its cost
ends_within : (cost : ℕ) → 3 ≤ cost
    → IsClosedIn state frame rules (listing cost) length 0 0 (one_exit 1 cost) → ⊥
ends_within cost many closed =
    let call = action_called (either 1 2) cost closed in
    let one = action_call cost call.3.part call.3.summary call.3.listed in
    let exit : Contains call.3.summary.exits (record { state = 1; cost = 1 }) =
    subst (λ (u : Summary ℕ). Contains u.exits (record { state = 1; cost = 1 })) one.1 (0, omega arith, refl) in
    by call.1 call.2 (call.3.met (record { state = 1; cost = 1 }) exit)
  where
    covered : (i steps : ℕ) → steps ≤ 2 → Covers (one_exit 1 cost) i steps → ⊥
    covered i steps few (inl floor) = omega arith
    covered i steps few (inr (e, stands, same, low)) =
        let is = the_one (record { state = 1; cost = cost }) e stands in
        let high : 3 ≤ e.cost = subst (λ (x : Exit ℕ). 3 ≤ x.cost) is many in
        omega arith

    by : {s : State} (distance : ℕ) → distance ≤ 1
        → IsMetIn state frame rules (listing cost) length (one_exit 1 cost) closed.places s [] (distance + 1) → ⊥
    by distance near (inl floor) = omega arith
    by distance near (inr (p, stands, same, blocks, low)) =
        covered p.state p.distance (omega arith)
        (subst (λ b. IsFollowedIn state frame rules (listing cost) length (one_exit 1 cost) closed.places 0 p.state b
        p.distance) blocks (closed.followed p stands))

-- which calls are closed
pub calls_close_so : CallsCloseSo
calls_close_so = record {
  closed = all_closed;
  too_dear = λ cost many closed. ends_within cost many (closed 0 0 (one_exit 1 cost) refl);
  too_narrow = λ closed.
      (let call = action_called (only 1) 2 (closed 0 0 (one_exit 1 2) refl) in
      true≢false (sym (call.3.inside (fact 2) refl)));
}

-- ## Values

-- the part of what the task leads to that the goal looks at
goal_part : within (either 0 2) (lift (either 1 2) (state 2) (state 1)) ≡ state 3
goal_part = ap (within (either 0 2)) lifted_after ∙ part_of (either 0 2) (fact 0 ∷ fact 2 ∷ [])

-- the goal holds there
goal_there : is_goal moving (state 3) ≡ true
goal_there = holds_shown (fact 0 ∷ fact 2 ∷ []) moving.goal

-- the value in state 2 follows from the call
from_call : (least : ℕ) → least ≤ 2
    → IsFromCall state frame (either 0 2) (listing 2) length (is_goal moving) 9 (value least) 2 0 [] least
from_call least few = record {
  part = 0;
  summary = one_exit 1 2;
  is_part = sym part_before;
  listed = refl;
  floor = omega arith;
  exits = λ e h.
      (let same = the_one (record { state = 1; cost = 2 }) e h in (
        3,
        subst (λ (x : Exit ℕ). IsPart (either 0 2) (lift (either 1 2) (state 2) (state x.state)) (state 3)) same
            (sym goal_part),
        subst (λ (x : Exit ℕ). least ≤ x.cost + value least [] 3) same (omega arith),
      ));
}

-- nothing is no more than one
small : (v : ℕ) → v ≡ 0 → v ≤ 1
small v is = omega arith

-- values up to two steps
all_valued : (least : ℕ) → least ≤ 2 → (i j : ℕ) (rest : List ℕ)
    → (value least (j ∷ rest) i ≤ length (j ∷ rest))
    ⊎ IsFromCall state frame (either 0 2) (listing 2) length (is_goal moving) 9 (value least) i j rest
    (value least (j ∷ rest) i)
all_valued least few zero zero [] = inl (omega arith)
all_valued least few (suc zero) zero [] = inl (omega arith)
all_valued least few (suc (suc zero)) zero [] = inr (from_call least few)
all_valued least few (suc (suc (suc k))) zero [] = inl (small (value least (0 ∷ []) (suc (suc (suc k)))) refl)
all_valued least few i zero (j ∷ rest) = inl (omega arith)
all_valued least few i (suc k) rest = inl (omega arith)

-- no greater one follows from the call
too_great : (least : ℕ) → 3 ≤ least
    → (least ≤ 1) ⊎ IsFromCall state frame (either 0 2) (listing 2) length (is_goal moving) 9 (value least) 2 0 [] least
    → ⊥
too_great least many (inl small) = omega arith
too_great least many (inr call) =
    let one = task_call 2 call.part call.summary call.listed in
    let exit : Contains call.summary.exits (record { state = 1; cost = 2 }) =
    subst (λ (u : Summary ℕ). Contains u.exits (record { state = 1; cost = 2 })) one.1 (0, omega arith, refl) in
    let onward = call.exits (record { state = 1; cost = 2 }) exit in
    let ended : value least [] onward.0 ≡ 0 =
    ap (λ b. cond b 0 9) (ap (is_goal moving) (onward.1 ∙ goal_part) ∙ goal_there) in
    let low : least ≤ 2 + value least [] onward.0 = onward.2 in
    omega arith

-- which values are supported
pub values_are_so : ValuesAreSo
values_are_so = record {
  valued = λ least few. record { ended = λ i. omega arith; called = all_valued least few };
  too_great = λ least many valued. too_great least many (valued.called 2 0 []);
}
