-- Which children have the same task, and which positions share choices.
use Rattle.std.proofs.Common.{◌≡◌, ℕ, suc, ◌+◌, ◌≤◌, ◌<◌, ◌⊎◌, inl, inr, Bool, true, false, cond, List, length, map, get_or, set, Option, Some, None, slice_get, option_map, sym, refl, ap, ◌∙◌, subst, arith}
use Rattle.std.proofs.lemmas.Bool.{both_ways, cases_eq}
use Rattle.std.proofs.lemmas.Option.{slice_get-map, slice_get_cases, get_or_from_slice_get}
use Rattle.std.proofs.lemmas.List.{get_or_past, get_or-set_other, get_or-set_same, length-set, length-map}
use Rattle.htn_model.specs.Literal.{Literal}
use Rattle.htn_model.specs.Problem as model
use Rattle.htn_model.specs.Problem.{GroundTask, Network, Order, is_before, IsClosed, action, task, precondition, ground_task_eq, IsSquare}
use Rattle.htn_model.specs.Equality.{ground_task_eq-decides}
use Rattle.htn_model.specs.Fits.{PlanTree, action_at, decomposition, child_of, Fits}
use Rattle.htn_ground.specs.Views.{child_view, children_of}
use Rattle.htn_ground.specs.declared.child.Child.{Child}
use Rattle.plan_room.specs.Placing.{AreAhead, IsSequence}
use Rattle.plan_room.specs.Lines.{Lines, AreLines, task_of}
use Rattle.plan_room.specs.Matching.{AreTwins, IsBlockedBy}
use Rattle.plan_room.specs.Seats.{is_step_at, seating_of, suits_at}
use Rattle.plan_room.specs.Links.{IsFirstPlace, AreNext, AreRising, AreFlagged, AreLinked, first_of, place_or, task_at}
use Rattle.plan_room.specs.declared.links.Links.{Links}
use Rattle.plan_room.proofs.Joined.{suited}

-- ## First and next places

module _ (task_of_place : ℕ → GroundTask) (place from n : ℕ) (e : from ≡ suc place) (low : place < n) where
  -- a place whose task isn't this one is another
  at_other : (c : ℕ) → (c ≡ place) ⊎ (c ≡ place → ⊥) → (t : GroundTask) → task_of_place c ≡ t → ground_task_eq (task_of_place place) t ≡ false → c ≡ place → ⊥
  at_other c side t is other same =
      both_ways (ground_task_eq (task_of_place place) t) other ((ground_task_eq-decides (task_of_place place) t).1 (ap task_of_place (sym same) ∙ is))

  -- the first place of another task stays
  kept : (t : GroundTask) (o : Option ℕ) → ground_task_eq (task_of_place place) t ≡ false → IsFirstPlace task_of_place from n t o → IsFirstPlace task_of_place place n t o
  kept t None other none = λ c more less is. let o = at_other c (cases_eq c place) t is other in none c (omega arith) less is
  kept t (Some first) other (after, below, same, least) =
      (omega arith, below, same, λ c more less is. let o = at_other c (cases_eq c place) t is other in least c (omega arith) less is)

  -- the first places, with one place more in front
  pub noted_first : (find found : GroundTask → Option ℕ) → ((t : GroundTask) → IsFirstPlace task_of_place from n t (find t))
      → ((t : GroundTask) → found t ≡ cond (ground_task_eq (task_of_place place) t) (Some place) (find t)) → (t : GroundTask) → IsFirstPlace task_of_place place n t (found t)
  noted_first find found first noted t = subst (IsFirstPlace task_of_place place n t) (sym (noted t)) (by (ground_task_eq (task_of_place place) t) refl)
    where
      by : (b : Bool) → ground_task_eq (task_of_place place) t ≡ b → IsFirstPlace task_of_place place n t (cond b (Some place) (find t))
      by true is = (omega arith, low, (ground_task_eq-decides (task_of_place place) t).0 is, λ c more less same. more)
      by false is = kept t (find t) is (first t)

  module _ (after : List ℕ) (are : AreNext task_of_place from n after) where
    -- a place with no later one of its task
    pub none_next : (o : Option ℕ) → o ≡ None → IsFirstPlace task_of_place from n (task_of_place place) o → AreNext task_of_place place n after
    none_next o is none = record {
      size = are.size;
      more = are.more;
      within = are.within;
      same = are.same;
      next = λ c d more less small same. elim (cases_eq c place) [
        | inl at ↦ absurd (subst (IsFirstPlace task_of_place from n (task_of_place place)) is none d (omega arith) small (sym same ∙ ap task_of_place at))
        | inr other ↦ are.next c d (omega arith) less small same
      ];
    }

    -- a place with a next one of its task
    pub some_next : (o : Option ℕ) (next : ℕ) → o ≡ Some next → IsFirstPlace task_of_place from n (task_of_place place) o → AreNext task_of_place place n (set after place next)
    some_next o next is first =
        let (past, below, alike, least) = subst (IsFirstPlace task_of_place from n (task_of_place place)) is first in
        let here : get_or (set after place next) place 0 ≡ next = get_or-set_same after place next 0 (let s = are.size in omega arith) in
        let there : (c : ℕ) → (c ≡ place → ⊥) → get_or (set after place next) c 0 ≡ get_or after c 0 = λ c other. get_or-set_other after place c next 0 other in
        record {
          size = length-set after place next ∙ are.size;
          more = λ c l. elim (cases_eq c place) [
            | inl at ↦ subst (λ k. k < get_or (set after place next) k 0) (sym at) (omega arith)
            | inr other ↦ (let f = there c other in let m = are.more c l in omega arith)
          ];
          within = λ c l. elim (cases_eq c place) [
            | inl at ↦ subst (λ k. get_or (set after place next) k 0 ≤ n) (sym at) (omega arith)
            | inr other ↦ (let f = there c other in let m = are.within c l in omega arith)
          ];
          same = λ c l inside. elim (cases_eq c place) [
            | inl at ↦ ap task_of_place at ∙ sym alike ∙ ap task_of_place (sym here ∙ ap (λ k. get_or (set after place next) k 0) (sym at))
            | inr other ↦ are.same c l (let f = there c other in omega arith) ∙ ap task_of_place (sym (there c other))
          ];
          next = λ c d more less small same. elim (cases_eq c place) [
            | inl at ↦ (let m = least d (omega arith) small (sym same ∙ ap task_of_place at) in
                let f : get_or (set after place next) c 0 ≡ get_or (set after place next) place 0 = ap (λ k. get_or (set after place next) k 0) at in omega arith)
            | inr other ↦ (let f = there c other in let m = are.next c d (omega arith) less small same in omega arith)
          ];
        }

-- ## Rising lines

module _ (task_of_place : ℕ → GroundTask) (children : List ℕ) (actions : ℕ) (after : List ℕ) (are : AreNext task_of_place 0 (length children) after) (place from : ℕ) (e : from ≡ suc place)
    (low : place < length children) (rising : List Bool) (size : length rising ≡ length children) (rise : AreRising task_of_place children actions from rising) (b : Bool)
    (so : b ≡ true → (get_or children place 0 < actions)
    × ((length children ≤ get_or after place 0) ⊎ ((get_or children place 0 < get_or children (get_or after place 0) 0) × (get_or rising (get_or after place 0) false ≡ true)))) where
  -- the next place of the same task
  abbrev next : ℕ
  next = get_or after place 0

  -- it comes later
  next_more : place < next
  next_more = are.more place low

  -- one of the same task further on is no earlier than the next
  no_earlier : (d : ℕ) → place < d → d < length children → task_of_place place ≡ task_of_place d → next ≤ d
  no_earlier d more small same = are.next place d (omega arith) more small same

  -- where a line and those after it rise, it does before all of them
  onward : (get_or children place 0 < actions) × ((length children ≤ next) ⊎ ((get_or children place 0 < get_or children next 0) × (get_or rising next false ≡ true)))
      → (d : ℕ) → place ≤ d → d < length children → task_of_place place ≡ task_of_place d
      → (get_or children d 0 < actions) × ((x : ℕ) → d < x → x < length children → task_of_place place ≡ task_of_place x → get_or children d 0 < get_or children x 0)
  onward (below, inl past) d more small same = elim (cases_eq d place) [
    | inl at ↦ (
      (let f : get_or children d 0 ≡ get_or children place 0 = ap (λ k. get_or children k 0) at in omega arith),
      (λ x beyond l alike. absurd (let f = no_earlier x (omega arith) l alike in omega arith)),
    )
    | inr other ↦ absurd (let f = no_earlier d (omega arith) small same in omega arith)
  ]
  onward (below, inr (less, flag)) d more small same = elim (cases_eq d place) [
    | inl at ↦ (let f : get_or children d 0 ≡ get_or children place 0 = ap (λ k. get_or children k 0) at in (
      (omega arith),
      (λ x beyond l alike. let there = no_earlier x (omega arith) l alike in elim (cases_eq next x) [
        | inl is ↦ (let g : get_or children next 0 ≡ get_or children x 0 = ap (λ k. get_or children k 0) is in omega arith)
        | inr before ↦ (let link = are.same place low (omega arith) in
            let g = (rise next next (let n = next_more in omega arith) (let n : next ≤ next = omega arith in n) (omega arith) flag refl).1 x (omega arith) l (sym link ∙ alike) in omega arith)
      ]),
    ))
    | inr other ↦ (let there = no_earlier d (omega arith) small same in
        let link = are.same place low (omega arith) in
        let (below_too, all) = rise next d (let n = next_more in omega arith) there small flag (sym link ∙ same) in
        (below_too, (λ x beyond l alike. all x beyond l (sym link ∙ alike))))
  ]

  -- so the flags tell which rise, with one place more in front
  pub rising_on : AreRising task_of_place children actions place (set rising place b)
  rising_on c d more less small flag same = elim (cases_eq c place) [
    | inl at ↦ (let is : b ≡ true = sym (get_or-set_same rising place b false (omega arith)) ∙ subst (λ k. get_or (set rising place b) k false ≡ true) at flag in
        subst (λ k. (get_or children d 0 < actions) × ((x : ℕ) → d < x → x < length children → task_of_place k ≡ task_of_place x → get_or children d 0 < get_or children x 0)) (sym at)
        (onward (so is) d (omega arith) small (ap task_of_place (sym at) ∙ same)))
    | inr other ↦ rise c d (omega arith) less small (sym (get_or-set_other rising place c b false other) ∙ flag) same
  ]

-- ## Twins

module _ (order : Order) (sequence : List ℕ) (first : ℕ → ℕ) (rising : List Bool) where
  -- the number seen is that of the next position with this first place, or past all where there is none
  abbrev pub IsSeen : ℕ → ℕ → ℕ → Type 0
  IsSeen from f v = ((v ≡ length order) × ((j : ℕ) → from ≤ j → j < length sequence → first (get_or sequence j 0) ≡ f → ⊥))
      ⊎ ((i : ℕ) × (from ≤ i) × (i < length sequence) × (get_or sequence i 0 ≡ v) × (first v ≡ f)
      × ((j : ℕ) → from ≤ j → j < length sequence → first (get_or sequence j 0) ≡ f → i ≤ j))

  -- the position's flag is set
  abbrev Flagged : List Bool → ℕ → Type 0
  Flagged fixed a = get_or fixed a false ≡ true

  -- twins, or one after the other, where the lines rise
  abbrev Together : ℕ → ℕ → Type 0
  Together a b = AreTwins order a b ⊎ ((is_before order a b ≡ true) × (get_or rising (first a) false ≡ true))

  -- positions of one task that are together with those between are together
  together_through : IsClosed order → (a b c : ℕ) → first a ≡ first b → Together a b → Together b c → Together a c
  together_through closed a b c same (inl (into, out)) (inl (in_too, out_too)) = inl ((λ x. into x ∙ in_too x), (λ x. out x ∙ out_too x))
  together_through closed a b c same (inl (into, out)) (inr (before, rises)) = inr (out c ∙ before, subst (λ f. get_or rising f false ≡ true) (sym same) rises)
  together_through closed a b c same (inr (before, rises)) (inl (into, out)) = inr (sym (into a) ∙ before, rises)
  together_through closed a b c same (inr (before, rises)) (inr (before_too, rises_too)) = inr (closed.transitive a b c before before_too, rises)

  module _ (is_sequence : IsSequence order sequence) (place from : ℕ) (e : from ≡ suc place) (low : place < length sequence) where
    -- the position at the place
    abbrev here : ℕ
    here = get_or sequence place 0

    -- the flags tell which positions are fixed, with one place more in front
    pub flagged_on : IsClosed order → (fixed : List Bool) → AreFlagged order sequence first rising from (Flagged fixed) → (v : ℕ) → IsSeen from (first here) v → (b : Bool)
        → (b ≡ true → (v ≡ length order) ⊎ (Flagged fixed v × Together here v)) → length fixed ≡ length order → AreFlagged order sequence first rising place (Flagged (set fixed here b))
    flagged_on closed fixed flagged v seen b so size i j more less small flag same = elim (cases_eq i place) [
      | inl at ↦ (let is_here : get_or sequence i 0 ≡ here = ap (λ k. get_or sequence k 0) at in
          let set_here : get_or (set fixed here b) here false ≡ b = get_or-set_same fixed here b false (let f = is_sequence.within place low in omega arith) in
          let is_true : b ≡ true = sym set_here ∙ subst (λ a. get_or (set fixed here b) a false ≡ true) is_here flag in
          let first_same : first (get_or sequence j 0) ≡ first here = sym same ∙ ap first is_here in
          subst (λ a. Together a (get_or sequence j 0)) (sym is_here) (to_later seen (so is_true) first_same (omega arith)))
      | inr other ↦ (let still : get_or (set fixed here b) (get_or sequence i 0) false ≡ get_or fixed (get_or sequence i 0) false =
          get_or-set_other fixed here (get_or sequence i 0) b false (λ f. other (is_sequence.once i place (omega arith) low f)) in
          flagged i j (omega arith) less small (sym still ∙ flag) same)
    ]
      where
        to_later : IsSeen from (first here) v → (v ≡ length order) ⊎ (Flagged fixed v × Together here v) → first (get_or sequence j 0) ≡ first here → from ≤ j
            → Together here (get_or sequence j 0)
        to_later (inl (past, none)) is f l = absurd (none j l small f)
        to_later (inr (k, k_from, k_low, at_k, k_first, least)) (inl past) f l = absurd (let w = is_sequence.within k k_low in omega arith)
        to_later (inr (k, k_from, k_low, at_k, k_first, least)) (inr (flag_there, together)) f l =
            let no_later : k ≤ j = least j l small f in
            elim (cases_eq k j) [
              | inl at_j ↦ subst (Together here) (sym at_k ∙ ap (λ x. get_or sequence x 0) at_j) together
              | inr before ↦ together_through closed here v (get_or sequence j 0) (sym k_first) together
                  (subst (λ a. Together a (get_or sequence j 0)) at_k
                  (flagged k j k_from (omega arith) small (subst (λ a. Flagged fixed a) (sym at_k) flag_there) (ap first at_k ∙ k_first ∙ sym f)))
            ]

    -- the last positions that were seen, with one place more in front
    pub seen_on : (seen : List ℕ) (n : ℕ) → n < length seen → first here ≤ n → ((f : ℕ) → f ≤ n → IsSeen from f (get_or seen f 0))
        → (f : ℕ) → f ≤ n → IsSeen place f (get_or (set seen (first here) here) f 0)
    seen_on seen n wide within all f small = elim (cases_eq f (first here)) [
      | inl at ↦ inr (
        place,
        (let l : place ≤ place = omega arith in l),
        low,
        sym (ap (λ k. get_or (set seen (first here) here) k 0) at ∙ get_or-set_same seen (first here) here 0 (omega arith)),
        ap first (ap (λ k. get_or (set seen (first here) here) k 0) at ∙ get_or-set_same seen (first here) here 0 (omega arith)) ∙ sym at,
        λ j more l is. more,
      )
      | inr other ↦ subst (IsSeen place f) (sym (get_or-set_other seen (first here) f here 0 other)) (widen (get_or seen f 0) (all f small) other)
    ]
      where
        widen : (v : ℕ) → IsSeen from f v → (f ≡ first here → ⊥) → IsSeen place f v
        widen v (inl (past, none)) apart = inl (
          past,
          λ j more l is. elim (cases_eq j place) [
            | inl at ↦ apart (sym is ∙ ap (λ k. first (get_or sequence k 0)) at)
            | inr later ↦ none j (omega arith) l is
          ],
        )
        widen v (inr (k, k_from, k_low, at_k, k_first, least)) apart = inr (
          k,
          (omega arith),
          k_low,
          at_k,
          k_first,
          λ j more l is. elim (cases_eq j place) [
            | inl at ↦ absurd (apart (sym is ∙ ap (λ x. first (get_or sequence x 0)) at))
            | inr later ↦ least j (omega arith) l is
          ],
        )

-- ## The choices of a network

-- the task of a node, or another for a step
task_of_child : model.Child → GroundTask → GroundTask
task_of_child (precondition literals) t = t
task_of_child (action g) t = g
task_of_child (task g) t = g

-- that of a plan tree's node is its own
child_task : (p : PlanTree) (t : GroundTask) → task_of_child (child_of p) t ≡ task_of p
unfolding task_of_child
child_task (action_at g i) t = refl
child_task (decomposition g method plans) t = refl

-- plan trees with one node have one task
same_task : (p q : PlanTree) → child_of p ≡ child_of q → task_of p ≡ task_of q
same_task p q e = sym (child_task p (task_of p)) ∙ ap (λ x. task_of_child x (task_of p)) e ∙ child_task q (task_of p)

-- the first place of a plan tree's node is that of its task
first_of_plan : (find : GroundTask → Option ℕ) (n : ℕ) (p : PlanTree) → first_of find n (child_of p) ≡ place_or (find (task_of p)) n
first_of_plan find n (action_at g i) = refl
first_of_plan find n (decomposition g method plans) = refl

-- a plan tree's node is no step
plan_no_step : (p : PlanTree) → is_step_at (Some (child_of p)) ≡ false
plan_no_step (action_at g i) = refl
plan_no_step (decomposition g method plans) = refl

-- no place of the task comes before its first
place_least : (task_of_place : ℕ → GroundTask) (n : ℕ) (t : GroundTask) (o : Option ℕ) → IsFirstPlace task_of_place 0 n t o → (c : ℕ) → c < n → task_of_place c ≡ t → place_or o n ≤ c
place_least task_of_place n t None none c low is = absurd (none c (omega arith) low is)
place_least task_of_place n t (Some first) (from, below, alike, least) c low is = least c (omega arith) low is

module _ (l : Lines) (children : List ℕ) (network : Network) (sequence : List ℕ) (gap : ℕ) (find : GroundTask → Option ℕ) (nodes : List Child)
    (nodes_are : children_of nodes ≡ network.children) (square : IsSquare (length network.children) network.order) (is_sequence : IsSequence network.order sequence)
    (firsts : (t : GroundTask) → IsFirstPlace (task_at l children) 0 (length children) t (find t)) where
  -- how many children there are
  abbrev k : ℕ
  k = length children

  -- the first place for each position
  abbrev first_list : List ℕ
  first_list = map (λ c. first_of find k (child_view c)) nodes

  -- that of a position is that of its node
  first_at : (a : ℕ) (x : model.Child) → slice_get network.children a ≡ Some x → get_or first_list a 0 ≡ first_of find k x
  first_at a x is = get_or_from_slice_get first_list a (first_of find k x) 0 (slice_get-map (λ c. first_of find k (child_view c)) nodes a ∙ by (slice_get nodes a) seen)
    where
      seen : option_map child_view (slice_get nodes a) ≡ Some x
      seen = sym (slice_get-map child_view nodes a) ∙ ap (λ xs. slice_get xs a) nodes_are ∙ is

      by : (o : Option Child) → option_map child_view o ≡ Some x → option_map (λ c. first_of find k (child_view c)) o ≡ Some (first_of find k x)
      by None e = absurd cc
      by (Some c) e = let f : child_view c ≡ x = cc in ap (λ y. Some (first_of find k y)) f

  -- the choice is a child that stands at the position
  abbrev ChildAt : ℕ → ℕ → Type 0
  ChildAt a c = (c < k) × (slice_get network.children a ≡ Some (child_of (l.plan_of (get_or children c 0))))

  -- the choice is the step of the position
  abbrev StepAt : ℕ → ℕ → Type 0
  StepAt a c = (c ≡ k + a) × ((literals : List Literal) × (slice_get network.children a ≡ Some (precondition literals)))

  -- at a child
  child_first : (a c : ℕ) → slice_get network.children a ≡ Some (child_of (l.plan_of (get_or children c 0))) → get_or first_list a 0 ≡ place_or (find (task_at l children c)) k
  child_first a c is = first_at a (child_of (l.plan_of (get_or children c 0))) is ∙ first_of_plan find k (l.plan_of (get_or children c 0))

  -- a task's first place is within the children or just past them
  place_low : (t : GroundTask) (o : Option ℕ) → IsFirstPlace (task_at l children) 0 k t o → place_or o k ≤ k
  place_low t None none = (let e : k ≤ k = omega arith in e)
  place_low t (Some first) (from, below, alike, least) = omega arith

  -- and so is a node's
  child_low : (x : model.Child) → first_of find k x ≤ k
  child_low (precondition literals) = (let e : k ≤ k = omega arith in e)
  child_low (action t) = place_low t (find t) (firsts t)
  child_low (task t) = place_low t (find t) (firsts t)

  -- and a position's
  pub first_low : (a : ℕ) → get_or first_list a 0 ≤ k
  first_low a = by (slice_get_cases network.children a).1
    where
      by : ((c : model.Child) × (a < length network.children) × (slice_get network.children a ≡ Some c) × (get_or network.children a c ≡ c))
          ⊎ ((length network.children ≤ a) × (slice_get network.children a ≡ None)) → get_or first_list a 0 ≤ k
      by (inl (x, low, is, read)) = let e = first_at a x is in let f = child_low x in omega arith
      by (inr (past, none)) =
          let e = get_or_past first_list a 0 (let f = length-map nodes (λ c. first_of find k (child_view c)) in let g = length-map nodes child_view in let h = ap length nodes_are in omega arith) in omega arith

  -- an earlier line of an action can't stand behind a later one
  blocked : AreLines l → (c d : ℕ) → c < d → d < k → get_or children c 0 < l.actions → get_or children d 0 < l.actions → get_or children c 0 < get_or children d 0
      → IsBlockedBy (seating_of l children network sequence gap) c d
  blocked are c d less low action_c action_d later x y z u room_d room_c meets =
      let (from_d, to_d) = subst (λ p. Fits l.naming l.problem l.states p x y) (are.action_lines (get_or children d 0) action_d) (room_d.0 low) in
      let (from_c, to_c) = subst (λ p. Fits l.naming l.problem l.states p z u) (are.action_lines (get_or children c 0) action_c) (room_c.0 (omega arith)) in
      omega arith

  -- a task that has a child has its first place, with that task
  place_is : (t : GroundTask) (o : Option ℕ) → IsFirstPlace (task_at l children) 0 k t o → (c : ℕ) → c < k → task_at l children c ≡ t → task_at l children (place_or o k) ≡ t
  place_is t None none c low is = absurd (none c (omega arith) low is)
  place_is t (Some first) (from, below, alike, least) c low is = alike

  -- so the links tell which positions share choices, and which of these are fixed
  pub linked : AreLines l → (links : Links) (rising : List Bool) → links.first.items ≡ first_list → AreNext (task_at l children) 0 k links.after.items
      → AreRising (task_at l children) children l.actions 0 rising
      → AreFlagged network.order sequence (λ a. get_or links.first.items a 0) rising 0 (λ a. get_or links.fixed.items a false ≡ true)
      → AreAhead network.order sequence links.ahead.items → AreLinked (seating_of l children network sequence gap) k links
  linked are links rising first_is next rise flagged ahead = record {
    firsts = ap length first_is ∙ length-map nodes (λ c. first_of find k (child_view c)) ∙ sym (length-map nodes child_view) ∙ ap length nodes_are ∙ sym square.0;
    first = λ a c low is. elim (suited l children network sequence gap a c is) [
      | inl child ↦ (let e = child_first a c child.1 in let f : get_or links.first.items a 0 ≡ get_or first_list a 0 = ap (λ xs. get_or xs a 0) first_is in
          let g = place_least (task_at l children) k (task_at l children c) (find (task_at l children c)) (firsts (task_at l children c)) c low refl in omega arith)
      | inr step ↦ absurd (let e = step.0 in omega arith)
    ];
    size = next.size;
    more = next.more;
    within = next.within;
    next = λ a c d less low ac ad. by_two a c d less low (suited l children network sequence gap a c ac) (suited l children network sequence gap a d ad);
    fixed = λ a flag i j c less small at ac jc.
        let same : get_or links.first.items a 0 ≡ get_or links.first.items (get_or sequence j 0) 0 =
        same_first a (get_or sequence j 0) c (suited l children network sequence gap a c ac) (suited l children network sequence gap (get_or sequence j 0) c jc)
        (λ e. let f = is_sequence.once i j (omega arith) small (at ∙ e) in omega arith) in
        elim (flagged i j (omega arith) less small (subst (λ p. get_or links.fixed.items p false ≡ true) (sym at) flag) (ap (λ p. get_or links.first.items p 0) at ∙ same)) [
          | inl twins ↦ inl (subst (λ p. AreTwins network.order p (get_or sequence j 0)) at twins)
          | inr (before, rises) ↦ inr (
            subst (λ p. is_before network.order p (get_or sequence j 0) ≡ true) at before,
            (λ d more ad. later_blocks a c d more (subst (λ p. get_or rising (get_or links.first.items p 0) false ≡ true) at rises)
                (suited l children network sequence gap a c ac) (suited l children network sequence gap a d ad)
                (λ e. let f = is_sequence.once i j (omega arith) small (at ∙ own_step a (get_or sequence j 0) c e (suited l children network sequence gap (get_or sequence j 0) c jc)) in omega arith)),
          )
        ];
    ahead = ahead;
  }
    where
      -- a step has no other position
      own_step : (a b c : ℕ) → StepAt a c → ChildAt b c ⊎ StepAt b c → a ≡ b
      own_step a b c x (inl y) = absurd (let e = x.0 in let f = y.0 in omega arith)
      own_step a b c x (inr y) = (let e = x.0 in let f = y.0 in omega arith)

      later_blocks : (a c d : ℕ) → c < d → get_or rising (get_or links.first.items a 0) false ≡ true → ChildAt a c ⊎ StepAt a c → ChildAt a d ⊎ StepAt a d → (StepAt a c → ⊥)
          → IsBlockedBy (seating_of l children network sequence gap) c d
      later_blocks a c d less rises (inr x) y no_step = absurd (no_step x)
      later_blocks a c d less rises (inl x) (inr (e, (literals, stands))) no_step =
          let same : child_of (l.plan_of (get_or children c 0)) ≡ precondition literals = (let f = x.1 in cc) in
          absurd (both_ways (is_step_at (Some (child_of (l.plan_of (get_or children c 0))))) (plan_no_step (l.plan_of (get_or children c 0))) (ap (λ y. is_step_at (Some y)) same))
      later_blocks a c d less rises (inl x) (inl y) no_step =
          let t = task_at l children c in
          let same : t ≡ task_at l children d =
          same_task (l.plan_of (get_or children c 0)) (l.plan_of (get_or children d 0)) (let e = x.1 in let f = y.1 in cc) in
          let first = place_or (find t) k in
          let at_first : get_or links.first.items a 0 ≡ first = ap (λ xs. get_or xs a 0) first_is ∙ child_first a c x.1 in
          let alike : task_at l children first ≡ t = place_is t (find t) (firsts t) c x.0 refl in
          let no_later : first ≤ c = place_least (task_at l children) k t (find t) (firsts t) c x.0 refl in
          let flag : get_or rising first false ≡ true = subst (λ p. get_or rising p false ≡ true) at_first rises in
          let (action_c, beyond) = rise first c (omega arith) no_later x.0 flag alike in
          let (action_d, more) = rise first d (omega arith) (omega arith) y.0 flag (alike ∙ same) in
          blocked are c d less y.0 action_c action_d (beyond d less y.0 (alike ∙ same))

      by_two : (a c d : ℕ) → c < d → d < k → ChildAt a c ⊎ StepAt a c → ChildAt a d ⊎ StepAt a d → get_or links.after.items c 0 ≤ d
      by_two a c d less low (inl x) (inl y) =
          let same : child_of (l.plan_of (get_or children c 0)) ≡ child_of (l.plan_of (get_or children d 0)) = (let e = x.1 in let f = y.1 in cc) in
          next.next c d (omega arith) less low (same_task (l.plan_of (get_or children c 0)) (l.plan_of (get_or children d 0)) same)
      by_two a c d less low (inl x) (inr y) = absurd (let e = y.0 in omega arith)
      by_two a c d less low (inr x) y = absurd (let e = x.0 in omega arith)

      same_first : (a b c : ℕ) → ChildAt a c ⊎ StepAt a c → ChildAt b c ⊎ StepAt b c → (a ≡ b → ⊥) → get_or links.first.items a 0 ≡ get_or links.first.items b 0
      same_first a b c (inl x) (inl y) apart = ap (λ xs. get_or xs a 0) first_is ∙ child_first a c x.1 ∙ sym (child_first b c y.1) ∙ ap (λ xs. get_or xs b 0) (sym first_is)
      same_first a b c (inl x) (inr y) apart = absurd (let e = x.0 in let f = y.0 in omega arith)
      same_first a b c (inr x) (inl y) apart = absurd (let e = x.0 in let f = y.0 in omega arith)
      same_first a b c (inr x) (inr y) apart = absurd (apart (let e = x.0 in let f = y.0 in omega arith))

-- ## Which choices a position has

module _ (l : Lines) (children : List ℕ) (network : Network) (sequence : List ℕ) (gap : ℕ) (a d : ℕ) (x : model.Child) (at : slice_get network.children a ≡ Some x)
    (suits : suits_at l children network a d ≡ true) where
  -- the choice of a step is its own
  pub step_choice : is_step_at (Some x) ≡ true → d ≡ length children + a
  step_choice is = elim (suited l children network sequence gap a d suits) [
    | inl child ↦ (let same : x ≡ child_of (l.plan_of (get_or children d 0)) = (let e = child.1 in cc) in
        absurd (both_ways (is_step_at (Some x)) (ap (λ y. is_step_at (Some y)) same ∙ plan_no_step (l.plan_of (get_or children d 0))) is))
    | inr step ↦ step.0
  ]

  -- the choice of a subtask is a child
  pub child_choice : is_step_at (Some x) ≡ false → d < length children
  child_choice is = elim (suited l children network sequence gap a d suits) [
    | inl child ↦ child.0
    | inr step ↦ (let (literals, there) = step.1 in let same : x ≡ precondition literals = cc in
        absurd (both_ways (is_step_at (Some x)) is (ap (λ y. is_step_at (Some y)) same)))
  ]
