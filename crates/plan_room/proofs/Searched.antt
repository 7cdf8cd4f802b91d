-- Steps of the search among the matchings.
use Rattle.std.proofs.Common.{◌≡◌, ℕ, suc, ◌+◌, ◌≤◌, ◌<◌, ◌⊎◌, inl, inr, Bool, true, false, List, length, get_or, set, Option, Some, None, sym, refl, ap, ◌∙◌, subst, arith}
use Rattle.std.proofs.lemmas.Bool.{both_ways, cases_lt, cases_eq}
use Rattle.std.proofs.lemmas.List.{get_or_past, get_or-set_other, get_or-set_same, length-set}
use Rattle.htn_model.specs.Problem.{is_before}
use Rattle.plan_room.specs.Placing.{Room, IsFirst, IsSequence, IsStart, IsGreatest, ArePlaced}
use Rattle.plan_room.specs.Matching.{Seating, IsSeating, IsSeated, HasRoomWith, HasMatchedRoom, AgreeBelow, AreTwins, IsFixed, IsNextChoice, IsToCome, IsBeaten, IsFound, IsSearched, IsTop}
use Rattle.plan_room.proofs.Placed.{never, one_more, all_placed, no_earlier, kept}
use Rattle.plan_room.proofs.Twins.{changed, changed_seated, changed_room, changed_first, changed_other}

-- a later gap is beaten too
pub beaten_later : (b : Option ℕ) {x h : ℕ} → IsBeaten b x → x ≤ h → IsBeaten b h
beaten_later None none least = none
beaten_later (Some k) late least = omega arith

module _ (w : Seating) (is_seating : IsSeating w) (chosen finishes : List ℕ) (depth next : ℕ) (best : Option ℕ)
    (searched : IsSearched w chosen finishes depth next best) where
  -- what was searched so far
  abbrev Searched : List ℕ → List ℕ → ℕ → ℕ → Option ℕ → Type 0
  Searched = IsSearched w

  -- which choices suit which positions
  abbrev suits : ℕ → ℕ → Bool
  suits = w.suits

  -- when a choice has room
  abbrev room : Room
  room = w.room

  -- the positions in the sequence that is searched
  abbrev sequence : List ℕ
  sequence = w.sequence

  -- the sequence keeps the order
  is_sequence : IsSequence w.order w.sequence
  is_sequence = is_seating.sequence

  -- what has room from a gap on has it from an earlier one on
  sooner : (c x y x' : ℕ) → x' ≤ x → w.room c x y → w.room c x' y
  sooner = is_seating.sooner

  -- the position that is next
  abbrev here : ℕ
  here = get_or sequence depth 0

  -- the matchings with the next choice here, behind the chosen ones, are dismissed
  abbrev pub Dismissed : Type 0
  Dismissed = (m : ℕ → ℕ) → IsSeated w m → (h : ℕ) → h ≤ w.last → HasRoomWith w m h
      → AgreeBelow sequence chosen depth m → m here ≡ next → IsBeaten best h

  -- the matchings with a choice from the next one on and before another, behind the chosen ones, are dismissed
  abbrev pub DismissedTo : ℕ → Type 0
  DismissedTo end = (m : ℕ → ℕ) → IsSeated w m → (h : ℕ) → h ≤ w.last → HasRoomWith w m h
      → AgreeBelow sequence chosen depth m → next ≤ m here → m here < end → IsBeaten best h

  -- a matching that is to come has the next choice or one up to the end, or a later one
  passed_over : (end : ℕ) (m : ℕ → ℕ) → IsToCome sequence chosen depth next m
      → ((AgreeBelow sequence chosen depth m) × (next ≤ m here) × (m here < end)) ⊎ IsToCome sequence chosen depth end m
  passed_over end m come = by (cases_eq come.place depth)
    where
      at_depth : (come.place ≡ depth) → (m here < end) ⊎ (end ≤ m here) → ((AgreeBelow sequence chosen depth m) × (next ≤ m here) × (m here < end)) ⊎ IsToCome sequence chosen depth end m
      at_depth e (inl less) = inl ((λ i low. come.same i (omega arith)), subst (λ j. next ≤ m (get_or sequence j 0)) e (come.here e), less)
      at_depth e (inr more) = inr (record {
        place = come.place;
        low = come.low;
        same = come.same;
        later = come.later;
        here = λ f. subst (λ j. end ≤ m (get_or sequence j 0)) (sym e) more;
      })

      by : (come.place ≡ depth) ⊎ (come.place ≡ depth → ⊥) → ((AgreeBelow sequence chosen depth m) × (next ≤ m here) × (m here < end)) ⊎ IsToCome sequence chosen depth end m
      by (inl e) = at_depth e (cases_lt (m here) end)
      by (inr other) = inr (record { place = come.place; low = come.low; same = come.same; later = come.later; here = λ f. absurd (other f) })

  -- the next choices are passed over
  pub skipped : (end : ℕ) → end ≤ w.count → DismissedTo end → Searched chosen finishes depth end best
  skipped end low dismissed = record {
    size = searched.size;
    within = searched.within;
    small = low;
    low = searched.low;
    suited = searched.suited;
    apart = searched.apart;
    placed = searched.placed;
    found = searched.found;
    tried = λ m assigned h small have. elim (searched.tried m assigned h small have) [
      | inl beaten ↦ inl beaten
      | inr come ↦ elim (passed_over end m come) [ inl at ↦ inl (dismissed m assigned h small have at.0 at.1 at.2) | inr more ↦ inr more ]
    ];
  }

  -- a choice that is dismissed may be skipped
  pub skipped_one : next < w.count → Dismissed → Searched chosen finishes depth (next + 1) best
  skipped_one less dismissed = skipped (next + 1) (omega arith) (λ m assigned h low have agree from to. dismissed m assigned h low have agree (omega arith))

  -- none of them suits
  pub none_between : depth < length sequence → (end : ℕ) → end ≤ w.count → ((c : ℕ) → next ≤ c → c < end → suits here c ≡ true → ⊥) → Searched chosen finishes depth end best
  none_between inside end small none = skipped end small (λ m assigned h l have agree from to.
      absurd (none (m here) from to (assigned.suited here (is_sequence.within depth inside))))

  -- a choice that was taken, and those that come before the next one like it
  pub taken_to : (i : ℕ) → i < depth → depth < length sequence → get_or chosen i 0 ≡ next → (end : ℕ) → end ≤ w.count
      → ((c : ℕ) → next < c → c < end → suits here c ≡ true → ⊥) → Searched chosen finishes depth end best
  taken_to i before low same end small none = skipped end small (λ m assigned h l have agree from to. elim (cases_eq (m here) next) [
    | inl is ↦ (let alike : m (get_or sequence i 0) ≡ m here = agree i before ∙ same ∙ sym is in
        let place : i ≡ depth = is_sequence.once i depth (omega arith) low (assigned.apart (get_or sequence i 0) here (is_sequence.within i (omega arith)) (is_sequence.within depth low) alike) in
        absurd (omega arith))
    | inr other ↦ absurd (none (m here) (omega arith) to (assigned.suited here (is_sequence.within depth low)))
  ])

  -- where the position is fixed, the first choice that is free stands for all
  module _ (inside : depth < length sequence) (choice : ℕ) (before_next : choice < next) (less : choice < w.count) (suitable : suits here choice ≡ true)
      (free : (i : ℕ) → i < depth → get_or chosen i 0 ≡ choice → ⊥) where
    module _ (m : ℕ → ℕ) (assigned : IsSeated w m) (h : ℕ) (low : h ≤ w.last) (have : HasRoomWith w m h) (agree : AgreeBelow sequence chosen depth m) (other : m here ≡ choice → ⊥)
        (b : ℕ) (b_low : b < length w.order) (takes : m b ≡ choice) (j : ℕ) (j_low : j < length sequence) (at_j : get_or sequence j 0 ≡ b) (twins : AreTwins w.order here b) where
      here_low : here < length w.order
      here_low = is_sequence.within depth inside

      abbrev so : ℕ → ℕ
      so = changed w is_seating here b twins here_low b_low m assigned choice suitable takes

      still : AgreeBelow sequence chosen depth so
      still i l = changed_other w is_seating here b twins here_low b_low m assigned choice suitable takes (get_or sequence i 0)
          (λ e. let f = is_sequence.once i depth (omega arith) inside e in absurd (omega arith))
          (λ e. free i l (sym (agree i l) ∙ ap m e ∙ takes)) ∙ agree i l

      first : so here ≡ choice
      first = changed_first w is_seating here b twins here_low b_low m assigned choice suitable takes

      changed_beaten : IsBeaten best h
      changed_beaten = elim (searched.tried so (changed_seated w is_seating here b twins here_low b_low m assigned choice suitable takes) h low
          (changed_room w is_seating here b twins here_low b_low m assigned choice suitable takes h have)) [
            | inl beaten ↦ beaten
            | inr come ↦ by come (cases_eq come.place depth)
          ]
        where
          by : (come : IsToCome sequence chosen depth next so) → (come.place ≡ depth) ⊎ (come.place ≡ depth → ⊥) → IsBeaten best h
          by come (inl e) = absurd (let f = come.here e in let g : so (get_or sequence come.place 0) ≡ so here = ap (λ k. so (get_or sequence k 0)) e in let k = first in omega arith)
          by come (inr o) = absurd (let l = come.low in let f = come.later (omega arith) in let g = still come.place (omega arith) in omega arith)

    -- at a fixed position a later choice finishes no earlier than the best
    pub fixed_beaten : IsFixed w here → (m : ℕ → ℕ) → IsSeated w m → (h : ℕ) → h ≤ w.last → HasRoomWith w m h → AgreeBelow sequence chosen depth m
        → choice < m here → IsBeaten best h
    fixed_beaten fixed m assigned h low have agree beyond =
        let other : m here ≡ choice → ⊥ = λ same. omega arith in
        let (b, b_low, takes) = is_seating.used m assigned here choice (is_sequence.within depth inside) less suitable in
        let (j, j_low, at_j) = is_sequence.listed b b_low in
        let later : depth < j = elim (cases_lt depth j) [
          | inl l ↦ l
          | inr l ↦ elim (cases_eq j depth) [
            | inl e ↦ absurd (other (ap (λ k. m (get_or sequence k 0)) (sym e) ∙ ap m at_j ∙ takes))
            | inr o ↦ absurd (free j (omega arith) (sym (agree j (omega arith)) ∙ ap m at_j ∙ takes))
          ]
        ] in
        let shared : suits (get_or sequence j 0) choice ≡ true = subst (λ x. suits x choice ≡ true) (sym at_j) (subst (λ c. suits b c ≡ true) takes (assigned.suited b b_low)) in
        elim (fixed depth j choice later j_low refl suitable shared) [
          | inl twins ↦ changed_beaten m assigned h low have agree other b b_low takes j j_low at_j (subst (AreTwins w.order here) at_j twins)
          | inr (before, blocked) ↦ (let (start, finish, spans) = have in
              absurd (blocked (m here) beyond (assigned.suited here (is_sequence.within depth inside)) (start here) (finish here) (start b) (finish b)
              (spans.rooms here (is_sequence.within depth inside)) (subst (λ c. room c (start b) (finish b)) takes (spans.rooms b b_low))
              (spans.spans.ordered here b (subst (λ x. is_before w.order here x ≡ true) at_j before))))
        ]

    -- on to the next choice
    pub passed : (end : ℕ) → next ≡ suc choice → IsNextChoice w here choice end → Searched chosen finishes depth end best
    passed end e is_next = skipped end is_next.within (λ m assigned h l have agree from to.
        fixed_beaten (is_next.between (m here) (omega arith) to (assigned.suited here (is_sequence.within depth inside))) m assigned h l have agree (omega arith))

  -- choices out of the range of those that suit
  pub out_of_range : depth < length sequence → (low : ℕ) → low ≤ w.count → ((c : ℕ) → suits here c ≡ true → low ≤ c) → Searched chosen finishes depth low best
  out_of_range inside low small all = skipped low small (λ m assigned h l have agree from to.
      let a = all (m here) (assigned.suited here (is_sequence.within depth inside)) in absurd (omega arith))

  -- a choice that doesn't suit, or that was taken
  pub unsuited : depth < length sequence → suits here next ≡ false → Dismissed
  unsuited low not_suited m assigned h small have agree is =
      absurd (both_ways (suits here next) not_suited (subst (λ c. suits here c ≡ true) is (assigned.suited here (is_sequence.within depth low))))

  -- a choice that is taken is dismissed
  pub taken : (i : ℕ) → i < depth → depth < length sequence → get_or chosen i 0 ≡ next → Dismissed
  taken i before low same m assigned h small have agree is =
      let alike : m (get_or sequence i 0) ≡ m here = agree i before ∙ same ∙ sym is in
      let place : i ≡ depth = is_sequence.once i depth (omega arith) low (assigned.apart (get_or sequence i 0) here (is_sequence.within i (omega arith)) (is_sequence.within depth low) alike) in
      absurd (omega arith)

  -- one that has no room here, or finishes too late
  pub no_room : depth < length sequence → (start : ℕ) → IsStart w.order finishes w.gap here start → ((k : ℕ) → k ≤ w.last → room next start k → ⊥) → Dismissed
  no_room low start is_start none m assigned h small have agree is =
      let placing = searched.placed depth (let e : depth ≤ depth = omega arith in e) m agree in
      absurd (never (λ a. room (m a)) w.order w.sequence w.last w.gap finishes depth (λ a. sooner (m a)) is_sequence placing low start is_start
      (subst (λ c. (k : ℕ) → k ≤ w.last → room c start k → ⊥) (sym is) none) h small have)

  -- and so is one that finishes no earlier than the best
  pub too_late : depth < length sequence → (start finish : ℕ) → IsStart w.order finishes w.gap here start → IsFirst (room next start) w.last finish → IsBeaten best finish → Dismissed
  too_late low start finish is_start first late m assigned h small have agree is =
      let placing = searched.placed depth (let e : depth ≤ depth = omega arith in e) m agree in
      let least = no_earlier (λ a. room (m a)) w.order w.sequence w.last w.gap finishes depth (λ a. sooner (m a)) is_sequence placing low start is_start
      finish (subst (λ c. IsFirst (room c start) w.last finish) (sym is) first) h have in
      beaten_later best late least

  -- as many finishes as positions
  pub size_is : length finishes ≡ length w.order
  size_is = (searched.placed 0 (omega arith) (λ a. 0) (λ i l. absurd (omega arith))).size

  -- the gap by which the first places have finished is no later than any end
  pub top_least : (top : ℕ) → IsTop sequence finishes w.gap depth top → (m : ℕ → ℕ) → AgreeBelow sequence chosen depth m → (h : ℕ) → HasRoomWith w m h → top ≤ h
  top_least top is_top m agree h (start, finish, have) =
      is_top.soonest h (let from = have.spans.from 0 in let on = have.spans.forward 0 in let to = have.spans.to 0 in omega arith)
      (λ j low. let placing = searched.placed depth (let e : depth ≤ depth = omega arith in e) m agree in
      let least = (placing.each j low).least h start finish have in let to = have.spans.to (get_or sequence j 0) in omega arith)

  -- where the first positions finish no earlier than the best, all that follows is dismissed
  pub top_dismissed : (top : ℕ) → IsTop sequence finishes w.gap depth top → IsBeaten best top
      → (m : ℕ → ℕ) → (h : ℕ) → HasRoomWith w m h → AgreeBelow sequence chosen depth m → IsBeaten best h
  top_dismissed top is_top beaten m h have agree = beaten_later best beaten (top_least top is_top m agree h have)

  -- nothing is before the first choice
  pub over : depth ≡ 0 → ((m : ℕ → ℕ) → IsSeated w m → (h : ℕ) → h ≤ w.last → HasRoomWith w m h
      → AgreeBelow sequence chosen depth m → next ≤ m here → IsBeaten best h)
      → (m : ℕ → ℕ) → IsSeated w m → (h : ℕ) → h ≤ w.last → HasRoomWith w m h → IsBeaten best h
  over e dismissed m assigned h low have = elim (searched.tried m assigned h low have) [
    | inl beaten ↦ beaten
    | inr come ↦ (let f : come.place ≡ depth = (let l = come.low in omega arith) in
        dismissed m assigned h low have (λ i l. absurd (omega arith)) (subst (λ j. next ≤ m (get_or sequence j 0)) f (come.here f)))
  ]

  -- back to the choice before
  module _ (before : ℕ) (deep : depth ≡ suc before)
      (dismissed : (m : ℕ → ℕ) → IsSeated w m → (h : ℕ) → h ≤ w.last → HasRoomWith w m h
      → AgreeBelow sequence chosen depth m → next ≤ m here → IsBeaten best h) where
    -- a position was given up, and the search stands at the next choice of the one before
    pub gone_back : Searched chosen finishes before (suc (get_or chosen before 0)) best
    gone_back = record {
      size = searched.size;
      within = (let w = searched.within in omega arith);
      small = (let l = searched.low before (omega arith) in omega arith);
      low = λ i l. searched.low i (omega arith);
      suited = λ i l. searched.suited i (omega arith);
      apart = λ i j l k. searched.apart i j (omega arith) (omega arith);
      placed = λ i l. searched.placed i (omega arith);
      found = searched.found;
      tried = λ m assigned h low have. elim (searched.tried m assigned h low have) [
        | inl beaten ↦ inl beaten
        | inr come ↦ by m assigned h low have come (cases_eq come.place depth)
      ];
    }
      where
        by : (m : ℕ → ℕ) → IsSeated w m → (h : ℕ) → h ≤ w.last → HasRoomWith w m h
            → (come : IsToCome sequence chosen depth next m) → (come.place ≡ depth) ⊎ (come.place ≡ depth → ⊥)
            → IsBeaten best h ⊎ IsToCome sequence chosen before (suc (get_or chosen before 0)) m
        by m assigned h low have come (inl e) =
            inl (dismissed m assigned h low have (λ i l. come.same i (omega arith)) (subst (λ j. next ≤ m (get_or sequence j 0)) e (come.here e)))
        by m assigned h low have come (inr other) = inr (record {
          place = come.place;
          low = (let l = come.low in omega arith);
          same = come.same;
          later = λ l. come.later (omega arith);
          here = λ e. (let l = come.later (omega arith) in let moved : get_or chosen come.place 0 ≡ get_or chosen before 0 = ap (λ j. get_or chosen j 0) e in omega arith);
        })

  -- the next choice is taken
  module _ (low : depth < length sequence) (less : next < w.count) (suitable : suits here next ≡ true) (free : (i : ℕ) → i < depth → get_or chosen i 0 ≡ next → ⊥)
      (start finish : ℕ) (is_start : IsStart w.order finishes w.gap here start) (first : IsFirst (room next start) w.last finish) where
    -- the choices with the next one
    abbrev more : List ℕ
    more = set chosen depth next

    -- those before are as they were
    as_was : (i : ℕ) → i < depth → get_or more i 0 ≡ get_or chosen i 0
    as_was i l = get_or-set_other chosen depth i next 0 (let e : i ≡ depth → ⊥ = omega arith in e)

    -- the new choice stands at the depth
    at_depth : get_or more depth 0 ≡ next
    at_depth = get_or-set_same chosen depth next 0 (let e = searched.size in omega arith)

    -- each choice is one that suits its position
    each_low : (i : ℕ) → i < suc depth → (i ≡ depth) ⊎ (i ≡ depth → ⊥) → (get_or more i 0 < w.count) × (suits (get_or sequence i 0) (get_or more i 0) ≡ true)
    each_low i l (inl e) = subst (λ j. (get_or more j 0 < w.count) × (suits (get_or sequence j 0) (get_or more j 0) ≡ true)) (sym e)
        ((let f = at_depth in omega arith), subst (λ c. suits here c ≡ true) (sym at_depth) suitable)
    each_low i l (inr o) = (
      (let f = as_was i (omega arith) in let w = searched.low i (omega arith) in omega arith),
      subst (λ c. suits (get_or sequence i 0) c ≡ true) (sym (as_was i (omega arith))) (searched.suited i (omega arith)),
    )

    -- no choice is taken twice
    each_apart : (i j : ℕ) → i < suc depth → j < suc depth → get_or more i 0 ≡ get_or more j 0 → (i ≡ depth) ⊎ (i ≡ depth → ⊥) → (j ≡ depth) ⊎ (j ≡ depth → ⊥) → i ≡ j
    each_apart i j li lj same (inl e) (inl f) = e ∙ sym f
    each_apart i j li lj same (inl e) (inr f) = absurd (free j (omega arith) (sym (as_was j (omega arith)) ∙ sym same ∙ ap (λ k. get_or more k 0) e ∙ at_depth))
    each_apart i j li lj same (inr e) (inl f) = absurd (free i (omega arith) (sym (as_was i (omega arith)) ∙ same ∙ ap (λ k. get_or more k 0) f ∙ at_depth))
    each_apart i j li lj same (inr e) (inr f) = searched.apart i j (omega arith) (omega arith) (sym (as_was i (omega arith)) ∙ same ∙ as_was j (omega arith))

    -- each position is placed as early as can be
    each_placed : (i : ℕ) → i ≤ suc depth → (m : ℕ → ℕ) → AgreeBelow sequence more i m → (i ≡ suc depth) ⊎ (i ≡ suc depth → ⊥)
        → ArePlaced (λ a. room (m a)) w.order w.sequence w.last w.gap (set finishes here finish) i
    each_placed i l m agree (inl e) =
        let placing = searched.placed depth (let e : depth ≤ depth = omega arith in e) m (λ j k. agree j (omega arith) ∙ as_was j k) in
        let is : m here ≡ next = agree depth (omega arith) ∙ at_depth in
        subst (ArePlaced (λ a. room (m a)) w.order w.sequence w.last w.gap (set finishes here finish)) (let f : depth + 1 ≡ i = omega arith in f)
        (one_more (λ a. room (m a)) w.order w.sequence w.last w.gap finishes depth (λ a. sooner (m a)) is_sequence placing low start is_start finish
        (subst (λ c. IsFirst (room c start) w.last finish) (sym is) first))
    each_placed i l m agree (inr o) =
        kept (λ a. room (m a)) w.order w.sequence w.last w.gap finishes i depth finish is_sequence
        (searched.placed i (omega arith) m (λ j k. agree j k ∙ as_was j (omega arith))) (omega arith) low

    -- a matching that is to come is still to come
    come_on : (m : ℕ → ℕ) → (come : IsToCome sequence chosen depth next m) → (come.place ≡ depth) ⊎ (come.place ≡ depth → ⊥) → (m here ≡ next) ⊎ (m here ≡ next → ⊥)
        → IsToCome sequence more (suc depth) 0 m
    come_on m come (inl e) (inl is) = record {
      place = suc depth;
      low = omega arith;
      same = λ i l. elim (cases_eq i depth) [
        | inl f ↦ ap (λ j. m (get_or sequence j 0)) f ∙ is ∙ sym at_depth ∙ ap (λ j. get_or more j 0) (sym f)
        | inr f ↦ come.same i (omega arith) ∙ sym (as_was i (omega arith))
      ];
      later = λ l. absurd (omega arith);
      here = λ f. omega arith;
    }
    come_on m come (inl e) (inr is) = record {
      place = depth;
      low = omega arith;
      same = λ i l. come.same i (omega arith) ∙ sym (as_was i l);
      later = λ l. (let was = come.here e in let moved : m (get_or sequence come.place 0) ≡ m here = ap (λ j. m (get_or sequence j 0)) e in let f = at_depth in
          elim (cases_lt next (m here)) [ inl less ↦ omega arith | inr more ↦ absurd (is (omega arith)) ]);
      here = λ f. absurd (omega arith);
    }
    come_on m come (inr o) is = record {
      place = come.place;
      low = (let l = come.low in omega arith);
      same = λ i l. come.same i l ∙ sym (as_was i (let k = come.low in omega arith));
      later = λ l. (let k = come.low in let was = come.later (omega arith) in let f = as_was come.place (omega arith) in omega arith);
      here = λ f. absurd (let k = come.low in omega arith);
    }

    -- a choice was taken, and the search stands at the next position
    pub gone_on : Searched more (set finishes here finish) (suc depth) 0 best
    gone_on = record {
      size = length-set chosen depth next ∙ searched.size;
      within = omega arith;
      small = omega arith;
      low = λ i l. (each_low i l (cases_eq i depth)).0;
      suited = λ i l. (each_low i l (cases_eq i depth)).1;
      apart = λ i j li lj same. each_apart i j li lj same (cases_eq i depth) (cases_eq j depth);
      placed = λ i l m agree. each_placed i l m agree (cases_eq i (suc depth));
      found = searched.found;
      tried = λ m assigned h l have. elim (searched.tried m assigned h l have) [
        | inl beaten ↦ inl beaten
        | inr come ↦ inr (come_on m come (cases_eq come.place depth) (cases_eq (m here) next))
      ];
    }

    -- the same, one position further
    pub gone_on_one : Searched more (set finishes here finish) (depth + 1) 0 best
    gone_on_one = subst (λ d. Searched more (set finishes here finish) d 0 best) (let e : suc depth ≡ depth + 1 = omega arith in e) gone_on

  -- a matching that begins with the chosen ones
  abbrev chosen_at : (a : ℕ) → (a < length w.order) ⊎ (length w.order ≤ a) → ℕ
  chosen_at a (inl low) = get_or chosen (is_sequence.listed a low).0 0
  chosen_at a (inr past) = 0

  -- the choices, position by position
  matching : ℕ → ℕ
  matching a = chosen_at a (cases_lt a (length w.order))

  -- each position has the choice at its place in the sequence
  at : (a : ℕ) → a < length w.order → (i : ℕ) × (i < length sequence) × (get_or sequence i 0 ≡ a) × (matching a ≡ get_or chosen i 0)
  unfolding matching
  at a low = by (cases_lt a (length w.order))
    where
      by : (side : (a < length w.order) ⊎ (length w.order ≤ a)) → (i : ℕ) × (i < length sequence) × (get_or sequence i 0 ≡ a) × (chosen_at a side ≡ get_or chosen i 0)
      by (inl inside) = let (i, l, same) = is_sequence.listed a inside in (i, l, same, refl)
      by (inr past) = absurd (omega arith)

  -- so the matching agrees with the choices
  agrees : AgreeBelow sequence chosen depth matching
  agrees i l =
      let low : i < length sequence = (let w = searched.within in omega arith) in
      let (j, inside, same, is) = at (get_or sequence i 0) (is_sequence.within i low) in
      is ∙ ap (λ k. get_or chosen k 0) (is_sequence.once j i inside low same)

  -- what comes next starts within the last gap
  pub start_within : depth < length sequence → (start : ℕ) → IsStart w.order finishes w.gap here start → start ≤ w.last
  start_within low start is_start = is_start.soonest w.last is_seating.within (λ b before. by b before (cases_lt b (length finishes)))
    where
      by : (b : ℕ) → is_before w.order b here ≡ true → (b < length finishes) ⊎ (length finishes ≤ b) → get_or finishes b w.gap ≤ w.last
      by b before (inl inside) =
          let (i, l, same) = is_sequence.listed b (let e = size_is in omega arith) in
          let less : i < depth = is_sequence.ordered i depth l low (subst (λ c. is_before w.order c here ≡ true) (sym same) before) in
          subst (λ c. get_or finishes c w.gap ≤ w.last) same ((searched.placed depth (let e : depth ≤ depth = omega arith in e) matching agrees).each i less).within
      by b before (inr past) = let e = get_or_past finishes b w.gap past in let f = is_seating.within in omega arith

  -- all positions have their choices
  module _ (all : length sequence ≤ depth) (end : ℕ) (top : IsTop sequence finishes w.gap depth end) where
    -- the end is the greatest of the finishes
    greatest : IsGreatest finishes w.gap end
    greatest = record {
      from = top.from;
      after = λ b. elim (cases_lt b (length finishes)) [
        | inl inside ↦ (let (i, l, same) = is_sequence.listed b (let e = size_is in omega arith) in subst (λ c. get_or finishes c w.gap ≤ end) same (top.after i (omega arith)))
        | inr past ↦ (let e = get_or_past finishes b w.gap past in let f = top.from in omega arith)
      ];
      soonest = λ k low every. top.soonest k low (λ j l. every (get_or sequence j 0) (let i = is_sequence.within j (let x = searched.within in omega arith) in let e = size_is in omega arith));
    }

    -- a matching with these choices has room up to it, and no earlier
    first_of : (m : ℕ → ℕ) → AgreeBelow sequence chosen depth m → IsFirst (HasRoomWith w m) w.last end
    first_of m agree =
        all_placed (λ a. room (m a)) w.order w.sequence w.last w.gap finishes depth (λ a. sooner (m a)) is_sequence
        (searched.placed depth (let e : depth ≤ depth = omega arith in e) m agree) (λ a. is_seating.forward (m a)) is_seating.square is_seating.within all end greatest

    -- so no such matching finishes earlier
    pub first_least : (m : ℕ → ℕ) → (h : ℕ) → HasRoomWith w m h → AgreeBelow sequence chosen depth m → end ≤ h
    first_least m h have agree = (first_of m agree).least h have

    -- the choices are a matching
    assigned_so : IsSeated w matching
    assigned_so = record {
      low = λ a l. (let (i, inside, same, is) = at a l in let low = searched.low i (omega arith) in omega arith);
      suited = λ a l. (let (i, inside, same, is) = at a l in
          subst (λ c. suits a c ≡ true) (sym is) (subst (λ b. suits b (get_or chosen i 0) ≡ true) same (searched.suited i (omega arith))));
      apart = λ a b la lb alike. (let (i, inside, same, is) = at a la in let (j, inner, even, it) = at b lb in
          sym same ∙ ap (λ k. get_or sequence k 0) (searched.apart i j (omega arith) (omega arith) (sym is ∙ alike ∙ it)) ∙ even);
    }

    -- the end is kept, where it is better
    pub improved : (IsBeaten best end → ⊥) → Searched chosen finishes depth next (Some end)
    improved better = record {
      size = searched.size;
      within = searched.within;
      small = searched.small;
      low = searched.low;
      suited = searched.suited;
      apart = searched.apart;
      placed = searched.placed;
      found = (let f = first_of matching agrees in (f.within, (matching, assigned_so, f.fits)));
      tried = λ m assigned h l have. elim (searched.tried m assigned h l have) [
        | inl beaten ↦ inl (worse best better beaten)
        | inr come ↦ inr come
      ];
    }
      where
        worse : (b : Option ℕ) → (IsBeaten b end → ⊥) → {h : ℕ} → IsBeaten b h → end ≤ h
        worse None better beaten = absurd beaten
        worse (Some k) better beaten = elim (cases_lt end k) [ inl l ↦ omega arith | inr l ↦ absurd (better l) ]

-- once all are tried, the best is the first gap by which the network has room in some matching
module _ (w : Seating) (best : Option ℕ) (found : IsFound (HasMatchedRoom w) w.last best)
    (none_better : (m : ℕ → ℕ) → IsSeated w m → (h : ℕ) → h ≤ w.last → HasRoomWith w m h → IsBeaten best h) where
  -- once all is searched, the best is the first
  pub best_first : (end : ℕ) → best ≡ Some end → IsFirst (HasMatchedRoom w) w.last end
  best_first end is =
      let (small, there) = subst (IsFound (HasMatchedRoom w) w.last) is found in
      record {
        within = small;
        fits = there;
        least = λ k room_there. elim (cases_lt w.last k) [
          | inl past ↦ omega arith
          | inr low ↦ (let (m, assigned, have) = room_there in subst (λ b. IsBeaten b k) is (none_better m assigned k low have))
        ];
      }

  -- and where there is none, nothing has room
  pub best_never : best ≡ None → (k : ℕ) → k ≤ w.last → HasMatchedRoom w k → ⊥
  best_never is k low (m, assigned, have) = subst (λ b. IsBeaten b k) is (none_better m assigned k low have)

-- before the first step
pub untried : (w : Seating) (chosen finishes : List ℕ) → length chosen ≡ length w.sequence → length finishes ≡ length w.order → IsSearched w chosen finishes 0 0 None
untried w chosen finishes size sizes = record {
  size = size;
  within = omega arith;
  small = omega arith;
  low = λ i l. absurd (omega arith);
  suited = λ i l. absurd (omega arith);
  apart = λ i j l k e. absurd (omega arith);
  placed = λ i l m agree. record { size = sizes; within = omega arith; each = λ j k. absurd (omega arith) };
  found = tt;
  tried = λ m assigned h l have. inr (record { place = 0; low = omega arith; same = λ i k. absurd (omega arith); later = λ k. absurd (omega arith); here = λ e. omega arith });
}
