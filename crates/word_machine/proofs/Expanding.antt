-- The expansion of a configuration, and of a level, rank by rank.
use Rattle.std.proofs.Common.{◌≡◌, ℕ, suc, ◌+◌, ◌<◌, ◌≤◌, List, [], ◌∷◌, ◌++◌, length, refl, sym, ap, subst, ◌∙◌, inl, inr, arith, slice_get, Some, get_or, map, All}
use Rattle.std.specs.List.{flat_map}
use Rattle.std.proofs.lemmas.Bool.{cases_lt}
use Rattle.std.proofs.lemmas.List.{length-map}
use Rattle.std.proofs.lemmas.Option.{slice_get-get_or, slice_get_cases, slice_get_within, same_Some, none-some, get_or_from_slice_get}
use Rattle.std.proofs.lemmas.List.Elements.{All-append, All-nil}
use Rattle.std.proofs.lemmas.List.Kept.{AllPairs-from_increasing}
use Rattle.word_machine.specs.Level.{IsExpandedLevel as IsLevelExpanded}
use Rattle.word_machine.specs.declared.workers_level.ExpandedLevel.{ExpandedLevel}
use Rattle.word_machine.specs.declared.workers_level.ExpandedLevel.TheVariants.{Whole, Done}
use Rattle.word_machine.specs.declared.closed.Origin.TheVariants.{Step as Stepped}
use Rattle.word_machine.specs.declared.closed.Measured.{Measured}
use Rattle.word_machine.specs.declared.closed.Successor.{Successor}
use Rattle.word_machine.specs.Expansion.{IsEarlier, IsSuccessor, IsExpansionOf, IsLeastDone, IsExpansion, IsFirstDone}
use Rattle.word_machine.specs.Machine.{WordMachine, IsDone, IsLiveStep}
use Rattle.word_machine.specs.Meaning.{Meaning, AreSuccessors, successor_at, successors_of}
use Rattle.word_machine.specs.Ranks.{StandsAt, AreReadyFrom, HasSuccessorsAt, FinishesAt, IsExpandedBy}
use Rattle.word_machine.proofs.Meanings.{slice_get-map, slice_get-map_back, map-flat_map}
use Rattle.word_machine.proofs.Places.{slice_get-append_left, slice_get-append_right, slice_get-append_cases, all_zip_at, all_zip_back}

module _ {C : Type 0} (Step : C → ℕ → C → Type 0) (IsDone beyond : C → Type 0) (keys : List C) where
  -- no rank has no successors
  pub IsExpansion-none : (p : ℕ) → IsExpansion Step IsDone beyond keys p p []
  IsExpansion-none p = record {
    each = λ i s at. absurd (none-some s at);
    all = λ q n c d from before at step. absurd (omega arith);
    ascending = λ i j s t less at other. absurd (none-some s at);
  }

  -- the expansion of one rank
  pub IsExpansion-one : (deterministic : (c d e : C) (n : ℕ) → Step c n d → Step c n e → d ≡ e) (p : ℕ) (c : C) (more : List (Successor C))
      → slice_get keys p ≡ Some c → IsExpansionOf Step IsDone beyond p c more → IsExpansion Step IsDone beyond keys p (p + 1) more
  IsExpansion-one deterministic p c more here of = record {
    each = λ i s at. (let found = all_zip_back (IsSuccessor Step IsDone p c) of.numbers more i s of.each at in
        (p, found.0, c, omega arith, omega arith, here, found.2));
    all = λ q n d e from before at step. (
        let same : p ≡ q = omega arith in
        let same_key : d ≡ c = same_Some d c (sym at ∙ ap (slice_get keys) (sym same) ∙ here) in
        let own : Step c n e = subst (λ x. Step x n e) same_key step in
        elim (of.all n e own) [
          | inl place ↦
              let found = all_zip_at (IsSuccessor Step IsDone p c) of.numbers more place.0 n of.each (slice_get-get_or of.numbers place.0 n place.1 ∙ ap Some place.2) in
              inl (place.0, found.0, found.1, found.2.origin ∙ ap (λ r. Stepped r n) same, deterministic c found.0.configuration e n found.2.step own)
          | inr missed ↦ inr missed
        ]);
    ascending = λ i j s t less at other. (
        let first = all_zip_back (IsSuccessor Step IsDone p c) of.numbers more i s of.each at in
        let second = all_zip_back (IsSuccessor Step IsDone p c) of.numbers more j t of.each other in
        let below : get_or of.numbers i 0 < get_or of.numbers j 0 = AllPairs-from_increasing of.numbers of.ascending i j 0 less (slice_get_within of.numbers j second.0 second.1) in
        let m : get_or of.numbers i 0 ≡ first.0 = get_or_from_slice_get of.numbers i first.0 0 first.1 in
        let n : get_or of.numbers j 0 ≡ second.0 = get_or_from_slice_get of.numbers j second.0 0 second.1 in
        let rise : first.0 < second.0 = omega arith in
        let lower : IsEarlier (Stepped p first.0) (Stepped p second.0) = inr (refl, rise) in
        subst (λ o. IsEarlier o t.origin) (sym first.2.origin) (subst (IsEarlier (Stepped p first.0)) (sym second.2.origin) lower));
  }

  -- the expansions of two parts, one after the other, are that of the whole
  pub IsExpansion-append : (first middle last : ℕ) (xs ys : List (Successor C)) → first ≤ middle → middle ≤ last
      → IsExpansion Step IsDone beyond keys first middle xs → IsExpansion Step IsDone beyond keys middle last ys → IsExpansion Step IsDone beyond keys first last (xs ++ ys)
  IsExpansion-append first middle last xs ys low high left right = record {
    each = λ i s at. elim (slice_get-append_cases xs ys i s at) [
      | inl in_left ↦ (let e = left.each i s in_left in (e.0, e.1, e.2, e.3, (let b : e.0 < middle = e.4 in omega arith), e.5, e.6))
      | inr in_right ↦ (let e = right.each in_right.0 s in_right.2 in (e.0, e.1, e.2, (let b : middle ≤ e.0 = e.3 in omega arith), e.4, e.5, e.6))
    ];
    all = λ p n c d from before at step. elim (cases_lt p middle) [
      | inl early ↦ elim (left.all p n c d from early at step) [
        | inl e ↦ inl (e.0, e.1, slice_get-append_left xs ys e.0 e.1 e.2, e.3, e.4)
        | inr missed ↦ inr missed
      ]
      | inr late ↦ elim (right.all p n c d late before at step) [
        | inl e ↦ inl (length xs + e.0, e.1, slice_get-append_right xs ys e.0 ∙ e.2, e.3, e.4)
        | inr missed ↦ inr missed
      ]
    ];
    ascending = λ i j s t less at other. elim (slice_get-append_cases xs ys i s at) [
      | inl in_left ↦ elim (slice_get-append_cases xs ys j t other) [
        | inl in_left' ↦ left.ascending i j s t less in_left in_left'
        | inr in_right ↦ (
            let e = left.each i s in_left in
            let f = right.each in_right.0 t in_right.2 in
            let a : e.0 < middle = e.4 in
            let b : middle ≤ f.0 = f.3 in
            let rank : e.0 < f.0 = omega arith in
            let lower : IsEarlier (Stepped e.0 e.1) (Stepped f.0 f.1) = inl rank in
            subst (λ o. IsEarlier o t.origin) (sym e.6.origin) (subst (IsEarlier (Stepped e.0 e.1)) (sym f.6.origin) lower))
      ]
      | inr in_right ↦ elim (slice_get-append_cases xs ys j t other) [
        | inl in_left ↦ (let e : i ≡ length xs + in_right.0 = in_right.1 in let b : j < length xs = slice_get_within xs j t in_left in absurd (omega arith))
        | inr in_right' ↦ (let e : i ≡ length xs + in_right.0 = in_right.1 in let f : j ≡ length xs + in_right'.0 = in_right'.1 in
            right.ascending in_right.0 in_right'.0 s t (omega arith) in_right.2 in_right'.2)
      ]
    ];
  }

  -- a place after ranks that were expanded, none of whose successors is done, is the first with a done successor
  pub IsFirstDone-after : (first p n last : ℕ) (xs : List (Successor C)) (c : C) → first ≤ p → p < last → IsExpansion Step IsDone beyond keys first p xs
      → slice_get keys p ≡ Some c → IsLeastDone Step IsDone c n → IsFirstDone Step IsDone keys first last p n
  IsFirstDone-after first p n last xs c from before expanded at number = record {
    from_first = from;
    before_last = before;
    configuration = c;
    at = at;
    number = number;
    place = λ q m e d low less here step done. elim (expanded.all q m e d low less here step) [
      | inl found ↦ (expanded.each found.0 found.1 found.2).6.unfinished (subst IsDone (sym found.4) done)
      | inr missed ↦ missed.0 done
    ];
  }

module _ {C : Type 0} (m : WordMachine C) where
  -- a number leads to one configuration
  pub one_live_step : (c d e : C) (n : ℕ) → IsLiveStep m c n d → IsLiveStep m c n e → d ≡ e
  one_live_step c d e n s t = same_Some d e (sym s.0 ∙ t.0)

  -- none of the successors of an expanded configuration is done
  pub none_done : (beyond : C → Type 0) (p : ℕ) (c : C) (successors : List (Successor C)) → IsExpansionOf (IsLiveStep m) (IsDone m) beyond p c successors
      → (n : ℕ) (d : C) → IsLiveStep m c n d → IsDone m d → ⊥
  none_done beyond p c successors of n d step done =
      elim (of.all n d step) [
        | inl place ↦
            let found = all_zip_at (IsSuccessor (IsLiveStep m) (IsDone m) p c) of.numbers successors place.0 n of.each (slice_get-get_or of.numbers place.0 n place.1 ∙ ap Some place.2) in
            found.2.unfinished (subst (IsDone m) (one_live_step c d found.0.configuration n step found.2.step) done)
        | inr missed ↦ missed.0 done
      ]

  module _ (beyond : C → Type 0) (keys : List C) where
    -- the point at the rank has these successors
    abbrev HasPointsAt : ℕ → List (Successor C) → Type 0
    HasPointsAt rank successors = StandsAt (λ c. IsExpansionOf (IsLiveStep m) (IsDone m) beyond rank c successors) keys rank

    -- the ranks were expanded one by one
    pub level_whole : (first : ℕ) (lists : List (List (Successor C))) → ((i : ℕ) (xs : List (Successor C)) → slice_get lists i ≡ Some xs → HasPointsAt (first + i) xs)
        → IsExpansion (IsLiveStep m) (IsDone m) beyond keys first (first + length lists) (flat_map (λ xs. xs) lists)
    level_whole first [] each =
        let e : first ≡ first + 0 = omega arith in
        subst (λ last. IsExpansion (IsLiveStep m) (IsDone m) beyond keys first last []) e (IsExpansion-none (IsLiveStep m) (IsDone m) beyond keys first)
    level_whole first (xs ∷ lists) each =
        let here = each 0 xs refl in
        let own : first + 0 ≡ first = omega arith in
        let last : (first + 1) + length lists ≡ first + suc (length lists) = omega arith in
        let rest : IsExpansion (IsLiveStep m) (IsDone m) beyond keys (first + 1) (first + suc (length lists)) (flat_map (λ xs. xs) lists) =
        subst (λ l. IsExpansion (IsLiveStep m) (IsDone m) beyond keys (first + 1) l (flat_map (λ xs. xs) lists)) last
        (level_whole (first + 1) lists (λ i ys at. (let next : first + suc i ≡ (first + 1) + i = omega arith in subst (λ r. HasPointsAt r ys) next (each (suc i) ys at)))) in
        IsExpansion-append (IsLiveStep m) (IsDone m) beyond keys first (first + 1) (first + suc (length lists)) xs (flat_map (λ xs. xs) lists) (omega arith) (omega arith)
        (IsExpansion-one (IsLiveStep m) (IsDone m) beyond keys one_live_step first here.0 xs (ap (slice_get keys) (sym own) ∙ here.1) (subst (λ r. IsExpansionOf (IsLiveStep m) (IsDone m) beyond r here.0 xs) own here.2)) rest

-- what holds in each list holds in all joined
all_flat : {X : Type 0} (P : X → Type 0) (lists : List (List X)) → ((i : ℕ) (xs : List X) → slice_get lists i ≡ Some xs → All P xs) → All P (flat_map (λ xs. xs) lists)
all_flat P [] each = All-nil P
all_flat P (xs ∷ lists) each = All-append P xs (flat_map (λ xs. xs) lists) (each 0 xs refl) (all_flat P lists (λ i ys at. each (suc i) ys at))

module _ {C R P : Type 0} (m : WordMachine P) (meaning : Meaning C R P) (beyond : P → Type 0) (measure : P → ℕ)
    (keys : List C) where
  -- the configuration at the rank has these successors, whatever their measures
  abbrev HasPlainAt : ℕ → List (Successor R) → Type 0
  HasPlainAt rank successors = StandsAt (λ c. AreSuccessors m meaning beyond rank c successors) keys rank

  -- the lists of successors, without their measures
  plain_at : (lists : List (List (Measured R))) (first : ℕ)
      → ((i : ℕ) (xs : List (Measured R)) → slice_get lists i ≡ Some xs → HasSuccessorsAt m meaning beyond measure keys (first + i) xs)
      → (i : ℕ) (ys : List (Successor R)) → slice_get (map (map (λ (s : Measured R). s.successor)) lists) i ≡ Some ys
      → HasPlainAt (first + i) ys
  plain_at lists first of_rank i ys at =
      let back = slice_get-map_back (map (λ (s : Measured R). s.successor)) lists i ys at in
      let here = of_rank i back.0 back.1 in
      (here.0, here.1, subst (AreSuccessors m meaning beyond (first + i) here.0) back.2 here.2.0)

  -- the lists of successors, by what they stand for
  points_at : (lists : List (List (Successor R))) (first : ℕ) → ((i : ℕ) (xs : List (Successor R)) → slice_get lists i ≡ Some xs → HasPlainAt (first + i) xs)
      → (i : ℕ) (ys : List (Successor P)) → slice_get (map (map (successor_at meaning.point_of)) lists) i ≡ Some ys → HasPointsAt m beyond (map meaning.point keys) (first + i) ys
  points_at lists first of_rank i ys at =
      let back = slice_get-map_back (map (successor_at meaning.point_of)) lists i ys at in
      let here = of_rank i back.0 back.1 in (
        meaning.point here.0,
        slice_get-map meaning.point keys (first + i) here.0 here.1,
        subst (IsExpansionOf (IsLiveStep m) (IsDone m) beyond (first + i) (meaning.point here.0)) back.2 here.2.1,
      )

  -- what a level's expansion is by ranks, as one of points
  pub level_expanded : (first last : ℕ) (e : ExpandedLevel (Measured R) ℕ)
      → IsLevelExpanded (HasSuccessorsAt m meaning beyond measure keys) (FinishesAt m meaning keys) first last e
      → IsExpandedBy m meaning beyond measure keys first last e
  level_expanded first last (Whole measured) level =
      let view = successor_at meaning.point_of in
      let points = map meaning.point keys in
      let alone = λ (s : Measured R). s.successor in
      let plain = map (map alone) level.lists in
      let lists = map (map view) plain in
      let allows = λ (s : Successor R). meaning.allows s.configuration in
      let is_measured = λ (s : Measured R). s.left ≡ measure (meaning.point_of s.successor.configuration) in
      let of_rank = plain_at level.lists first level.of_rank in
      let all : flat_map (λ xs. xs) plain ≡ successors_of measured =
      sym (map-flat_map alone level.lists) ∙ ap (map alone) (sym level.joined) in
      let joined : flat_map (λ xs. xs) lists ≡ map view (successors_of measured) =
      sym (map-flat_map view plain) ∙ ap (map view) all in
      let many : length lists ≡ length level.lists =
      length-map plain (map view) ∙ length-map level.lists (map alone) in
      let count : first + length lists ≡ last = ap (λ n. first + n) many ∙ level.count in (
        subst (All allows) all (all_flat allows plain (λ i xs at. (of_rank i xs at).2.0)),
        subst (λ l. IsExpansion (IsLiveStep m) (IsDone m) beyond points first l (map view (successors_of measured))) count
            (subst (IsExpansion (IsLiveStep m) (IsDone m) beyond points first (first + length lists)) joined
            (level_whole m beyond points first lists (points_at plain first of_rank))),
        subst (All is_measured) (sym level.joined)
            (all_flat is_measured level.lists (λ i xs at. (level.of_rank i xs at).2.1)),
      )
  level_expanded first last (Done rank number) level = record {
    from_first = level.from_first;
    before_last = level.before_last;
    configuration = meaning.point level.finishes_so.0;
    at = slice_get-map meaning.point keys rank level.finishes_so.0 level.finishes_so.1;
    number = level.finishes_so.2;
    place = λ q n c d low less at step done. (
        let e = level.before q low less in
        let same : c ≡ meaning.point e.1.0 = same_Some c (meaning.point e.1.0) (sym at ∙ slice_get-map meaning.point keys q e.1.0 e.1.1) in
        none_done m beyond q (meaning.point e.1.0) (map (successor_at meaning.point_of) (successors_of e.0)) e.1.2.0.1 n d (subst (λ x. IsLiveStep m x n d) same step) done);
  }

-- at each rank from `first` on stands a configuration that is ready
pub all_ready_at : {C : Type 0} (own is_ready : C → Type 0) (keys : List C) → All own keys → (first : ℕ) → AreReadyFrom is_ready keys first
    → (rank : ℕ) → first ≤ rank → rank < length keys → (c : C) × (slice_get keys rank ≡ Some c) × own c × is_ready c
all_ready_at own is_ready keys known first ready rank low inside =
    elim (slice_get_cases keys rank).1 [
      | inl at ↦ (at.0, at.2, subst own at.3 (known rank at.0 at.1), ready rank at.0 low at.2)
      | inr past ↦ (let p : length keys ≤ rank = past.0 in absurd (omega arith))
    ]
