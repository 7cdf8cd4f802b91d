-- Which choices are taken, and by which gap the first places have finished.
use Rattle.std.proofs.Common.{◌≡◌, ℕ, suc, ◌+◌, ◌≤◌, ◌<◌, ◌⊎◌, inl, inr, Bool, true, false, List, length, get_or, set, max, sym, ap, ◌∙◌, subst, arith}
use Rattle.std.proofs.lemmas.Bool.{both_ways, cases_lt, cases_eq}
use Rattle.std.proofs.lemmas.List.{get_or_past, get_or-set_other, get_or-set_same, length-set}
use Rattle.plan_room.specs.Placing.{IsSequence}
use Rattle.plan_room.specs.Matching.{Seating, IsNoted, IsTaken, IsTop, IsFirstPlaced}

module _ (w : Seating) (is_sequence : IsSequence w.order w.sequence) (chosen finishes highs : List ℕ) (taken : List Bool) (depth : ℕ)
    (noted : IsNoted w chosen finishes highs taken depth) where
  -- one more is taken
  module _ (next position finish : ℕ) (size : length chosen ≡ length w.sequence) (sizes : length finishes ≡ length w.order)
      (first : IsFirstPlaced w chosen finishes depth next position finish) where
    -- the choices with the next one
    abbrev more : List ℕ
    more = set chosen depth next

    -- the flags with the next choice's
    abbrev flags : List Bool
    flags = set taken next true

    -- the finishes with this one
    abbrev later : List ℕ
    later = set finishes position finish

    -- the later of the top so far and this finish
    abbrev top : ℕ
    top = max (get_or highs depth 0) finish

    -- the tops with this one
    abbrev tops : List ℕ
    tops = set highs (depth + 1) top

    -- the new choice stands at the depth
    chosen_at : get_or more depth 0 ≡ next
    chosen_at = get_or-set_same chosen depth next 0 (let l = first.low in omega arith)

    -- those before are as they were
    chosen_below : (i : ℕ) → i < depth → get_or more i 0 ≡ get_or chosen i 0
    chosen_below i l = get_or-set_other chosen depth i next 0 (let e : i ≡ depth → ⊥ = omega arith in e)

    -- the new choice's flag is set
    flag_at : get_or flags next false ≡ true
    flag_at = get_or-set_same taken next true false (let l = first.less in let e = noted.flags in omega arith)

    -- the others' are as they were
    flag_other : (c : ℕ) → (c ≡ next → ⊥) → get_or flags c false ≡ get_or taken c false
    flag_other c other = get_or-set_other taken next c true false other

    -- the finishes of the positions before are as they were
    finish_other : (j : ℕ) → j < depth → get_or later (get_or w.sequence j 0) w.gap ≡ get_or finishes (get_or w.sequence j 0) w.gap
    finish_other j l = get_or-set_other finishes position (get_or w.sequence j 0) finish w.gap
        (λ e. let same = is_sequence.once j depth (let f = first.low in omega arith) first.low (e ∙ first.here) in absurd (omega arith))

    -- that of this position is the new one
    finish_here : get_or later (get_or w.sequence depth 0) w.gap ≡ finish
    finish_here = subst (λ a. get_or later a w.gap ≡ finish) first.here
        (get_or-set_same finishes position finish w.gap (let i = is_sequence.within depth first.low in let e = first.here in omega arith))

    -- a flag that is set is that of a taken choice
    is_noted : (c : ℕ) → get_or flags c false ≡ true → (c ≡ next) ⊎ (c ≡ next → ⊥) → IsTaken more (depth + 1) c
    is_noted c is (inl e) = (depth, omega arith, chosen_at ∙ sym e)
    is_noted c is (inr o) = let (i, l, same) = noted.noted c (sym (flag_other c o) ∙ is) in (i, omega arith, chosen_below i l ∙ same)

    -- each taken choice has its flag
    is_kept : (i : ℕ) → i < depth + 1 → (i ≡ depth) ⊎ (i ≡ depth → ⊥) → (get_or more i 0 ≡ next) ⊎ (get_or more i 0 ≡ next → ⊥) → get_or flags (get_or more i 0) false ≡ true
    is_kept i l place (inl e) = subst (λ c. get_or flags c false ≡ true) (sym e) flag_at
    is_kept i l (inl e) (inr o) = absurd (o (ap (λ j. get_or more j 0) e ∙ chosen_at))
    is_kept i l (inr p) (inr o) =
        flag_other (get_or more i 0) o ∙ ap (λ c. get_or taken c false) (chosen_below i (omega arith)) ∙ noted.kept i (omega arith)

    -- the tops before are right with the new finishes
    old_top : (i : ℕ) → i ≤ depth → IsTop w.sequence later w.gap i (get_or highs i 0)
    old_top i l = let was = noted.tops i l in record {
      from = was.from;
      after = λ j k. subst (λ x. x ≤ get_or highs i 0) (sym (finish_other j (omega arith))) (was.after j k);
      soonest = λ k low all. was.soonest k low (λ j m. subst (λ x. x ≤ k) (finish_other j (omega arith)) (all j m));
    }

    -- and so is the new one
    new_top : IsTop w.sequence later w.gap (depth + 1) top
    new_top = let was = old_top depth (let e : depth ≤ depth = omega arith in e) in record {
      from = (let f = was.from in omega arith);
      after = λ j k. elim (cases_eq j depth) [
        | inl e ↦ subst (λ i. get_or later (get_or w.sequence i 0) w.gap ≤ top) (sym e) (let f = finish_here in omega arith)
        | inr o ↦ (let f = was.after j (omega arith) in omega arith)
      ];
      soonest = λ k low all. (let a = was.soonest k low (λ j l. all j (omega arith)) in let b = all depth (omega arith) in let f = finish_here in omega arith);
    }

    -- so all are
    is_top : (i : ℕ) → i ≤ depth + 1 → (i ≡ depth + 1) ⊎ (i ≡ depth + 1 → ⊥) → IsTop w.sequence later w.gap i (get_or tops i 0)
    is_top i l (inl e) = subst (λ j. IsTop w.sequence later w.gap j (get_or tops j 0)) (sym e)
        (subst (IsTop w.sequence later w.gap (depth + 1)) (sym (get_or-set_same highs (depth + 1) top 0 (let s = noted.sizes in let f = first.low in omega arith))) new_top)
    is_top i l (inr o) = subst (IsTop w.sequence later w.gap i) (sym (get_or-set_other highs (depth + 1) i top 0 o)) (old_top i (omega arith))

    -- a choice was taken, and what is noted is right
    pub took : IsNoted w more later tops flags (depth + 1)
    took = record {
      flags = length-set taken next true ∙ noted.flags;
      noted = λ c is. is_noted c is (cases_eq c next);
      kept = λ i l. is_kept i l (cases_eq i depth) (cases_eq (get_or more i 0) next);
      sizes = length-set highs (depth + 1) top ∙ noted.sizes;
      tops = λ i l. is_top i l (cases_eq i (depth + 1));
    }

  -- the last one is given back
  module _ (before : ℕ) (deep : depth ≡ suc before) (apart : (i j : ℕ) → i < depth → j < depth → get_or chosen i 0 ≡ get_or chosen j 0 → i ≡ j) where
    -- the choice that is given back
    abbrev choice : ℕ
    choice = get_or chosen before 0

    -- it has a flag
    inside : choice < length taken
    inside = elim (cases_lt choice (length taken)) [
      | inl low ↦ low
      | inr past ↦ absurd (both_ways (get_or taken choice false) (get_or_past taken choice false past) (noted.kept before (omega arith)))
    ]

    -- a flag that is still set is that of a choice before
    by : (c : ℕ) → get_or (set taken choice false) c false ≡ true → (c ≡ choice) ⊎ (c ≡ choice → ⊥) → IsTaken chosen before c
    by c is (inl e) = absurd (both_ways (get_or (set taken choice false) c false)
        (subst (λ x. get_or (set taken choice false) x false ≡ false) (sym e) (get_or-set_same taken choice false false inside)) is)
    by c is (inr o) =
        let (i, l, same) = noted.noted c (sym (get_or-set_other taken choice c false false o) ∙ is) in
        (i, (let p : i ≡ before → ⊥ = λ e. o (sym same ∙ ap (λ j. get_or chosen j 0) e) in omega arith), same)

    -- a choice was given back, and what is noted is right
    pub gave_back : IsNoted w chosen finishes highs (set taken choice false) before
    gave_back = record {
      flags = length-set taken choice false ∙ noted.flags;
      noted = λ c is. by c is (cases_eq c choice);
      kept = λ i l. get_or-set_other taken choice (get_or chosen i 0) false false
          (λ e. let same = apart i before (omega arith) (omega arith) e in absurd (omega arith)) ∙ noted.kept i (omega arith);
      sizes = noted.sizes;
      tops = λ i l. noted.tops i (omega arith);
    }

-- before any is taken
pub fresh : (w : Seating) (chosen finishes highs : List ℕ) (taken : List Bool) → length taken ≡ w.count → ((c : ℕ) → get_or taken c false ≡ false)
    → length highs ≡ length w.sequence + 1 → get_or highs 0 0 ≡ w.gap → IsNoted w chosen finishes highs taken 0
fresh w chosen finishes highs taken flags none sizes first = record {
  flags = flags;
  noted = λ c is. absurd (both_ways (get_or taken c false) (none c) is);
  kept = λ i l. absurd (omega arith);
  sizes = sizes;
  tops = λ i l. (let e : 0 ≡ i = omega arith in subst (λ j. IsTop w.sequence finishes w.gap j (get_or highs j 0)) e
      (subst (IsTop w.sequence finishes w.gap 0) (sym first) (record { from = omega arith; after = λ j m. absurd (omega arith); soonest = λ k low all. low })));
}
