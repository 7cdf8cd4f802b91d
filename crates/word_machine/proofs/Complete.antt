-- Keeping the first of equal configurations, and dropping those past the bound, loses nothing.
use Rattle.std.proofs.Common.{◌≡◌, ℕ, ◌+◌, ◌<◌, ◌≤◌, ◌⊎◌, true, false, true≢false, List, [], ◌∷◌, ◌++◌, length, refl, sym, ap, subst, ◌∙◌, inl, inr, arith, slice_get, Some, length-append, append_assoc}
use Rattle.std.proofs.lemmas.Bool.{cases_lt}
use Rattle.std.proofs.lemmas.List.{append-nil}
use Rattle.std.proofs.lemmas.Option.{slice_get_within, same_Some}
use Rattle.word_machine.specs.Words.{Precedes, Leads, Reaches, Finishes, MeetsBound, step_count}
use Rattle.word_machine.specs.Contents.{CutOff}
use Rattle.word_machine.specs.Closed.{Search, IsAtMost, IsAt, IsCovered, IsClosedTo, IsCompleteBelow}
use Rattle.word_machine.proofs.Order.{IsAtMost-trans, IsAtMost-push, IsAtMost-length, IsAtMost-not_before, Precedes-push, Precedes-last, Reaches-push, step_count-reached, open_len-leads}

-- a step wants an open node and closes at most one; where the machine is done, none is open
pub record CountsOpen {C : Type 0} (S : Search C) : Type 0 where
  pub wants_open : (c d : C) (n : ℕ) → S.Step c n d → 0 < S.open_len c
  pub closes_one : (c d : C) (n : ℕ) → S.Step c n d → S.open_len c ≤ S.open_len d + 1
  pub done_closed : (c : C) → S.IsDone c → S.open_len c ≡ 0

module _ {C : Type 0} (S : Search C) where
  -- a word of at least one step is another word with one number more
  abbrev pub IsReachedByLast : C → List ℕ → Type 0
  IsReachedByLast to v = (u : List ℕ) × (n : ℕ) × (from : C) × (v ≡ u ++ n ∷ []) × Reaches S.Step S.initials u from × S.Step from n to

  -- the last of some steps
  last_lead : (c d : C) (n : ℕ) (ns : List ℕ) → Leads S.Step c (n ∷ ns) d
      → (ms : List ℕ) × (m : ℕ) × (e : C) × (n ∷ ns ≡ ms ++ m ∷ []) × Leads S.Step c ms e × S.Step e m d
  last_lead c d n [] leads = ([], n, c, refl, refl, subst (S.Step c n) leads.2 leads.1)
  last_lead c d n (m ∷ ns) leads =
      let rest = last_lead leads.0 d m ns leads.2 in
      (n ∷ rest.0, rest.1, rest.2, ap (λ l. n ∷ l) rest.3, (leads.0, leads.1, rest.4), rest.5)

  -- the last step of a word
  pub last_step : (v : List ℕ) (to : C) → Reaches S.Step S.initials v to → 1 < length v → IsReachedByLast to v
  last_step [] to reached long = absurd reached
  last_step (i ∷ []) to reached long = absurd (omega arith)
  last_step (i ∷ n ∷ ns) to reached long =
      let split = last_lead reached.0 to n ns reached.2 in
      (i ∷ split.0, split.1, split.2, ap (λ l. i ∷ l) split.3, (reached.0, reached.1, split.4), split.5)

module _ {C : Type 0} (S : Search C) (laws : CountsOpen S) where
  module _ (keys : List C) (words : List (List ℕ)) (cut : CutOff) (level low : ℕ) (closed : IsClosedTo S keys words cut level low) where
    -- what is below this limit was not cut
    abbrev IsLimit : ℕ → Type 0
    IsLimit limit = (limit ≤ S.bound + 2) ⊎ (limit ≤ S.bound + 1 + cut.past)

    -- what fits the bound was not cut
    within_bound : IsLimit (S.bound + 2)
    within_bound = inl (omega arith)

    -- nothing was cut, or the configuration is below the limit after so many numbers
    abbrev IsKnown : ℕ → C → ℕ → Type 0
    IsKnown limit c size = (cut.any ≡ false) ⊎ (size + S.open_len c < limit)

    -- what leads to a configuration below the limit was not cut
    over_known : (limit : ℕ) → IsLimit limit → (c d : C) (size later most : ℕ) → IsKnown limit d (size + later) → most ≤ size → S.open_len c ≤ S.open_len d + later
        → (cut.any ≡ true) × (S.bound + 1 < most + S.open_len c) × (S.bound + 1 + cut.past ≤ most + S.open_len c) → ⊥
    over_known limit is_limit c d size later most known fewer along over =
        let near : S.bound + 1 < most + S.open_len c = over.1 in
        let far : S.bound + 1 + cut.past ≤ most + S.open_len c = over.2 in
        elim known [
          | inl none ↦ true≢false (sym over.0 ∙ none)
          | inr fits ↦ elim is_limit [ inl by_bound ↦ omega arith | inr by_past ↦ omega arith ]
        ]

    -- from a covered configuration on, numbers lead to a covered one, where the ranks of shorter words are expanded
    covered_along : (limit : ℕ) → IsLimit limit → (size : ℕ) → ((r : ℕ) (w : List ℕ) → slice_get words r ≡ Some w → length w < size → r < low)
        → (c d : C) (u ns : List ℕ) → IsCovered keys words c u → Leads S.Step c ns d
        → length u + length ns ≤ size → IsKnown limit d (length u + length ns) → IsCovered keys words d (u ++ ns)
    covered_along limit is_limit size early c d u [] k leads short known =
        subst (λ x. IsCovered keys words x (u ++ [])) leads (subst (λ v. IsCovered keys words c v) (sym (append-nil u)) k)
    covered_along limit is_limit size early c d u (n ∷ ns) k leads short known =
        let no_longer : length k.word ≤ length u = IsAtMost-length k.word u k.least in
        let before : k.rank < low = early k.rank k.word k.at.word (omega arith) in
        let grown : length (u ++ n ∷ []) ≡ length u + 1 = length-append u (n ∷ []) in
        elim (closed.expanded k.rank c leads.0 k.word n before k.at leads.1) [
          | inl next ↦
              let from_u : IsCovered keys words leads.0 (u ++ n ∷ []) =
              record { rank = next.rank; word = next.word; at = next.at; least = IsAtMost-trans next.word (k.word ++ n ∷ []) (u ++ n ∷ []) next.least (IsAtMost-push k.word u n k.least) } in
              let still : IsKnown limit d (length (u ++ n ∷ []) + length ns) = elim known [ inl none ↦ inl none | inr fits ↦ inr (omega arith) ] in
              subst (IsCovered keys words d) (append_assoc u (n ∷ []) ns)
              (covered_along limit is_limit size early leads.0 d (u ++ n ∷ []) ns from_u leads.2 (omega arith) still)
          | inr over ↦
              let last : length (k.word ++ n ∷ []) ≡ length k.word + 1 = length-append k.word (n ∷ []) in
              absurd (over_known limit is_limit leads.0 d (length u + 1) (length ns) (length (k.word ++ n ∷ []))
              (elim known [ inl none ↦ inl none | inr fits ↦ inr (omega arith) ]) (omega arith)
              (open_len-leads S.Step S.open_len laws.closes_one leads.0 d ns leads.2) over)
        ]

    -- so a word below the limit reaches a covered configuration
    covered_word : (limit : ℕ) → IsLimit limit → (size : ℕ) → ((r : ℕ) (w : List ℕ) → slice_get words r ≡ Some w → length w < size → r < low)
        → (v : List ℕ) (c : C) → length v ≤ size → Reaches S.Step S.initials v c → IsKnown limit c (length v) → IsCovered keys words c v
    covered_word limit is_limit size early [] c short reached known = absurd reached
    covered_word limit is_limit size early (i ∷ ns) c short reached known =
        elim (closed.started i reached.0 reached.1) [
          | inl first ↦ covered_along limit is_limit size early reached.0 c (i ∷ []) ns first reached.2 (omega arith) (elim known [ inl none ↦ inl none | inr fits ↦ inr (omega arith) ])
          | inr over ↦ absurd (over_known limit is_limit reached.0 c 1 (length ns) 1 (elim known [ inl none ↦ inl none | inr fits ↦ inr (omega arith) ]) (omega arith)
              (open_len-leads S.Step S.open_len laws.closes_one reached.0 c ns reached.2) over)
        ]

    -- the ranks of shorter words than the level's are expanded
    early_of_level : (r : ℕ) (w : List ℕ) → slice_get words r ≡ Some w → length w < level + 1 → r < low
    early_of_level r w at short =
        elim (cases_lt r low) [ inl before ↦ before | inr after ↦ absurd (omega (arith, closed.current r w after at)) ]

    -- the key lemma: what a word of the level reaches within the bound is covered
    pub complete : IsCompleteBelow S keys words (level + 2)
    complete v c short reached fits = covered_word (S.bound + 2) within_bound (level + 1) early_of_level v c (omega arith) reached (inr (omega arith))

    -- no word of at most the level's steps finishes within the bound
    pub none_to_level : (v : List ℕ) → length v ≤ level + 1 → length v ≤ S.bound + 1 → Finishes S.Step S.IsDone S.initials v → ⊥
    none_to_level v short within finish =
        let closes : S.open_len finish.0 ≡ 0 = laws.done_closed finish.0 finish.2 in
        let k : IsCovered keys words finish.0 v = complete v finish.0 (omega arith) finish.1 (omega arith) in
        closed.kept.unfinished k.rank finish.0 k.at.key finish.2

    -- the first place of the level with a done successor, by its least number, gives the least finishing word
    module _ (p n : ℕ) (c d : C) (w : List ℕ) (of_level : low ≤ p) (at : IsAt keys words p c w) (step : S.Step c n d) (done : S.IsDone d)
        (first_place : (q m : ℕ) (e f : C) → low ≤ q → q < p → slice_get keys q ≡ Some e → S.Step e m f → S.IsDone f → ⊥)
        (first_number : (m : ℕ) (f : C) → m < n → S.Step c m f → S.IsDone f → ⊥) where
      -- it finishes
      pub found_finishes : Finishes S.Step S.IsDone S.initials (w ++ n ∷ [])
      found_finishes = (d, Reaches-push S.Step S.initials c d w n (closed.kept.reached p c w at) step, done)

      -- it has as many numbers as the words of the next level
      pub found_length : length (w ++ n ∷ []) ≡ level + 2
      found_length = omega (arith, length-append w (n ∷ []), closed.current p w of_level at.word)

      -- no word through a later place comes before it
      not_later : (u : List ℕ) (m : ℕ) (e f : C) → S.Step e m f → S.IsDone f → (k : IsCovered keys words e u) → p ≤ k.rank
          → Precedes (u ++ m ∷ []) (w ++ n ∷ []) → ⊥
      not_later u m e f last finish k later before =
          let as_much : IsAtMost (k.word ++ m ∷ []) (u ++ m ∷ []) = IsAtMost-push k.word u m k.least in
          elim (cases_lt p k.rank) [
            | inl past ↦
                let after : Precedes (w ++ n ∷ []) (k.word ++ m ∷ []) = Precedes-push w k.word n m (closed.kept.ascending p k.rank w k.word past at.word k.at.word) in
                IsAtMost-not_before (w ++ n ∷ []) (u ++ m ∷ []) (IsAtMost-trans (w ++ n ∷ []) (k.word ++ m ∷ []) (u ++ m ∷ []) (inr after) as_much) before
            | inr here ↦
                let same : p ≡ k.rank = omega arith in
                let same_key : c ≡ e = same_Some c e (sym at.key ∙ ap (slice_get keys) same ∙ k.at.key) in
                let same_word : w ≡ k.word = same_Some w k.word (sym at.word ∙ ap (slice_get words) same ∙ k.at.word) in
                elim (cases_lt m n) [
                  | inl lower ↦ first_number m f lower (subst (λ x. S.Step x m f) (sym same_key) last) finish
                  | inr higher ↦
                      let own : IsAtMost (w ++ n ∷ []) (w ++ m ∷ []) = elim (cases_lt n m) [ inl less ↦ inr (Precedes-last w n m less) | inr no_less ↦ (let e : n ≡ m = omega arith in inl (ap (λ x. w ++ x ∷ []) e)) ] in
                      IsAtMost-not_before (w ++ n ∷ []) (u ++ m ∷ []) (IsAtMost-trans (w ++ n ∷ []) (w ++ m ∷ []) (u ++ m ∷ []) own (subst (λ x. IsAtMost (x ++ m ∷ []) (u ++ m ∷ [])) (sym same_word) as_much)) before
                ]
          ]

      -- the same, against a word that ends in the number m
      not_before : (u : List ℕ) (m : ℕ) (e f : C) → Reaches S.Step S.initials u e → S.Step e m f → S.IsDone f → length u ≡ level + 1 → level < S.bound
          → Precedes (u ++ m ∷ []) (w ++ n ∷ []) → ⊥
      not_before u m e f reached last finish long within before =
          let closes : S.open_len f ≡ 0 = laws.done_closed f finish in
          let one : S.open_len e ≤ S.open_len f + 1 = laws.closes_one e f m last in
          let k : IsCovered keys words e u = complete u e (omega arith) reached (omega arith) in
          elim (cases_lt k.rank low) [
            | inl old ↦
                let short : length k.word ≤ level = closed.older k.rank k.word old k.at.word in
                elim (closed.expanded k.rank e f k.word m old k.at last) [
                  | inl there ↦ closed.kept.unfinished there.rank f there.at.key finish
                  | inr over ↦ (let past : S.bound + 1 < length (k.word ++ m ∷ []) + S.open_len f = over.1 in
                      let grown : length (k.word ++ m ∷ []) ≡ length k.word + 1 = length-append k.word (m ∷ []) in omega arith)
                ]
            | inr new ↦
                elim (cases_lt k.rank p) [
                  | inl earlier ↦ first_place k.rank m e f new earlier k.at.key last finish
                  | inr later ↦ not_later u m e f last finish k later before
                ]
          ]

      -- no finishing word comes before it
      pub found_least : (v : List ℕ) → level < S.bound → Finishes S.Step S.IsDone S.initials v → Precedes v (w ++ n ∷ []) → ⊥
      found_least v within finish before =
          let size : length (w ++ n ∷ []) ≡ level + 2 = found_length in
          let no_longer : length v ≤ length (w ++ n ∷ []) = IsAtMost-length v (w ++ n ∷ []) (inr before) in
          elim (cases_lt (length v) (level + 2)) [
            | inl short ↦ none_to_level v (omega arith) (omega arith) finish
            | inr long ↦
                let split : IsReachedByLast S finish.0 v = last_step S v finish.0 finish.1 (omega arith) in
                let grown : length v ≡ length split.0 + 1 = ap length split.3 ∙ length-append split.0 (split.1 ∷ []) in
                not_before split.0 split.1 split.2 finish.0 split.4 split.5 finish.2 (omega arith) within
                (subst (λ x. Precedes x (w ++ n ∷ [])) split.3 before)
          ]

    -- where the level is past the bound, its configurations have no step left
    pub close_last : S.bound ≤ level → IsClosedTo S keys words cut (level + 1) (length keys)
    close_last past = record {
      kept = closed.kept;
      low_within = omega arith;
      older = λ r w h at. elim (cases_lt r low) [ inl old ↦ (let short : length w ≤ level = closed.older r w old at in omega arith) | inr new ↦ (let long : length w ≡ level + 1 = closed.current r w new at in omega arith) ];
      current = λ r w h at. (let inside : r < length words = slice_get_within words r w at in let many : length words ≡ length keys = closed.kept.as_many in absurd (omega arith));
      started = closed.started;
      expanded = λ r c d w n h at step. elim (cases_lt r low) [
        | inl old ↦ closed.expanded r c d w n old at step
        | inr new ↦
            let long : length w ≡ level + 1 = closed.current r w new at.word in
            let fits : length w + S.open_len c ≤ S.bound + 1 = closed.kept.fits r c w at in
            let wants : 0 < S.open_len c = laws.wants_open c d n step in
            absurd (omega arith)
      ];
      met = closed.met;
    }

    -- all ranks are expanded
    module _ (all : low ≡ length keys) where
      -- each rank is expanded
      early_of_all : (size : ℕ) (r : ℕ) (w : List ℕ) → slice_get words r ≡ Some w → length w < size → r < low
      early_of_all size r w at short =
          let inside : r < length words = slice_get_within words r w at in
          let many : length words ≡ length keys = closed.kept.as_many in
          omega arith

      -- whatever is reached below the limit is covered
      covered_of_all : (limit : ℕ) → IsLimit limit → (v : List ℕ) (c : C) → Reaches S.Step S.initials v c → IsKnown limit c (length v) → IsCovered keys words c v
      covered_of_all limit is_limit v c reached known = covered_word limit is_limit (length v) (early_of_all (length v)) v c (omega arith) reached known

      -- what is left with a word below the bound, or below what was cut, is covered
      pub covered_below : (v : List ℕ) (c : C) → Reaches S.Step S.initials v c
          → (length v + S.open_len c < S.bound + 2) ⊎ (length v + S.open_len c < S.bound + 1 + cut.past) → IsCovered keys words c v
      covered_below v c reached (inl near) = covered_of_all (S.bound + 2) within_bound v c reached (inr near)
      covered_below v c reached (inr far) = covered_of_all (S.bound + 1 + cut.past) (inr (omega arith)) v c reached (inr far)

      -- no word finishes before what was cut
      pub none_before : (v : List ℕ) → length v ≤ S.bound + cut.past → Finishes S.Step S.IsDone S.initials v → ⊥
      none_before v within finish =
          let closes : S.open_len finish.0 ≡ 0 = laws.done_closed finish.0 finish.2 in
          let k : IsCovered keys words finish.0 v = covered_of_all (S.bound + 1 + cut.past) (inr (omega arith)) v finish.0 finish.1 (inr (omega arith)) in
          closed.kept.unfinished k.rank finish.0 k.at.key finish.2

      -- no word finishes within the bound
      pub none_within : (v : List ℕ) → length v ≤ S.bound + 1 → Finishes S.Step S.IsDone S.initials v → ⊥
      none_within v within finish =
          let closes : S.open_len finish.0 ≡ 0 = laws.done_closed finish.0 finish.2 in
          let k : IsCovered keys words finish.0 v = covered_of_all (S.bound + 2) within_bound v finish.0 finish.1 (inr (omega arith)) in
          closed.kept.unfinished k.rank finish.0 k.at.key finish.2

      -- where nothing was cut, no word finishes
      pub never : cut.any ≡ false → (v : List ℕ) → Finishes S.Step S.IsDone S.initials v → ⊥
      never none v finish =
          let k : IsCovered keys words finish.0 v = covered_of_all (S.bound + 2) within_bound v finish.0 finish.1 (inl none) in
          closed.kept.unfinished k.rank finish.0 k.at.key finish.2

      -- and the bound was never met
      pub never_met : cut.any ≡ false → MeetsBound S.Step S.open_len S.initials S.bound → ⊥
      never_met none met =
          let k : IsCovered keys words met.1 met.0 = covered_of_all (S.bound + 2) within_bound met.0 met.1 met.2 (inl none) in
          let reached : Reaches S.Step S.initials k.word met.1 = closed.kept.reached k.rank met.1 k.word k.at in
          let steps : step_count k.word + 1 ≡ length k.word = step_count-reached S.Step S.initials met.1 k.word reached in
          let past : S.bound < step_count k.word + S.open_len met.1 = met.3 k.word reached in
          let fits : length k.word + S.open_len met.1 ≤ S.bound + 1 = closed.kept.fits k.rank met.1 k.word k.at in
          omega arith
