-- Successors that are offered to the closed list in the order of their words.
use Rattle.std.proofs.Common.{◌≡◌, ℕ, suc, zero, ◌+◌, ◌-◌, ◌<◌, ◌≤◌, ◌⊎◌, Bool, true, false, true≢false, if◌then◌else◌, List, [], ◌∷◌, ◌++◌, length, refl, sym, ap, subst, ◌∙◌, inl, inr, arith, slice_get, Some, get_or, append_assoc, length-append}
use Rattle.std.specs.Prelude.{nat_le}
use Rattle.std.proofs.Math.Nat.{min-le_left, min-le_right}
use Rattle.std.proofs.lemmas.Bool.Decides.{leb_tells}
use Rattle.std.proofs.lemmas.Bool.{cases_lt}
use Rattle.std.proofs.lemmas.List.{append-nil, get_or_append_left}
use Rattle.std.proofs.lemmas.List.Sums.{fold-append}
use Rattle.std.proofs.lemmas.Option.{none-some, same_Some, slice_get_within, slice_get-get_or}
use Rattle.word_machine.specs.declared.closed.Origin.{Origin}
use Rattle.word_machine.specs.declared.closed.Origin.TheVariants.{Initial, Step as Stepped}
use Rattle.word_machine.specs.declared.closed.Successor.{Successor}
use Rattle.word_machine.specs.Words.{Precedes, Reaches, MeetsBound, step_count}
use Rattle.word_machine.specs.Contents.{Contents, CutOff, cut_more, IsOffered, AreOffered, word_of, words_of, IsForest, IsOriginWithin}
use Rattle.word_machine.specs.Closed.{Search, IsAt, IsCovered, FitsBound, IsAccounted, IsKept, IsCompleteBelow, IsCandidate, IsBatch}
use Rattle.word_machine.proofs.Places.{slice_get-append_left, slice_get-append_right, slice_get-append_cases, slice_get-pushed}
use Rattle.word_machine.proofs.Order.{step_count-reached}

-- the words, with one origin more
pub words_of-push : (origins : List Origin) (origin : Origin) → words_of (origins ++ origin ∷ []) ≡ words_of origins ++ word_of (words_of origins) origin ∷ []
words_of-push origins origin = fold-append (λ words origin. words ++ word_of words origin ∷ []) [] origins (origin ∷ [])

-- an origin within some ranks is within more
pub IsOriginWithin-more : (m n : ℕ) (origin : Origin) → m ≤ n → IsOriginWithin m origin → IsOriginWithin n origin
IsOriginWithin-more m n (Initial number) more within = tt
IsOriginWithin-more m n (Stepped parent number) more within = omega arith

-- the word of an origin stays, whatever ranks are added
pub word_of-append : (words more : List (List ℕ)) (origin : Origin) → IsOriginWithin (length words) origin → word_of (words ++ more) origin ≡ word_of words origin
word_of-append words more (Initial number) within = refl
word_of-append words more (Stepped parent number) within = ap (λ w. w ++ number ∷ []) (get_or_append_left words more [] parent within)

-- what stands in a list of one
pub only : {X : Type 0} (x y : X) (i : ℕ) → slice_get (x ∷ []) i ≡ Some y → y ≡ x
only x y zero at = sym (same_Some x y at)
only x y (suc i) at = absurd (none-some y at)

-- one origin more, whose parent stands before it
pub IsForest-push : (origins : List Origin) (o : Origin) → IsForest origins → IsOriginWithin (length origins) o → IsForest (origins ++ o ∷ [])
IsForest-push origins o forest within rank parent number at =
    elim (slice_get-append_cases origins (o ∷ []) rank (Stepped parent number) at) [
      | inl before ↦ forest rank parent number before
      | inr last ↦
          let own : parent < length origins = subst (IsOriginWithin (length origins)) (sym (only o (Stepped parent number) last.0 last.2)) within in
          let place : rank ≡ length origins + last.0 = last.1 in
          omega arith
    ]

module _ {C : Type 0} where
  -- what stands at a rank stays there
  pub IsAt-append : (keys ks : List C) (words ws : List (List ℕ)) (r : ℕ) (c : C) (w : List ℕ) → IsAt keys words r c w → IsAt (keys ++ ks) (words ++ ws) r c w
  IsAt-append keys ks words ws r c w at = record { key = slice_get-append_left keys ks r c at.key; word = slice_get-append_left words ws r w at.word }

  -- what is covered stays so
  pub IsCovered-append : (keys ks : List C) (words ws : List (List ℕ)) (c : C) (v : List ℕ) → IsCovered keys words c v → IsCovered (keys ++ ks) (words ++ ws) c v
  IsCovered-append keys ks words ws c v k = record { rank = k.rank; word = k.word; at = IsAt-append keys ks words ws k.rank c k.word k.at; least = k.least }

  -- a place in lists that were pushed to is one of before, or the last
  IsAt-push_cases : (keys : List C) (words : List (List ℕ)) (k : C) (v : List ℕ) (r : ℕ) (c : C) (w : List ℕ) → length words ≡ length keys
      → IsAt (keys ++ k ∷ []) (words ++ v ∷ []) r c w → IsAt keys words r c w ⊎ ((c ≡ k) × (w ≡ v))
  IsAt-push_cases keys words k v r c w many at =
      elim (slice_get-append_cases keys (k ∷ []) r c at.key) [
        | inl key ↦ elim (slice_get-append_cases words (v ∷ []) r w at.word) [
          | inl word ↦ inl (record { key = key; word = word })
          | inr last ↦ (let e : r ≡ length words + last.0 = last.1 in let b : r < length keys = slice_get_within keys r c key in absurd (omega arith))
        ]
        | inr last ↦ elim (slice_get-append_cases words (v ∷ []) r w at.word) [
          | inl word ↦ (let e : r ≡ length keys + last.0 = last.1 in let b : r < length words = slice_get_within words r w word in absurd (omega arith))
          | inr last' ↦ inr (only k c last.0 last.2, only v w last'.0 last'.2)
        ]
      ]

  module _ (S : Search C) where
    -- what is accounted for stays so
    pub IsAccounted-append : (keys ks : List C) (words ws : List (List ℕ)) (cut cut' : CutOff) (c : C) (v : List ℕ) → (cut.any ≡ true → cut'.any ≡ true) → cut'.past ≤ cut.past
        → IsAccounted S keys words cut c v → IsAccounted S (keys ++ ks) (words ++ ws) cut' c v
    IsAccounted-append keys ks words ws cut cut' c v stays falls known =
        elim known [ inl k ↦ inl (IsCovered-append keys ks words ws c v k) | inr over ↦ inr (stays over.0, over.1, (let past : S.bound + 1 + cut.past ≤ length v + S.open_len c = over.2 in omega arith)) ]

    -- one more configuration with a later word
    IsKept-push : (keys : List C) (words : List (List ℕ)) (c : C) (w : List ℕ) → IsKept S keys words → Reaches S.Step S.initials w c → FitsBound S c w
        → (S.IsDone c → ⊥) → ((r : ℕ) (v : List ℕ) → slice_get words r ≡ Some v → Precedes v w) → IsKept S (keys ++ c ∷ []) (words ++ w ∷ [])
    IsKept-push keys words c w kept reached fits unfinished precedes = record {
      as_many = (let many : length words ≡ length keys = kept.as_many in omega (arith, length-append words (w ∷ []), length-append keys (c ∷ [])));
      reached = λ r d v at. elim (IsAt-push_cases keys words c w r d v kept.as_many at) [
        | inl old ↦ kept.reached r d v old
        | inr new ↦ subst (λ x. Reaches S.Step S.initials v x) (sym new.0) (subst (λ x. Reaches S.Step S.initials x c) (sym new.1) reached)
      ];
      fits = λ r d v at. elim (IsAt-push_cases keys words c w r d v kept.as_many at) [
        | inl old ↦ kept.fits r d v old
        | inr new ↦ subst (λ x. FitsBound S x v) (sym new.0) (subst (λ x. FitsBound S c x) (sym new.1) fits)
      ];
      unfinished = λ r d at. elim (slice_get-append_cases keys (c ∷ []) r d at) [
        | inl old ↦ kept.unfinished r d old
        | inr new ↦ (λ done. unfinished (subst S.IsDone (only c d new.0 new.2) done))
      ];
      ascending = λ r q v u less at other. elim (slice_get-append_cases words (w ∷ []) q u other) [
        | inl old ↦ elim (slice_get-append_cases words (w ∷ []) r v at) [
          | inl old' ↦ kept.ascending r q v u less old' old
          | inr new ↦ (let e : r ≡ length words + new.0 = new.1 in let b : q < length words = slice_get_within words q u old in absurd (omega arith))
        ]
        | inr new ↦ elim (slice_get-append_cases words (w ∷ []) r v at) [
          | inl old' ↦ subst (Precedes v) (sym (only w u new.0 new.2)) (precedes r v old')
          | inr new' ↦ (let e : r ≡ length words + new'.0 = new'.1 in let f : q ≡ length words + new.0 = new.1 in
              let b : q < length (words ++ w ∷ []) = slice_get_within (words ++ w ∷ []) q u other in let l : length (words ++ w ∷ []) ≡ length words + 1 = length-append words (w ∷ []) in absurd (omega arith))
        ]
      ];
    }

  -- what the list holds once the successors so far were offered to what it held before
  module _ (S : Search C) (old : Contents C) where
    -- those of `done` were offered to the old list, and this is what came of it
    pub record IsMerged (done : List (Successor C)) (new : Contents C) : Type 0 where
      pub kept : IsKept S new.keys (words_of new.origins)
      pub more_keys : List C
      pub keys_are : new.keys ≡ old.keys ++ more_keys
      pub more_words : List (List ℕ)
      pub words_are : words_of new.origins ≡ words_of old.origins ++ more_words
      pub from_batch : (r : ℕ) (w : List ℕ) → slice_get more_words r ≡ Some w
          → (i : ℕ) × (s : Successor C) × (slice_get done i ≡ Some s) × (w ≡ word_of (words_of old.origins) s.origin)
      pub accounted : (i : ℕ) (s : Successor C) → slice_get done i ≡ Some s
          → IsAccounted S new.keys (words_of new.origins) new.cut s.configuration (word_of (words_of old.origins) s.origin)
      pub cut_stays : old.cut.any ≡ true → new.cut.any ≡ true
      pub past_falls : new.cut.past ≤ old.cut.past
      pub met : new.cut.any ≡ true → MeetsBound S.Step S.open_len S.initials S.bound

    -- nothing was offered yet
    pub IsMerged-none : IsKept S old.keys (words_of old.origins) → (old.cut.any ≡ true → MeetsBound S.Step S.open_len S.initials S.bound) → IsMerged [] old
    IsMerged-none kept met = record {
      kept = kept;
      more_keys = [];
      keys_are = sym (append-nil old.keys);
      more_words = [];
      words_are = sym (append-nil (words_of old.origins));
      from_batch = λ r w at. absurd (none-some w at);
      accounted = λ i s at. absurd (none-some s at);
      cut_stays = λ cut. cut;
      past_falls = omega arith;
      met = met;
    }

    module _ (size room : ℕ) (room_is : size + room ≡ S.bound + 1)
        (older : (r : ℕ) (w : List ℕ) → slice_get (words_of old.origins) r ≡ Some w → length w < size)
        (complete : IsCompleteBelow S old.keys (words_of old.origins) size) where
      module _ (done : List (Successor C)) (s : Successor C) (rest : List (Successor C)) (new : Contents C)
          (batch : IsBatch S (words_of old.origins) size (done ++ s ∷ rest)) (merged : IsMerged done new) where
        -- the successor's word
        abbrev own_word : List ℕ
        own_word = word_of (words_of old.origins) s.origin

        -- the successor is the next of the batch
        next : IsCandidate S (words_of old.origins) size s
        next = batch.each (length done + 0) s (slice_get-append_right done (s ∷ rest) 0)

        -- each word that is there comes before the successor's
        precedes : (r : ℕ) (w : List ℕ) → slice_get (words_of new.origins) r ≡ Some w → Precedes w own_word
        precedes r w at =
            let long : length own_word ≡ size = next.long in
            elim (slice_get-append_cases (words_of old.origins) merged.more_words r w (ap (λ l. slice_get l r) (sym merged.words_are) ∙ at)) [
              | inl before ↦ inl (let short : length w < size = older r w before in omega arith)
              | inr added ↦
                  let from = merged.from_batch added.0 w added.2 in
                  let early : from.0 < length done = slice_get_within done from.0 from.1 from.2 in
                  subst (λ v. Precedes v own_word) (sym from.3)
                  (batch.ascending from.0 (length done + 0) from.1 s (omega arith) (slice_get-append_left done (s ∷ rest) from.0 from.1 from.2) (slice_get-append_right done (s ∷ rest) 0))
            ]

        -- what holds of the successors so far, and of this one
        accounted_so_far : (P : C → List ℕ → Type 0) → ((i : ℕ) (t : Successor C) → slice_get done i ≡ Some t → P t.configuration (word_of (words_of old.origins) t.origin))
            → P s.configuration own_word
            → (i : ℕ) (t : Successor C) → slice_get (done ++ s ∷ []) i ≡ Some t → P t.configuration (word_of (words_of old.origins) t.origin)
        accounted_so_far P before own i t at =
            elim (slice_get-append_cases done (s ∷ []) i t at) [ inl earlier ↦ before i t earlier | inr last ↦ last_is last.0 last.2 ]
          where
            last_is : (j : ℕ) → slice_get (s ∷ []) j ≡ Some t → P t.configuration (word_of (words_of old.origins) t.origin)
            last_is zero here = subst (λ (u : Successor C). P u.configuration (word_of (words_of old.origins) u.origin)) (same_Some s t here) own
            last_is (suc j) here = absurd (none-some t here)

        -- each new word is that of one of those so far
        still_from_batch : (r : ℕ) (w : List ℕ) → slice_get merged.more_words r ≡ Some w
            → (i : ℕ) × (t : Successor C) × (slice_get (done ++ s ∷ []) i ≡ Some t) × (w ≡ word_of (words_of old.origins) t.origin)
        still_from_batch r w at = let from = merged.from_batch r w at in (from.0, from.1, slice_get-append_left done (s ∷ []) from.0 from.1 from.2, from.3)

        -- one that is there
        offered_known : (r : ℕ) → slice_get new.keys r ≡ Some s.configuration → IsMerged (done ++ s ∷ []) new
        offered_known r there =
            let words = words_of new.origins in
            let many : length words ≡ length new.keys = merged.kept.as_many in
            let inside : r < length new.keys = slice_get_within new.keys r s.configuration there in
            let word : slice_get words r ≡ Some (get_or words r []) = slice_get-get_or words r [] (omega arith) in
            let covered : IsCovered new.keys words s.configuration own_word =
            record { rank = r; word = get_or words r []; at = record { key = there; word = word }; least = inr (precedes r (get_or words r []) word) } in
            record {
              kept = merged.kept;
              more_keys = merged.more_keys;
              keys_are = merged.keys_are;
              more_words = merged.more_words;
              words_are = merged.words_are;
              from_batch = still_from_batch;
              accounted = accounted_so_far (IsAccounted S new.keys words new.cut) merged.accounted (inl covered);
              cut_stays = merged.cut_stays;
              past_falls = merged.past_falls;
              met = merged.met;
            }

        -- one that is past the bound as far as one that was cut
        offered_far : new.cut.any ≡ true → room < S.open_len s.configuration → new.cut.past ≤ S.open_len s.configuration - room → IsMerged (done ++ s ∷ []) new
        offered_far cut over far =
            let long : length own_word ≡ size = next.long in
            record {
              kept = merged.kept;
              more_keys = merged.more_keys;
              keys_are = merged.keys_are;
              more_words = merged.more_words;
              words_are = merged.words_are;
              from_batch = still_from_batch;
              accounted = accounted_so_far (IsAccounted S new.keys (words_of new.origins) new.cut) merged.accounted (inr (cut, omega arith, omega arith));
              cut_stays = merged.cut_stays;
              past_falls = merged.past_falls;
              met = merged.met;
            }

        -- one that is past the bound
        offered_past : ((r : ℕ) → slice_get new.keys r ≡ Some s.configuration → ⊥) → room < S.open_len s.configuration
            → IsMerged (done ++ s ∷ []) (record { keys = new.keys; origins = new.origins; cut = cut_more new.cut (S.open_len s.configuration - room) })
        offered_past absent over =
            let past : S.bound + 1 < size + S.open_len s.configuration = omega arith in
            let cut = cut_more new.cut (S.open_len s.configuration - room) in
            let left_less : cut.past ≤ new.cut.past = min-le_left new.cut.past (S.open_len s.configuration - room) in
            let right_less : cut.past ≤ S.open_len s.configuration - room = min-le_right new.cut.past (S.open_len s.configuration - room) in
            let words = words_of new.origins in
            let long : length own_word ≡ size = next.long in
            record {
              kept = merged.kept;
              more_keys = merged.more_keys;
              keys_are = merged.keys_are;
              more_words = merged.more_words;
              words_are = merged.words_are;
              from_batch = still_from_batch;
              accounted = accounted_so_far (IsAccounted S new.keys words cut)
                  (λ i t at. elim (merged.accounted i t at) [
                    | inl k ↦ inl k
                    | inr over ↦ inr (refl, over.1, (let far : S.bound + 1 + new.cut.past ≤ length (word_of (words_of old.origins) t.origin) + S.open_len t.configuration = over.2 in omega arith))
                  ])
                  (inr (refl, omega arith, omega arith));
              cut_stays = λ cut. refl;
              past_falls = (let falls : new.cut.past ≤ old.cut.past = merged.past_falls in omega arith);
              met = λ cut. (
                own_word,
                s.configuration,
                next.reached,
                λ other reached. (
                    let steps : step_count other + 1 ≡ length other = step_count-reached S.Step S.initials s.configuration other reached in
                    elim (cases_lt S.bound (step_count other + S.open_len s.configuration)) [
                      | inl over ↦ over
                      | inr fits ↦
                          let k : IsCovered old.keys (words_of old.origins) s.configuration other = complete other s.configuration (omega arith) reached (omega arith) in
                          absurd (absent k.rank (ap (λ l. slice_get l k.rank) merged.keys_are ∙ slice_get-append_left old.keys merged.more_keys k.rank s.configuration k.at.key))
                    ]),
              );
            }

        -- one that is new, and fits
        offered_new : ((r : ℕ) → slice_get new.keys r ≡ Some s.configuration → ⊥) → size + S.open_len s.configuration ≤ S.bound + 1
            → IsMerged (done ++ s ∷ []) (record { keys = new.keys ++ s.configuration ∷ []; origins = new.origins ++ s.origin ∷ []; cut = new.cut })
        offered_new absent fits =
            let words = words_of new.origins in
            let long : length own_word ≡ size = next.long in
            let word_is : word_of words s.origin ≡ own_word =
            ap (λ l. word_of l s.origin) merged.words_are ∙ word_of-append (words_of old.origins) merged.more_words s.origin next.within in
            let pushed : words_of (new.origins ++ s.origin ∷ []) ≡ words ++ own_word ∷ [] = words_of-push new.origins s.origin ∙ ap (λ w. words ++ w ∷ []) word_is in
            let keys' : List C = new.keys ++ s.configuration ∷ [] in
            let many : length words ≡ length new.keys = merged.kept.as_many in
            let last : slice_get (words ++ own_word ∷ []) (length new.keys) ≡ Some own_word = ap (slice_get (words ++ own_word ∷ [])) (sym many) ∙ slice_get-pushed words own_word in
            let covered : IsCovered keys' (words ++ own_word ∷ []) s.configuration own_word =
            record { rank = length new.keys; word = own_word; at = record { key = slice_get-pushed new.keys s.configuration; word = last }; least = inl refl } in
            record {
              kept = subst (IsKept S keys') (sym pushed) (IsKept-push S new.keys words s.configuration own_word merged.kept next.reached (omega arith) next.unfinished precedes);
              more_keys = merged.more_keys ++ s.configuration ∷ [];
              keys_are = ap (λ l. l ++ s.configuration ∷ []) merged.keys_are ∙ append_assoc old.keys merged.more_keys (s.configuration ∷ []);
              more_words = merged.more_words ++ own_word ∷ [];
              words_are = pushed ∙ ap (λ l. l ++ own_word ∷ []) merged.words_are ∙ append_assoc (words_of old.origins) merged.more_words (own_word ∷ []);
              from_batch = λ r w at. elim (slice_get-append_cases merged.more_words (own_word ∷ []) r w at) [
                | inl before ↦ still_from_batch r w before
                | inr added ↦ (length done + 0, s, slice_get-append_right done (s ∷ []) 0, only own_word w added.0 added.2)
              ];
              accounted = subst (λ l. (i : ℕ) (t : Successor C) → slice_get (done ++ s ∷ []) i ≡ Some t → IsAccounted S keys' l new.cut t.configuration (word_of (words_of old.origins) t.origin)) (sym pushed)
                  (accounted_so_far (IsAccounted S keys' (words ++ own_word ∷ []) new.cut)
                  (λ i t at. IsAccounted-append S new.keys (s.configuration ∷ []) words (own_word ∷ []) new.cut new.cut t.configuration (word_of (words_of old.origins) t.origin) (λ cut. cut) (omega arith) (merged.accounted i t at))
                  (inl covered));
              cut_stays = merged.cut_stays;
              past_falls = merged.past_falls;
              met = merged.met;
            }

        -- whichever it is, what is said holds of one successor more
        pub IsMerged-offer : (after : Contents C) → IsOffered new s (S.open_len s.configuration) room after → IsMerged (done ++ s ∷ []) after
        IsMerged-offer after offered =
            elim offered [
              | inl there ↦ subst (IsMerged (done ++ s ∷ [])) (sym there.2) (offered_known there.0 there.1)
              | inr other ↦ elim other [
                | inl absent ↦ subst (IsMerged (done ++ s ∷ [])) (sym absent.1)
                    (by (nat_le (S.open_len s.configuration) room) (leb_tells (S.open_len s.configuration) room) absent.0)
                | inr far ↦ subst (IsMerged (done ++ s ∷ [])) (sym far.3) (offered_far far.0 far.1 far.2)
              ]
            ]
          where
            by : (fits : Bool) → ((fits ≡ true) × (S.open_len s.configuration ≤ room)) ⊎ ((fits ≡ false) × (room < S.open_len s.configuration))
                → ((r : ℕ) → slice_get new.keys r ≡ Some s.configuration → ⊥)
                → IsMerged (done ++ s ∷ []) (if fits then record { keys = new.keys ++ s.configuration ∷ []; origins = new.origins ++ s.origin ∷ []; cut = new.cut }
                else record { keys = new.keys; origins = new.origins; cut = cut_more new.cut (S.open_len s.configuration - room) })
            by true (inl tells) absent = offered_new absent (let e : S.open_len s.configuration ≤ room = tells.1 in omega arith)
            by true (inr tells) absent = absurd (true≢false tells.0)
            by false (inl tells) absent = absurd (true≢false (sym tells.0))
            by false (inr tells) absent = offered_past absent tells.1

      -- and so of the whole batch
      merged_all : (done rest : List (Successor C)) (new after : Contents C) → IsBatch S (words_of old.origins) size (done ++ rest) → IsMerged done new
          → AreOffered S.open_len room new rest after → IsMerged (done ++ rest) after
      merged_all done [] new after batch merged offered = subst (λ l. IsMerged l after) (sym (append-nil done)) (subst (IsMerged done) (sym offered) merged)
      merged_all done (s ∷ rest) new after batch merged offered =
          let joined : (done ++ s ∷ []) ++ rest ≡ done ++ s ∷ rest = append_assoc done (s ∷ []) rest in
          subst (λ l. IsMerged l after) joined
          (merged_all (done ++ s ∷ []) rest offered.0 after
          (subst (IsBatch S (words_of old.origins) size) (sym joined) batch) (IsMerged-offer done s rest new batch merged offered.0 offered.1) offered.2)

      -- a batch that was offered is merged
      pub merges : (batch : List (Successor C)) (new : Contents C) → IsBatch S (words_of old.origins) size batch
          → IsKept S old.keys (words_of old.origins) → (old.cut.any ≡ true → MeetsBound S.Step S.open_len S.initials S.bound)
          → AreOffered S.open_len room old batch new → IsMerged batch new
      merges batch new is_batch kept met offered = merged_all [] batch old new is_batch (IsMerged-none kept met) offered
