-- From one level to the next, and the level of the initial configurations.
use Rattle.std.proofs.Common.{◌≡◌, ℕ, suc, zero, ◌+◌, ◌<◌, ◌≤◌, ◌⊎◌, true, false, List, [], ◌∷◌, ◌++◌, length, refl, sym, ap, subst, ◌∙◌, inl, inr, arith, slice_get, Some, get_or, length-append, All, map}
use Rattle.std.proofs.lemmas.List.Elements.{All-cons, All-head, All-tail}
use Rattle.std.proofs.lemmas.Bool.{cases_lt}
use Rattle.std.proofs.lemmas.Option.{none-some, same_Some, slice_get_within, slice_get-get_or, get_or_from_slice_get}
use Rattle.word_machine.specs.declared.closed.Origin.{Origin}
use Rattle.word_machine.specs.declared.closed.Origin.TheVariants.{Initial, Step as Stepped}
use Rattle.word_machine.specs.declared.closed.Successor.{Successor}
use Rattle.word_machine.specs.Words.{Precedes, Reaches}
use Rattle.word_machine.specs.Contents.{Contents, initial_successors, word_of, words_of, IsOriginWithin}
use Rattle.word_machine.specs.Meaning.{successor_at}
use Rattle.word_machine.specs.Closed.{Search, IsAt, IsAccounted, IsClosedTo, IsCandidate, IsBatch}
use Rattle.word_machine.specs.Expansion.{IsEarlier, IsExpansion}
use Rattle.word_machine.proofs.Places.{slice_get-append_cases}
use Rattle.word_machine.proofs.Order.{Precedes-push, Precedes-last, Reaches-push}
use Rattle.word_machine.proofs.Merging.{IsMerged, IsAccounted-append}

-- a successor at this level is past the bound, by as much as the least that was cut off
abbrev pub IsPast : {C : Type 0} → Search C → Contents C → ℕ → C → Type 0
IsPast S old level d = (old.cut.any ≡ true) × (S.bound + 1 < (level + 2) + S.open_len d) × (S.bound + 1 + old.cut.past ≤ (level + 2) + S.open_len d)

module _ {C : Type 0} (S : Search C) (old : Contents C) (level low : ℕ) (closed : IsClosedTo S old.keys (words_of old.origins) old.cut level low) where
  -- what stands at a rank, with its word
  pub word_at : (p : ℕ) (c : C) → slice_get old.keys p ≡ Some c → IsAt old.keys (words_of old.origins) p c (get_or (words_of old.origins) p [])
  word_at p c at =
      let many : length (words_of old.origins) ≡ length old.keys = closed.kept.as_many in
      let inside : p < length old.keys = slice_get_within old.keys p c at in
      record { key = at; word = slice_get-get_or (words_of old.origins) p [] (omega arith) }

  -- each word is shorter than those of the next level
  pub older_than_next : (r : ℕ) (w : List ℕ) → slice_get (words_of old.origins) r ≡ Some w → length w < level + 2
  older_than_next r w at =
      elim (cases_lt r low) [
        | inl before ↦ (let short : length w ≤ level = closed.older r w before at in omega arith)
        | inr after ↦ (let long : length w ≡ level + 1 = closed.current r w after at in omega arith)
      ]

  module _ (beyond : C → Type 0) (past : (d : C) → beyond d → IsPast S old level d) (successors : List (Successor C))
      (expanded : IsExpansion S.Step S.IsDone beyond old.keys low (length old.keys) successors) where
    -- each successor is one for the next level
    candidate : (i : ℕ) (s : Successor C) → slice_get successors i ≡ Some s → IsCandidate S (words_of old.origins) (level + 2) s
    candidate i s at =
        let e = expanded.each i s at in
        let p = e.0 in
        let n = e.1 in
        let here = word_at p e.2 e.5 in
        let w = get_or (words_of old.origins) p [] in
        let is_word : word_of (words_of old.origins) s.origin ≡ w ++ n ∷ [] = ap (word_of (words_of old.origins)) e.6.origin in
        let many : length (words_of old.origins) ≡ length old.keys = closed.kept.as_many in
        let before : p < length old.keys = e.4 in
        let inside : p < length (words_of old.origins) = omega arith in
        let within : IsOriginWithin (length (words_of old.origins)) (Stepped p n) = inside in
        let long : length w ≡ level + 1 = closed.current p w e.3 here.word in
        record {
          within = subst (IsOriginWithin (length (words_of old.origins))) (sym e.6.origin) within;
          long = ap length is_word ∙ omega (arith, length-append w (n ∷ []));
          reached = subst (λ v. Reaches S.Step S.initials v s.configuration) (sym is_word)
              (Reaches-push S.Step S.initials e.2 s.configuration w n (closed.kept.reached p e.2 w here) e.6.step);
          unfinished = e.6.unfinished;
        }

    -- an earlier origin has a word that comes before
    rises : (o q : Origin) → IsEarlier o q → (p m r n : ℕ) (c d : C) → o ≡ Stepped p m → q ≡ Stepped r n → slice_get old.keys p ≡ Some c → slice_get old.keys r ≡ Some d
        → Precedes (word_of (words_of old.origins) o) (word_of (words_of old.origins) q)
    rises o q earlier p m r n c d is is' at at' =
        let words = words_of old.origins in
        let by : IsEarlier (Stepped p m) (Stepped r n) = subst (λ x. IsEarlier x (Stepped r n)) is (subst (IsEarlier o) is' earlier) in
        let one : Precedes (get_or words p [] ++ m ∷ []) (get_or words r [] ++ n ∷ []) =
        elim by [
          | inl lower ↦ Precedes-push (get_or words p []) (get_or words r []) m n
              (closed.kept.ascending p r (get_or words p []) (get_or words r []) lower (word_at p c at).word (word_at r d at').word)
          | inr alike ↦ subst (λ x. Precedes (get_or words p [] ++ m ∷ []) (get_or words x [] ++ n ∷ [])) alike.0 (Precedes-last (get_or words p []) m n alike.1)
        ] in
        subst (λ x. Precedes (word_of words x) (word_of words q)) (sym is) (subst (λ x. Precedes (word_of words (Stepped p m)) (word_of words x)) (sym is') one)

    -- the successors, in their order, are a batch
    pub expansion_batch : IsBatch S (words_of old.origins) (level + 2) successors
    expansion_batch = record {
      each = candidate;
      ascending = λ i j s t less at other. (
          let e = expanded.each i s at in
          let f = expanded.each j t other in
          rises s.origin t.origin (expanded.ascending i j s t less at other) e.0 e.1 f.0 f.1 e.2 f.2 e.6.origin f.6.origin e.5 f.5);
    }

    -- by the word of a rank of the level and a number
    past_so : (r : ℕ) (w : List ℕ) (n : ℕ) → low ≤ r → slice_get (words_of old.origins) r ≡ Some w → (d : C) → IsPast S old level d
        → (old.cut.any ≡ true) × (S.bound + 1 < length (w ++ n ∷ []) + S.open_len d) × (S.bound + 1 + old.cut.past ≤ length (w ++ n ∷ []) + S.open_len d)
    past_so r w n late word d far =
        let long : length w ≡ level + 1 = closed.current r w late word in
        let grown : length (w ++ n ∷ []) ≡ length w + 1 = length-append w (n ∷ []) in
        let more : S.bound + 1 < (level + 2) + S.open_len d = far.1 in
        let least : S.bound + 1 + old.cut.past ≤ (level + 2) + S.open_len d = far.2 in
        (far.0, omega arith, omega arith)

    -- once they are merged, the next level is closed
    pub next_level : (new : Contents C) → IsMerged S old successors new → IsClosedTo S new.keys (words_of new.origins) new.cut (level + 1) (length old.keys)
    next_level new merged =
        let words = words_of old.origins in
        let many : length words ≡ length old.keys = closed.kept.as_many in
        let more_keys = merged.more_keys in
        let more_words = merged.more_words in
        let keep : (c : C) (v : List ℕ) → IsAccounted S old.keys words old.cut c v → IsAccounted S new.keys (words_of new.origins) new.cut c v =
        λ c v known. subst (λ l. IsAccounted S l (words_of new.origins) new.cut c v) (sym merged.keys_are)
        (subst (λ l. IsAccounted S (old.keys ++ more_keys) l new.cut c v) (sym merged.words_are)
        (IsAccounted-append S old.keys more_keys words more_words old.cut new.cut c v merged.cut_stays merged.past_falls known)) in
        let places : (r : ℕ) (w : List ℕ) → slice_get (words_of new.origins) r ≡ Some w
        → (slice_get words r ≡ Some w) ⊎ ((j : ℕ) × (r ≡ length words + j) × (slice_get more_words j ≡ Some w)) =
        λ r w at. slice_get-append_cases words more_words r w (ap (λ l. slice_get l r) (sym merged.words_are) ∙ at) in
        record {
          kept = merged.kept;
          low_within = (let e : length new.keys ≡ length (old.keys ++ more_keys) = ap length merged.keys_are in omega (arith, length-append old.keys more_keys));
          older = λ r w before at. elim (places r w at) [
            | inl there ↦ (let short : length w < level + 2 = older_than_next r w there in omega arith)
            | inr added ↦ (let e : r ≡ length words + added.0 = added.1 in absurd (omega arith))
          ];
          current = λ r w after at. elim (places r w at) [
            | inl there ↦ (let inside : r < length words = slice_get_within words r w there in absurd (omega arith))
            | inr added ↦
                let from = merged.from_batch added.0 w added.2 in
                let long : length (word_of words from.1.origin) ≡ level + 2 = (candidate from.0 from.1 from.2).long in
                let e : length w ≡ length (word_of words from.1.origin) = ap length from.3 in
                omega arith
          ];
          started = λ i c at. keep c (i ∷ []) (closed.started i c at);
          expanded = λ r c d w n before at step. elim (places r w at.word) [
            | inl word ↦ elim (slice_get-append_cases old.keys more_keys r c (ap (λ l. slice_get l r) (sym merged.keys_are) ∙ at.key)) [
              | inl key ↦ elim (cases_lt r low) [
                | inl early ↦ keep d (w ++ n ∷ []) (closed.expanded r c d w n early (record { key = key; word = word }) step)
                | inr late ↦ elim (expanded.all r n c d late before key step) [
                  | inl found ↦
                      let is_word : word_of words found.1.origin ≡ w ++ n ∷ [] = ap (word_of words) found.3 ∙ ap (λ v. v ++ n ∷ []) (get_or_from_slice_get words r w [] word) in
                      subst (λ v. IsAccounted S new.keys (words_of new.origins) new.cut d v) is_word
                      (subst (λ x. IsAccounted S new.keys (words_of new.origins) new.cut x (word_of words found.1.origin)) found.4 (merged.accounted found.0 found.1 found.2))
                  | inr missed ↦ keep d (w ++ n ∷ []) (inr (past_so r w n late word d (past d missed.1)))
                ]
              ]
              | inr added ↦ (let e : r ≡ length old.keys + added.0 = added.1 in absurd (omega arith))
            ]
            | inr added ↦ (let e : r ≡ length words + added.0 = added.1 in absurd (omega arith))
          ];
          met = merged.met;
        }

-- the initial configurations, each with its number, none of them done
module _ {C : Type 0} (S : Search C) where
  -- each initial configuration with its number, none of them done
  pub record IsStart (batch : List (Successor C)) : Type 0 where
    pub each : (i : ℕ) (s : Successor C) → slice_get batch i ≡ Some s → (s.origin ≡ Initial i) × (slice_get S.initials i ≡ Some s.configuration)
    pub all : (i : ℕ) (c : C) → slice_get S.initials i ≡ Some c → (s : Successor C) × (slice_get batch i ≡ Some s) × (s.configuration ≡ c)
    pub unfinished : (i : ℕ) (c : C) → slice_get S.initials i ≡ Some c → S.IsDone c → ⊥

  -- the list at the start
  abbrev pub empty : Contents C
  empty = record { keys = []; origins = []; cut = record { any = false; past = 18446744073709551615 } }

  module _ (batch : List (Successor C)) (start : IsStart batch) where
    -- they are a batch
    pub start_batch : IsBatch S [] 1 batch
    start_batch = record {
      each = λ i s at. (
          let e = start.each i s at in
          let within : IsOriginWithin 0 (Initial i) = tt in
          let reached : Reaches S.Step S.initials (i ∷ []) s.configuration = (s.configuration, e.1, refl) in
          record {
            within = subst (IsOriginWithin 0) (sym e.0) within;
            long = ap (λ o. length (word_of [] o)) e.0;
            reached = subst (λ o. Reaches S.Step S.initials (word_of [] o) s.configuration) (sym e.0) reached;
            unfinished = start.unfinished i s.configuration e.1;
          });
      ascending = λ i j s t less at other. (
          let lower : Precedes (i ∷ []) (j ∷ []) = inr (refl, inl less) in
          subst (λ o. Precedes (word_of [] o) (word_of [] t.origin)) (sym (start.each i s at).0) (subst (λ o. Precedes (i ∷ []) (word_of [] o)) (sym (start.each j t other).0) lower));
    }

    -- once they are merged, the first level is there
    pub start_closed : (new : Contents C) → IsMerged S empty batch new → IsClosedTo S new.keys (words_of new.origins) new.cut 0 0
    start_closed new merged = record {
      kept = merged.kept;
      low_within = omega arith;
      older = λ r w before at. absurd (omega arith);
      current = λ r w after at. (
          let from = merged.from_batch r w (ap (λ l. slice_get l r) (sym merged.words_are) ∙ at) in
          ap length from.3 ∙ (start_batch.each from.0 from.1 from.2).long);
      started = λ i c at. (
          let found = start.all i c at in
          let e = start.each i found.0 found.1 in
          subst (λ o. IsAccounted S new.keys (words_of new.origins) new.cut c (word_of [] o)) e.0
          (subst (λ x. IsAccounted S new.keys (words_of new.origins) new.cut x (word_of [] found.0.origin)) found.2 (merged.accounted i found.0 found.1)));
      expanded = λ r c d w n before at step. absurd (omega arith);
      met = merged.met;
    }

-- the initial configurations, numbered
module _ {C : Type 0} where
  -- what stands at a place of the numbered ones
  numbered_at : (n : ℕ) (cs : List C) (i : ℕ) (s : Successor C) → slice_get (initial_successors n cs) i ≡ Some s → (s.origin ≡ Initial (n + i)) × (slice_get cs i ≡ Some s.configuration)
  numbered_at n [] i s at = absurd (none-some s at)
  numbered_at n (c ∷ cs) zero s at =
      let is : record { origin = Initial n; configuration = c } ≡ s = same_Some (record { origin = Initial n; configuration = c }) s at in
      let e : n ≡ n + 0 = omega arith in
      (sym (ap (λ (s : Successor C). s.origin) is) ∙ ap Initial e, ap (λ (s : Successor C). Some s.configuration) is)
  numbered_at n (c ∷ cs) (suc i) s at =
      let rest = numbered_at (n + 1) cs i s at in
      let e : (n + 1) + i ≡ n + suc i = omega arith in
      (rest.0 ∙ ap Initial e, rest.1)

  -- each has its place there
  numbered_all : (n : ℕ) (cs : List C) (i : ℕ) (c : C) → slice_get cs i ≡ Some c → (s : Successor C) × (slice_get (initial_successors n cs) i ≡ Some s) × (s.configuration ≡ c)
  numbered_all n [] i c at = absurd (none-some c at)
  numbered_all n (d ∷ cs) zero c at = (record { origin = Initial n; configuration = d }, refl, same_Some d c at)
  numbered_all n (d ∷ cs) (suc i) c at = numbered_all (n + 1) cs i c at

  -- numbered, by what they stand for
  pub numbered_map : {P : Type 0} (point : C → P) (n : ℕ) (cs : List C) → map (successor_at point) (initial_successors n cs) ≡ initial_successors n (map point cs)
  numbered_map point n [] = refl
  numbered_map point n (c ∷ cs) = ap (λ l. record { origin = Initial n; configuration = point c } ∷ l) (numbered_map point (n + 1) cs)

  -- the numbered ones are those that a search starts with
  pub numbered_start : (S : Search C) → ((i : ℕ) (c : C) → slice_get S.initials i ≡ Some c → S.IsDone c → ⊥) → IsStart S (initial_successors 0 S.initials)
  numbered_start S unfinished = record {
    each = λ i s at. (let e = numbered_at 0 S.initials i s at in let z : 0 + i ≡ i = omega arith in (e.0 ∙ ap Initial z, e.1));
    all = λ i c at. numbered_all 0 S.initials i c at;
    unfinished = unfinished;
  }

  -- what holds of each holds of each with its number
  pub numbered_each : (P : Successor C → Type 0) (Q : C → Type 0) → ((n : ℕ) (c : C) → Q c → P (record { origin = Initial n; configuration = c }))
      → (n : ℕ) (cs : List C) → All Q cs → All P (initial_successors n cs)
  numbered_each P Q holds n [] each = λ k d inside. absurd (omega arith)
  numbered_each P Q holds n (c ∷ cs) each =
      All-cons P (record { origin = Initial n; configuration = c }) (initial_successors (n + 1) cs) (holds n c (All-head Q c cs each)) (numbered_each P Q holds (n + 1) cs (All-tail Q c cs each))
