-- The levels of a search whose configurations are numbers.
use Rattle.std.proofs.Common.{◌≡◌, ℕ, ◌+◌, ◌-◌, ◌<◌, ◌≤◌, ◌⊎◌, Bool, true, false, true≢false, List, [], ◌∷◌, ◌++◌, length, map, refl, max, sym, ap, subst, ◌∙◌, inl, inr, arith, slice_get, Some, get_or, All, Option, None}
use Rattle.std.proofs.lemmas.List.{length-map}
use Rattle.std.proofs.lemmas.Option.{slice_get-get_or}
use Rattle.word_machine.specs.declared.closed.Successor.{Successor}
use Rattle.word_machine.specs.declared.found.Outcome.{Outcome}
use Rattle.word_machine.specs.declared.found.Outcome.TheVariants.{Finished, Past, Exhausted, GivenUp, Stopped}
use Rattle.word_machine.specs.Machine.{WordMachine, IsLawful, IsLiveStep, IsDone}
use Rattle.word_machine.specs.Meaning.{Meaning, IsGrown, IsOneToOne, successor_at, contents_at}
use Rattle.word_machine.specs.Contents.{Contents, AreOffered, offer_all, initial_successors, words_of}
use Rattle.word_machine.specs.Closed.{search_by, IsClosedTo}
use Rattle.word_machine.specs.Expansion.{IsExpansion, IsFirstDone}
use Rattle.word_machine.specs.Advance.{HasAdvanced}
use Rattle.word_machine.specs.Ranks.{IsOwned}
use Rattle.word_machine.specs.Words.{step_count}
use Rattle.word_machine.specs.Answer.{IsOutcome, IsLeastFinishing, NoneFinishes}
use Rattle.word_machine.proofs.Complete.{CountsOpen}
use Rattle.word_machine.proofs.Meanings.{slice_get-map, slice_get-map_back, same_points, known_still, all_owned}
use Rattle.word_machine.proofs.Offering.{offers}
use Rattle.word_machine.specs.Dive.{AreAllBelow, AreKeptBelow, IsVisited}
use Rattle.word_machine.proofs.Levels.{numbered_each, numbered_map, empty, word_at, IsPast}
use Rattle.word_machine.proofs.Answering.{answer_initial, answer_found, kept_below, outcome, keys_belong}
use Rattle.word_machine.proofs.Searching.{first_level, later_level}

-- the least steps that are told where something was left out
abbrev least_of : Outcome → ℕ
least_of (Past least wide) = least
least_of (Finished word) = 0
least_of Exhausted = 0
least_of GivenUp = 0
least_of Stopped = 0

-- whether something was left out
abbrev is_past : Outcome → Bool
is_past (Past least wide) = true
is_past (Finished word) = false
is_past Exhausted = false
is_past GivenUp = false
is_past Stopped = false

module _ {C R P : Type 0} (m : WordMachine P) (belongs : P → Type 0) (laws : IsLawful m belongs) (measure : P → ℕ) (bound : ℕ) (counts : CountsOpen (search_by m measure bound)) where
  -- the closed list in the middle of a search, by what its numbers stand for
  pub record IsSearched (meaning : Meaning C R P) (contents : Contents C) (level low : ℕ) : Type 0 where
    pub closed : IsClosedTo (search_by m measure bound) (map meaning.point contents.keys) (words_of contents.origins) contents.cut level low
    pub known : All meaning.knows contents.keys

  -- tables that grew change nothing
  pub searched_still : (a b : Meaning C R P) → IsGrown a b → (contents : Contents C) (level low : ℕ) → IsSearched a contents level low → IsSearched b contents level low
  searched_still a b g contents level low s = record {
    closed = subst (λ l. IsClosedTo (search_by m measure bound) l (words_of contents.origins) contents.cut level low) (sym (same_points a b g contents.keys s.known)) s.closed;
    known = known_still a b g contents.keys s.known;
  }

  module _ (meaning : Meaning C R P) (initials : List C) (known : All meaning.knows initials) (is : map meaning.point initials ≡ m.initials) where
    -- the initial configurations are the machine's
    pub initials_owned : All (IsOwned meaning belongs) initials
    initials_owned = all_owned meaning belongs initials known (subst (All belongs) (sym is) laws.starts)

    -- and so is each with its number
    start_owned : All (λ (s : Successor C). IsOwned meaning belongs s.configuration) (initial_successors 0 initials)
    start_owned = numbered_each (λ (s : Successor C). IsOwned meaning belongs s.configuration) (IsOwned meaning belongs) (λ n d own. own) 0 initials initials_owned

    -- the first that is done is an answer
    pub initial_found : (n : ℕ) → ((c : C) × (slice_get initials n ≡ Some c) × IsDone m (meaning.point c))
        → ((i : ℕ) (c : C) → i < n → slice_get initials i ≡ Some c → IsDone m (meaning.point c) → ⊥) → IsLeastFinishing m bound (n ∷ [])
    initial_found n done first =
        answer_initial m belongs laws measure bound counts n (meaning.point done.0)
        (ap (λ l. slice_get l n) (sym is) ∙ slice_get-map meaning.point initials n done.0 done.1) done.2
        (λ j d less at finish. (
        let back = slice_get-map_back meaning.point initials j d (ap (λ l. slice_get l j) is ∙ at) in
        first j back.0 less back.1 (subst (IsDone m) (sym back.2) finish)))

    -- the list after they were offered
    pub started : (eq : C → C → Bool) → ((c d : C) → eq c d ≡ true → c ≡ d) → ((c : C) → eq c c ≡ true) → IsOneToOne meaning
        → ((i : ℕ) (c : C) → slice_get initials i ≡ Some c → IsDone m (meaning.point c) → ⊥)
        → (after : Contents C) → after ≡ offer_all eq (λ c. measure (meaning.point c)) bound (record { keys = []; origins = []; cut = record { any = false; past = 18446744073709551615 } }) (initial_successors 0 initials)
        → IsSearched meaning after 0 0
    started eq same reflexive one unfinished after after_is =
        let nothing : Contents C = record { keys = []; origins = []; cut = record { any = false; past = 18446744073709551615 } } in
        let batch = initial_successors 0 initials in
        let all = offers eq same reflexive meaning.knows meaning.point one measure bound nothing batch (λ k d inside. absurd (omega arith)) (λ k d inside. (start_owned k d inside).0) in
        let batch_is : map (successor_at meaning.point) batch ≡ initial_successors 0 m.initials = numbered_map meaning.point 0 initials ∙ ap (initial_successors 0) is in
        let offered : AreOffered measure bound (empty (search_by m measure bound)) (map (successor_at meaning.point) batch) (contents_at meaning.point after) =
        subst (λ (n : Contents C). AreOffered measure bound (contents_at meaning.point nothing) (map (successor_at meaning.point) batch) (contents_at meaning.point n)) (sym after_is) all.0 in
        record {
          closed = first_level (search_by m measure bound)
              (λ i d at finish. (
              let back = slice_get-map_back meaning.point initials i d (ap (λ l. slice_get l i) is ∙ at) in
              unfinished i back.0 back.1 (subst (IsDone m) (sym back.2) finish)))
              (contents_at meaning.point after)
              (subst (λ b. AreOffered measure bound (empty (search_by m measure bound)) b (contents_at meaning.point after)) batch_is offered);
          known = subst (λ (n : Contents C). All meaning.knows n.keys) (sym after_is) all.1;
        }

  module _ (meaning : Meaning C R P) (contents : Contents C) (level low : ℕ) (s : IsSearched meaning contents level low) where
    -- as many points as numbers
    many : length (map meaning.point contents.keys) ≡ length contents.keys
    many = length-map contents.keys meaning.point

    -- each configuration of the list is the machine's
    pub keys_owned : All (IsOwned meaning belongs) contents.keys
    keys_owned = all_owned meaning belongs contents.keys s.known (keys_belong m belongs laws measure bound counts (contents_at meaning.point contents) level low s.closed)

    -- what is told at the end of the search
    pub ended : (bound ≤ level) ⊎ (low ≡ length contents.keys) → (told : Outcome)
        → (contents.cut.any ≡ true → (least : ℕ) × (wide : Option ℕ) × (told ≡ Past least wide) × (least ≤ bound + contents.cut.past)) → (contents.cut.any ≡ false → told ≡ Exhausted) → IsOutcome m measure bound told
    ended end told past exhausted_so =
        outcome m belongs laws measure bound counts (contents_at meaning.point contents) level low s.closed
        (elim end [ inl over ↦ inl over | inr all ↦ inr (all ∙ sym many) ]) told past exhausted_so

    -- each configuration of the list is reached
    keys_visited : All (IsVisited m belongs meaning) contents.keys
    keys_visited = λ k d inside. (
        let c = get_or contents.keys k d in
        let at = word_at (search_by m measure bound) (contents_at meaning.point contents) level low s.closed k (meaning.point c)
        (slice_get-map meaning.point contents.keys k c (slice_get-get_or contents.keys k d inside)) in
        let word = get_or (words_of contents.origins) k [] in
        (keys_owned k d inside, (word, s.closed.kept.reached k (meaning.point c) word at)))

    -- where something was left out, the list has all before it
    pub left_out : (bound ≤ level) ⊎ (low ≡ length contents.keys) → (told : Outcome)
        → (contents.cut.any ≡ true → (least : ℕ) × (wide : Option ℕ) × (told ≡ Past least wide) × (least ≤ bound + contents.cut.past)) → (contents.cut.any ≡ false → told ≡ Exhausted)
        → (steps : ℕ) (wide : Option ℕ) → told ≡ Past steps wide → AreAllBelow m belongs measure meaning (max steps (bound + 1)) contents.keys
    left_out end told past exhausted_so steps wide is = (keys_visited, by contents.cut.any refl)
      where
        by : (cut : Bool) → contents.cut.any ≡ cut → AreKeptBelow m measure (max steps (bound + 1)) (map meaning.point contents.keys)
        by true cut =
            let p = past cut in
            let same : p.0 ≡ steps = ap least_of (sym p.2 ∙ is) in
            subst (λ n. AreKeptBelow m measure (max n (bound + 1)) (map meaning.point contents.keys)) same
            (kept_below m belongs laws measure bound counts (contents_at meaning.point contents) level low s.closed
            (elim end [ inl over ↦ inl over | inr all ↦ inr (all ∙ sym many) ]) p.0 p.3)
        by false cut = absurd (true≢false (ap is_past (sym is ∙ exhausted_so cut)))

    -- where no word finishes within the bound, something that is left out tells all
    pub ended_early : contents.cut.any ≡ true → NoneFinishes m bound → IsOutcome m measure bound (Past (bound + 1) None)
    ended_early cut none = (none, s.closed.met cut, λ word finish. (let over : bound < step_count word = none word finish in omega arith))

    -- the first done successor gives the answer
    pub word_found : (p n : ℕ) → level < bound → IsFirstDone (IsLiveStep m) (IsDone m) (map meaning.point contents.keys) low (length contents.keys) p n
        → IsLeastFinishing m bound (get_or (words_of contents.origins) p [] ++ n ∷ [])
    word_found p n short first =
        answer_found m belongs laws measure bound counts (contents_at meaning.point contents) level low s.closed p n short
        (subst (λ l. IsFirstDone (IsLiveStep m) (IsDone m) (map meaning.point contents.keys) low l p n) (sym many) first)

    -- once the level is expanded, and what it reaches offered, the next one is closed
    pub next_searched : (beyond : P → Type 0) (new : Meaning C R P) → IsGrown meaning new → (room : ℕ) → (level + 2) + room ≡ bound + 1
        → ((d : P) → beyond d → (contents.cut.any ≡ true) × (room < measure d) × (contents.cut.past ≤ measure d - room))
        → (after : Contents C) → All new.knows after.keys
        → HasAdvanced m beyond measure room (map new.point contents.keys) low (length contents.keys) (contents_at new.point contents) (contents_at new.point after)
        → IsSearched new after (level + 1) (length contents.keys)
    next_searched beyond new g room room_is far after known advanced =
        let S = search_by m measure bound in
        let now = searched_still meaning new g contents level low s in
        let count : length (map new.point contents.keys) ≡ length contents.keys = length-map contents.keys new.point in
        let whole : IsExpansion (IsLiveStep m) (IsDone m) beyond (map new.point contents.keys) low (length (map new.point contents.keys)) advanced.0 =
        subst (λ l. IsExpansion (IsLiveStep m) (IsDone m) beyond (map new.point contents.keys) low l advanced.0) (sym count) advanced.1 in
        let past : (d : P) → beyond d → IsPast S (contents_at new.point contents) level d =
        λ d is. (
        let more : room < measure d = (far d is).1 in
        let least : contents.cut.past ≤ measure d - room = (far d is).2 in
        ((far d is).0, omega arith, omega arith)) in
        let later = later_level S counts (contents_at new.point contents) level low now.closed beyond past advanced.0 whole room room_is (contents_at new.point after) advanced.2 in
        record {
          closed = subst (λ n. IsClosedTo S (map new.point after.keys) (words_of after.origins) after.cut (level + 1) n) count later;
          known = known;
        }
