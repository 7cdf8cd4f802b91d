-- The first done configuration by levels is reached by the least word.
use Rattle.std.proofs.Common.{◌≡◌, ℕ, zero, suc, ◌+◌, ◌<◌, ◌≤◌, Bool, true, false, cond, List, [], ◌∷◌, ◌++◌, length, map, filter, flat_map, slice_get, Option, Some, None, ◌⊎◌, inl, inr, sym, refl, ap, ap₂, ◌∙◌, subst, subst₂, append_assoc, append-nil, arith, ◌-◌}
use Rattle.std.specs.List.{AllByRecursion, list_any}
use Rattle.std.proofs.lemmas.Bool.{cases_lt, both_ways, le-leb, leb-true, leb-false}
use Rattle.std.proofs.lemmas.List.{length-append}
use Rattle.htn_model.specs.Problem.{Network, Problem}
use Rattle.htn_model.specs.Machine.{Config, step_by, start, IsDone, FinishesFrom, Finishes}
use Rattle.htn_model.specs.Answer.{IsNoGreater, IsNoLater, IsLeastWord}
use Rattle.htn_model.specs.Levels.{Reached, is_done, choice_count, reached_by, successors_from, successors, starts, is_within, keep_new, level, first_done, LevelsFindLeast, IsSound, Stepping}
use Rattle.htn_model.specs.Met.{candidates, seen_before, LeavesOut}
use Rattle.htn_model.proofs.Configs.{open_steps, open_step}
use Rattle.htn_model.proofs.Counted.{step_counted}
use Rattle.htn_model.proofs.Ascending.{Less, less_itself, less_trans, less_or, less_last, less_more, along_words, In, all_in, all_from, in_flat_map, in_filter, in_split, in_map, in_mapped, in_at, in_left, in_right, any_some, any_in, at_in}
use Rattle.htn_model.proofs.Levels.{all_join, all_map, all_weaken, all_flat_map, all_filter, all_keep, Below, Ascends, ascends_join, ascends_filter, ascends_keep, Kept, kept}
use Rattle.htn_model.proofs.Done.{done_is, is_done_from, first_in, none_done, first_least}

module _ (problem : Problem) (taken : Stepping) (On : Config → Type 0)
    (sound_step : (c d : Config) (number : ℕ) → taken c number ≡ Some d → step_by problem c number ≡ Some d)
    (on_start : (network : Network) → On (start problem network))
    (on_step : (c d : Config) (number : ℕ) → On c → step_by problem c number ≡ Some d → On d)
    (takes : (c d : Config) (number : ℕ) (rest : List ℕ) → On c → step_by problem c number ≡ Some d → FinishesFrom problem rest d → taken c number ≡ Some d) where
  -- ## Words that lead somewhere

  -- the numbers of a word lead from a configuration to another
  abbrev pub LeadsWith : List ℕ → Config → Config → Type 0
  LeadsWith [] c d = c ≡ d
  LeadsWith (number ∷ word) c d = (next : Config) × (taken c number ≡ Some next) × LeadsWith word next d

  -- the numbers of a word lead from an initial network to a configuration
  abbrev pub Leads : List ℕ → Config → Type 0
  Leads [] c = ⊥
  Leads (number ∷ word) c = (network : Network) × (slice_get problem.initials number ≡ Some network) × LeadsWith word (start problem network) c

  -- a word with a number more leads one step on
  leads_more : (word : List ℕ) (c d next : Config) (number : ℕ) → LeadsWith word c d → taken d number ≡ Some next → LeadsWith (word ++ number ∷ []) c next
  leads_more [] c d next number h step = (next, ap (λ x. taken x number) h ∙ step, refl)
  leads_more (n ∷ word) c d next number h step = (h.0, h.1, leads_more word h.0 d next number h.2 step)

  -- so it does from an initial network
  leads_on : (word : List ℕ) (d next : Config) (number : ℕ) → Leads word d → taken d number ≡ Some next → Leads (word ++ number ∷ []) next
  leads_on [] d next number h step = absurd h
  leads_on (k ∷ word) d next number h step = (h.0, h.1, leads_more word (start problem h.0) d next number h.2 step)

  -- a word that leads to where another finishes finishes with it
  leads_finish : (word rest : List ℕ) (c d : Config) → LeadsWith word c d → FinishesFrom problem rest d → FinishesFrom problem (word ++ rest) c
  leads_finish [] rest c d h finishes = subst (FinishesFrom problem rest) (sym h) finishes
  leads_finish (n ∷ word) rest c d h finishes = (h.0, sound_step c h.0 n h.1, leads_finish word rest h.0 d h.2 finishes)

  -- so it does from an initial network
  finishes_by : (word rest : List ℕ) (d : Config) → Leads word d → FinishesFrom problem rest d → Finishes problem (word ++ rest)
  finishes_by [] rest d h finishes = absurd h
  finishes_by (k ∷ word) rest d h finishes = (h.0, h.1, leads_finish word rest (start problem h.0) d h.2 finishes)

  -- what was reached is reached by its word, of that length
  abbrev pub Sound : ℕ → Reached → Type 0
  Sound steps r = Leads r.word r.config × (length r.word ≡ suc steps)

  -- a configuration was reached by a word of at most that length
  abbrev pub Seen : ℕ → Config → Type 0
  Seen steps c = (word : List ℕ) × Leads word c × (length word ≤ suc steps)

  -- ## Initial networks

  -- the starts are reached by words of one number
  starts_sound : (number : ℕ) (networks : List Network) → ((k : ℕ) → slice_get problem.initials (number + k) ≡ slice_get networks k) → AllByRecursion (Sound 0) (starts problem number networks)
  starts_sound number [] each = tt
  starts_sound number (network ∷ networks) each = (
    ((network, ap (slice_get problem.initials) (let e : number ≡ number + 0 = omega arith in e) ∙ each 0, refl), refl),
    starts_sound (suc number) networks (λ k. ap (slice_get problem.initials) (let e : suc number + k ≡ number + suc k = omega arith in e) ∙ each (suc k)),
  )

  -- the starts come after those of smaller numbers
  starts_above : (low number : ℕ) (networks : List Network) → low < number → AllByRecursion (Below (low ∷ [])) (starts problem number networks)
  starts_above low number [] h = tt
  starts_above low number (network ∷ networks) h = (inl h, starts_above low (suc number) networks (omega arith))

  -- the starts come in the order of their words
  starts_ascend : (number : ℕ) (networks : List Network) → Ascends (starts problem number networks)
  starts_ascend number [] = tt
  starts_ascend number (network ∷ networks) = (starts_above number (suc number) networks (omega arith), starts_ascend (suc number) networks)

  -- each initial network is among the starts
  pub starts_in : (number k : ℕ) (networks : List Network) (network : Network) → slice_get networks k ≡ Some network
      → In (record { word = (number + k) ∷ []; config = start problem network }) (starts problem number networks)
  starts_in number k [] network h = absurd cc
  starts_in number zero (n ∷ networks) network h =
      let same : n ≡ network = cc in
      inl (ap₂ (λ j x. record { word = j ∷ []; config = start problem x }) (let e : number + 0 ≡ number = omega arith in e) (sym same))
  starts_in number (suc k) (n ∷ networks) network h =
      inr (subst (λ j. In (record { word = j ∷ []; config = start problem network }) (starts problem (suc number) networks)) (let e : suc number + k ≡ number + suc k = omega arith in e)
      (starts_in (suc number) k networks network h))

  -- ## Successors

  -- one word is another with a number more
  abbrev Extends : Reached → Reached → Type 0
  Extends r s = (number : ℕ) × (s.word ≡ r.word ++ number ∷ [])

  -- the successors of what was reached extend its word
  successors_extend : (r : Reached) (number count : ℕ) → AllByRecursion (Extends r) (successors_from taken r number count)
  successors_extend r number zero = tt
  successors_extend r number (suc count) = by (taken r.config number) (successors_extend r (suc number) count)
    where
      by : (o : Option Config) → AllByRecursion (Extends r) (successors_from taken r (suc number) count)
          → AllByRecursion (Extends r) (reached_by r number o (successors_from taken r (suc number) count))
      by None more = more
      by (Some c) more = ((number, refl), more)

  -- successors are reached by their words
  successors_sound : (steps : ℕ) (r : Reached) (number count : ℕ) → Sound steps r → AllByRecursion (Sound (suc steps)) (successors_from taken r number count)
  successors_sound steps r number zero s = tt
  successors_sound steps r number (suc count) s = by (taken r.config number) refl (successors_sound steps r (suc number) count s)
    where
      by : (o : Option Config) → taken r.config number ≡ o → AllByRecursion (Sound (suc steps)) (successors_from taken r (suc number) count)
          → AllByRecursion (Sound (suc steps)) (reached_by r number o (successors_from taken r (suc number) count))
      by None e more = more
      by (Some c) e more = ((leads_on r.word r.config c number s.0 e, length-append r.word (number ∷ []) ∙ (let l = s.1 in let g : length r.word + 1 ≡ suc (suc steps) = omega arith in g)), more)

  -- successors come after those of smaller numbers
  successors_above : (r : Reached) (low number count : ℕ) → low < number → AllByRecursion (Below (r.word ++ low ∷ [])) (successors_from taken r number count)
  successors_above r low number zero h = tt
  successors_above r low number (suc count) h = by (taken r.config number) (successors_above r low (suc number) count (omega arith))
    where
      by : (o : Option Config) → AllByRecursion (Below (r.word ++ low ∷ [])) (successors_from taken r (suc number) count)
          → AllByRecursion (Below (r.word ++ low ∷ [])) (reached_by r number o (successors_from taken r (suc number) count))
      by None more = more
      by (Some c) more = (less_last r.word low number h, more)

  -- successors come in the order of their words
  successors_ascend : (r : Reached) (number count : ℕ) → Ascends (successors_from taken r number count)
  successors_ascend r number zero = tt
  successors_ascend r number (suc count) = by (taken r.config number) (successors_ascend r (suc number) count)
    where
      by : (o : Option Config) → Ascends (successors_from taken r (suc number) count) → Ascends (reached_by r number o (successors_from taken r (suc number) count))
      by None more = more
      by (Some c) more = (successors_above r number (suc number) count (omega arith), more)

  -- what extends an earlier word is below what extends a later one
  across : (r s : Reached) → Below r.word s → AllByRecursion (λ t. AllByRecursion (Below t.word) (successors problem taken s)) (successors problem taken r)
  across r s low =
      all_weaken (Extends r) (λ t. AllByRecursion (Below t.word) (successors problem taken s)) (successors problem taken r)
      (λ t e. all_weaken (Extends s) (Below t.word) (successors problem taken s)
      (λ u g. subst₂ Less (sym e.1) (sym g.1) (less_more r.word s.word (e.0 ∷ []) (g.0 ∷ []) low))
      (successors_extend s 0 (choice_count problem s.config)))
      (successors_extend r 0 (choice_count problem r.config))

  -- two lists, one before the other, seen from the second
  swap_all : (rs ss : List Reached) → AllByRecursion (λ s. AllByRecursion (λ t. Below t.word s) rs) ss → AllByRecursion (λ t. AllByRecursion (Below t.word) ss) rs
  swap_all rs ss h = all_from (λ t. AllByRecursion (Below t.word) ss) rs (λ t i. all_weaken (λ s. AllByRecursion (λ t. Below t.word s) rs) (Below t.word) ss (λ s g. all_in (λ t. Below t.word s) t rs g i) h)

  -- what comes before all of a list comes before their successors
  across_all : (r : Reached) (rs : List Reached) → AllByRecursion (Below r.word) rs → AllByRecursion (λ t. AllByRecursion (Below t.word) (flat_map (successors problem taken) rs)) (successors problem taken r)
  across_all r rs low =
      swap_all (successors problem taken r) (flat_map (successors problem taken) rs)
      (all_flat_map (λ s. AllByRecursion (λ t. Below t.word s) (successors problem taken r)) (Below r.word) (successors problem taken) rs
      (λ s g. swap_back (successors problem taken r) (successors problem taken s) (across r s g)) low)
    where
      swap_back : (ts ss : List Reached) → AllByRecursion (λ t. AllByRecursion (Below t.word) ss) ts → AllByRecursion (λ s. AllByRecursion (λ t. Below t.word s) ts) ss
      swap_back ts ss h = all_from (λ s. AllByRecursion (λ t. Below t.word s) ts) ss (λ s i. all_weaken (λ t. AllByRecursion (Below t.word) ss) (λ t. Below t.word s) ts (λ t g. all_in (Below t.word) s ss g i) h)

  -- the successors of what ascends ascend
  expand_ascends : (rs : List Reached) → Ascends rs → Ascends (flat_map (successors problem taken) rs)
  expand_ascends [] h = tt
  expand_ascends (r ∷ rs) h =
      ascends_join (successors problem taken r) (flat_map (successors problem taken) rs) (successors_ascend r 0 (choice_count problem r.config)) (expand_ascends rs h.1) (across_all r rs h.0)

  -- a step that is possible is among the successors
  successor_in : (r : Reached) (number count n : ℕ) (d : Config) → taken r.config n ≡ Some d → number ≤ n → n < number + count
      → In (record { word = r.word ++ n ∷ []; config = d }) (successors_from taken r number count)
  successor_in r number zero n d step low high = absurd (omega arith)
  successor_in r number (suc count) n d step low high = by (cases_lt number n) (successor_in r (suc number) count n d step)
    where
      later : (o : Option Config) → In (record { word = r.word ++ n ∷ []; config = d }) (successors_from taken r (suc number) count)
          → In (record { word = r.word ++ n ∷ []; config = d }) (reached_by r number o (successors_from taken r (suc number) count))
      later None i = i
      later (Some c) i = inr i

      here : (o : Option Config) → taken r.config number ≡ o → number ≡ n
          → In (record { word = r.word ++ n ∷ []; config = d }) (reached_by r number o (successors_from taken r (suc number) count))
      here None e same = let f : None ≡ Some d = sym e ∙ ap (taken r.config) same ∙ step in absurd cc
      here (Some c) e same =
          let f : Some c ≡ Some d = sym e ∙ ap (taken r.config) same ∙ step in
          let g : c ≡ d = cc in
          inl (ap₂ (λ j x. record { word = r.word ++ j ∷ []; config = x }) (sym same) (sym g))

      by : (number < n) ⊎ (n ≤ number) → (suc number ≤ n → n < suc number + count → In (record { word = r.word ++ n ∷ []; config = d }) (successors_from taken r (suc number) count))
          → In (record { word = r.word ++ n ∷ []; config = d }) (reached_by r number (taken r.config number) (successors_from taken r (suc number) count))
      by (inl more) deeper = later (taken r.config number) (deeper more (omega arith))
      by (inr no_more) deeper = here (taken r.config number) refl (omega arith)

  -- the same from the first number on
  pub in_successors : (r : Reached) (n : ℕ) (d : Config) → taken r.config n ≡ Some d → In (record { word = r.word ++ n ∷ []; config = d }) (successors problem taken r)
  in_successors r n d step =
      successor_in r 0 (choice_count problem r.config) n d step (omega arith) (let high = step_counted problem r.config d n (sound_step r.config d n step) in omega arith)

  module _ (same : Config → Config → Bool) (sound : IsSound same) (bound : ℕ) where
    -- what is reached at a level
    abbrev pub at : ℕ → List Reached
    at steps = (level problem taken same bound steps).reached

    -- ## What is true of each level

    -- a level is sound, in order, and complete but for what was seen
    pub record Facts (steps : ℕ) : Type 0 where
      pub are_sound : AllByRecursion (Sound steps) (at steps)
      pub are_seen : AllByRecursion (Seen steps) (level problem taken same bound steps).seen
      pub ascend : Ascends (at steps)

    -- what is reached was seen
    seen_from : (steps : ℕ) (r : Reached) → Sound steps r → Seen steps r.config
    seen_from steps r s = (r.word, s.0, (let l = s.1 in omega arith))

    -- the candidates of a level: its words before any is dropped
    abbrev pub from : ℕ → List Reached
    from = candidates problem taken same bound

    -- what was seen before a level
    abbrev pub before : ℕ → List Config
    before = seen_before problem taken same bound

    -- a level keeps what is within the bound and new
    pub at_is : (steps : ℕ) → at steps ≡ keep_new same (before steps) (filter (is_within bound steps) (from steps))
    at_is zero = refl
    at_is (suc steps) = refl

    -- what a level keeps from is reached by its words
    pub candidates_sound : (steps : ℕ) → ((earlier : ℕ) → steps ≡ suc earlier → Facts earlier) → AllByRecursion (Sound steps) (from steps)
    candidates_sound zero facts = starts_sound 0 problem.initials (λ k. ap (slice_get problem.initials) (let e : 0 + k ≡ k = omega arith in e))
    candidates_sound (suc steps) facts =
        all_flat_map (Sound (suc steps)) (Sound steps) (successors problem taken) (at steps) (λ r s. successors_sound steps r 0 (choice_count problem r.config) s) (facts steps refl).are_sound

    -- it comes in the order of its words
    candidates_ascend : (steps : ℕ) → ((earlier : ℕ) → steps ≡ suc earlier → Facts earlier) → Ascends (from steps)
    candidates_ascend zero facts = starts_ascend 0 problem.initials
    candidates_ascend (suc steps) facts = expand_ascends (at steps) (facts steps refl).ascend

    -- what was seen before was reached by shorter words
    seen_sound : (steps : ℕ) → ((earlier : ℕ) → steps ≡ suc earlier → Facts earlier) → AllByRecursion (λ c. (word : List ℕ) × Leads word c × (length word ≤ steps)) (before steps)
    seen_sound zero facts = tt
    seen_sound (suc steps) facts = (facts steps refl).are_seen

    -- what was seen up to a level is what it reached and what was seen before
    made : (steps : ℕ) → ((earlier : ℕ) → steps ≡ suc earlier → Facts earlier) → (level problem taken same bound steps).seen ≡ map (λ r. r.config) (at steps) ++ before steps → Facts steps
    made steps facts is =
        let kept_sound = subst (AllByRecursion (Sound steps)) (sym (at_is steps))
        (all_keep (Sound steps) same (before steps) _ (all_filter (Sound steps) (is_within bound steps) (from steps) (candidates_sound steps facts))) in
        record {
          are_sound = kept_sound;
          are_seen = subst (AllByRecursion (Seen steps)) (sym is)
              (all_join (Seen steps) (map (λ r. r.config) (at steps)) (before steps)
              (all_map (Sound steps) (Seen steps) (λ r. r.config) (at steps) (seen_from steps) kept_sound)
              (all_weaken (λ c. (word : List ℕ) × Leads word c × (length word ≤ steps)) (Seen steps) (before steps) (λ c s. (s.0, s.1, (let l = s.2 in omega arith))) (seen_sound steps facts)));
          ascend = subst Ascends (sym (at_is steps)) (ascends_keep same (before steps) _ (ascends_filter (is_within bound steps) (from steps) (candidates_ascend steps facts)));
        }

    -- each level is so
    pub facts : (steps : ℕ) → Facts steps
    facts zero = made zero (λ earlier e. absurd cc) refl
    facts (suc steps) = made (suc steps) (λ earlier e. subst Facts (let same : steps ≡ earlier = omega arith in same) (facts steps)) refl

    -- ## A finishing word with none before it stands in the levels

    -- no shorter word finishes, and none as long that is less
    abbrev IsLeast : List ℕ → Type 0
    IsLeast word = (v : List ℕ) → Finishes problem v → (length v < length word) ⊎ ((length v ≡ length word) × Less v word) → ⊥

    -- a candidate that begins the word is kept
    stays : (steps : ℕ) (word rest : List ℕ) (r : Reached) → IsLeast word → length word ≤ suc bound → word ≡ r.word ++ rest → FinishesFrom problem rest r.config
        → In r (from steps) → In r (at steps)
    stays steps word rest r least short is finishes i =
        let earlier : (e : ℕ) → steps ≡ suc e → Facts e = λ e same. facts e in
        let own = all_in (Sound steps) r (from steps) (candidates_sound steps earlier) i in
        let open_nodes = open_steps problem rest r.config finishes in
        let long : length word ≡ length r.word + length rest = ap length is ∙ length-append r.word rest in
        let fits : is_within bound steps r ≡ true = le-leb (steps + length r.config.open_nodes) bound (let l = own.1 in omega arith) in
        subst (In r) (sym (at_is steps))
        (by own long
        (kept same (before steps) (filter (is_within bound steps) (from steps)) r
        (ascends_filter (is_within bound steps) (from steps) (candidates_ascend steps earlier))
        (in_filter (is_within bound steps) r (from steps) i fits))
        (seen_sound steps earlier)
        (all_filter (Sound steps) (is_within bound steps) (from steps) (candidates_sound steps earlier)))
      where
        by : Sound steps r → length word ≡ length r.word + length rest
            → Kept same (before steps) (filter (is_within bound steps) (from steps)) r
            → AllByRecursion (λ c. (word : List ℕ) × Leads word c × (length word ≤ steps)) (before steps)
            → AllByRecursion (Sound steps) (filter (is_within bound steps) (from steps))
            → In r (keep_new same (before steps) (filter (is_within bound steps) (from steps)))
        by own long (inl j) seen are_sound = j
        by own long (inr (inl c)) seen are_sound =
            let s = all_in (λ c. (word : List ℕ) × Leads word c × (length word ≤ steps)) c.0 (before steps) seen c.1 in
            let ends : FinishesFrom problem rest c.0 = subst (FinishesFrom problem rest) (sound r.config c.0 c.2) finishes in
            absurd (least (s.0 ++ rest) (finishes_by s.0 rest c.0 s.1 ends) (inl (let l = length-append s.0 rest in let m = s.2 in let n = own.1 in omega arith)))
        by own long (inr (inr t)) seen are_sound =
            let s = all_in (Sound steps) t.0 (filter (is_within bound steps) (from steps)) are_sound t.1 in
            let ends : FinishesFrom problem rest t.0.config = subst (FinishesFrom problem rest) (sound r.config t.0.config t.3) finishes in
            absurd (least (t.0.word ++ rest) (finishes_by t.0.word rest t.0.config s.0 ends)
            (inr ((let l = length-append t.0.word rest in let m = s.1 in let n = own.1 in omega arith), subst (Less (t.0.word ++ rest)) (sym is) (less_more t.0.word r.word rest rest t.2))))

    -- a word ends at a level in a done configuration
    record Ends (word : List ℕ) : Type 0 where
      steps : ℕ
      long : length word ≡ suc steps
      last : Reached
      is : last.word ≡ word
      stands : In last (at steps)
      done : IsDone problem last.config

    -- a least word that was reached so far goes on at the next level
    walk : (rest : List ℕ) (steps : ℕ) (word : List ℕ) (r : Reached) → IsLeast word → length word ≤ suc bound → word ≡ r.word ++ rest → FinishesFrom problem rest r.config
        → On r.config → In r (at steps) → length r.word ≡ suc steps → Ends word
    walk [] steps word r least short is finishes on i long =
        let whole : word ≡ r.word = is ∙ append-nil r.word in
        record { steps = steps; long = ap length whole ∙ long; last = r; is = sym whole; stands = i; done = finishes }
    walk (n ∷ rest) steps word r least short is finishes on i long =
        let next : Reached = record { word = r.word ++ n ∷ []; config = finishes.0 } in
        let more : word ≡ next.word ++ rest = is ∙ sym (append_assoc r.word (n ∷ []) rest) in
        walk rest (suc steps) word next least short more finishes.2 (on_step r.config finishes.0 n on finishes.1)
        (stays (suc steps) word rest next least short more finishes.2 (in_flat_map (successors problem taken) r next (at steps) i (in_successors r n finishes.0 (takes r.config finishes.0 n rest on finishes.1 finishes.2))))
        (length-append r.word (n ∷ []) ∙ (let e : length r.word + 1 ≡ suc (suc steps) = omega arith in e))

    -- a least finishing word within the bound ends at a level
    ends : (word : List ℕ) → Finishes problem word → IsLeast word → length word ≤ suc bound → Ends word
    ends [] h least short = absurd h
    ends (k ∷ word) h least short =
        let first : Reached = record { word = k ∷ []; config = start problem h.0 } in
        let i : In first (starts problem 0 problem.initials) =
        subst (λ j. In (record { word = j ∷ []; config = start problem h.0 }) (starts problem 0 problem.initials)) (let e : 0 + k ≡ k = omega arith in e) (starts_in 0 k problem.initials h.0 h.1) in
        walk word 0 (k ∷ word) first least short refl h.2 (on_start h.0) (stays 0 (k ∷ word) word first least short refl h.2 i) refl

    -- ## Levels without a done configuration

    -- no earlier level has a done configuration
    abbrev Clear : ℕ → Type 0
    Clear steps = (earlier : ℕ) → earlier < steps → first_done problem (at earlier) ≡ None

    -- then no shorter word ends
    no_end : (n : ℕ) (word : List ℕ) → Clear n → length word ≤ n → Ends word → ⊥
    no_end n word clear short e =
        let long = e.long in
        none_done problem (at e.steps) e.last (clear e.steps (omega arith)) e.stands (is_done_from problem e.last.config e.done)

    -- no word of one length finishes, if no shorter one does
    none_of : (n : ℕ) → Clear n → n ≤ suc bound → (size : ℕ) → size ≤ n → ((v : List ℕ) → Finishes problem v → length v < size → ⊥)
        → (word : List ℕ) → length word ≡ size → Finishes problem word → ⊥
    none_of n clear low size small shorter word long =
        along_words size (λ w. Finishes problem w → ⊥)
        (λ w long ih h. no_end n w clear (omega arith) (ends w h (least w long ih) (omega arith)))
        word long
      where
        least : (w : List ℕ) → length w ≡ size → ((v : List ℕ) → length v ≡ size → Less v w → Finishes problem v → ⊥) → IsLeast w
        least w long ih v g (inl less) = shorter v g (omega arith)
        least w long ih v g (inr less) = ih v (less.0 ∙ long) less.1 g

    -- no word of at most n numbers finishes, if the levels below n have none done
    none_finishes : (n : ℕ) → Clear n → n ≤ suc bound → (size : ℕ) → size ≤ n → (word : List ℕ) → length word ≤ size → Finishes problem word → ⊥
    none_finishes n clear low zero small [] short h = h
    none_finishes n clear low zero small (x ∷ word) short h = omega arith
    none_finishes n clear low (suc size) small word short h =
        by (none_finishes n clear low size (omega arith)) (cases_lt (length word) (suc size))
      where
        by : ((v : List ℕ) → length v ≤ size → Finishes problem v → ⊥) → (length word < suc size) ⊎ (suc size ≤ length word) → ⊥
        by shorter (inl less) = shorter word (omega arith) h
        by shorter (inr exact) = none_of n clear low (suc size) small (λ v g less. shorter v (omega arith) g) word (omega arith) h

    -- ## The first done configuration

    module _ (steps : ℕ) (r : Reached) (low : steps ≤ bound) (clear : Clear steps) (first : first_done problem (at steps) ≡ Some r) where
      -- the first that is done is at its level
      stands : In r (at steps) × (is_done problem r.config ≡ true)
      stands = first_in problem (at steps) r first

      -- it is reached by its word
      own : Sound steps r
      own = all_in (Sound steps) r (at steps) (facts steps).are_sound stands.0

      -- no shorter word finishes
      shorter : (v : List ℕ) → Finishes problem v → length v < suc steps → ⊥
      shorter v g less = none_finishes steps clear (omega arith) steps (omega arith) v (omega arith) g

      -- no smaller word of its length ends
      at_end : (word : List ℕ) → Less word r.word → length word ≡ suc steps → Ends word → ⊥
      at_end word less long e =
          let same_steps : e.steps ≡ steps = (let l = e.long in omega arith) in
          by (first_least problem (at steps) r e.last (facts steps).ascend first (subst (λ k. In e.last (at k)) same_steps e.stands) (is_done_from problem e.last.config e.done))
        where
          by : (r.word ≡ e.last.word) ⊎ Below r.word e.last → ⊥
          by (inl same) = less_itself word (subst (Less word) (same ∙ e.is) less)
          by (inr more) = less_itself word (less_trans word r.word word less (subst (Less r.word) e.is more))

      -- no smaller word of its length finishes
      not_less : (word : List ℕ) → length word ≡ suc steps → Finishes problem word → Less word r.word → ⊥
      not_less word long =
          along_words (suc steps) (λ w. Finishes problem w → Less w r.word → ⊥)
          (λ w long ih h less. at_end w less long (ends w h (least w long ih less) (omega arith)))
          word long
        where
          least : (w : List ℕ) → length w ≡ suc steps → ((v : List ℕ) → length v ≡ suc steps → Less v w → Finishes problem v → Less v r.word → ⊥) → Less w r.word → IsLeast w
          least w long ih less v g (inl under) = shorter v g (omega arith)
          least w long ih less v g (inr under) = ih v (under.0 ∙ long) under.1 g (less_trans v w r.word under.1 less)

      -- each finishing word is no earlier
      no_later : (v : List ℕ) → Finishes problem v → (length v < suc steps) ⊎ (suc steps ≤ length v) → IsNoLater r.word v
      no_later v g (inl less) = absurd (shorter v g less)
      no_later v g (inr more) = by (cases_lt (suc steps) (length v))
        where
          compare : length v ≡ suc steps → Less v r.word ⊎ IsNoGreater r.word v → IsNoLater r.word v
          compare long (inl less) = absurd (not_less v long g less)
          compare long (inr greater) = inr (own.1 ∙ sym long, greater)

          by : (suc steps < length v) ⊎ (length v ≤ suc steps) → IsNoLater r.word v
          by (inl longer) = inl (let l = own.1 in omega arith)
          by (inr exact) =
              let long : length v ≡ suc steps = omega arith in
              compare long (less_or r.word v (own.1 ∙ sym long))

      -- so its word is the least
      found : IsLeastWord problem bound (Some r.word)
      found = (
        subst (Finishes problem) (append-nil r.word) (finishes_by r.word [] r.config own.0 (done_is problem r.config stands.1)),
        (let l = own.1 in omega arith),
        λ v g. no_later v g (cases_lt (length v) (suc steps)),
      )

    -- where no level has one, there is no least word
    none : ((steps : ℕ) → steps ≤ bound → first_done problem (at steps) ≡ None) → IsLeastWord problem bound None
    none clear word h = by (cases_lt (suc bound) (length word))
      where
        by : (suc bound < length word) ⊎ (length word ≤ suc bound) → suc bound < length word
        by (inl more) = more
        by (inr less) =
            absurd (none_finishes (suc bound) (λ earlier low. clear earlier (omega arith)) (omega arith) (suc bound) (omega arith) word less h)

    -- after an empty level comes an empty one
    empties : (steps : ℕ) → at steps ≡ [] → at (suc steps) ≡ []
    empties steps nothing =
        at_is (suc steps) ∙ ap (λ rs. keep_new same (before (suc steps)) (filter (is_within bound (suc steps)) (flat_map (successors problem taken) rs))) nothing

    -- the search by levels finds the least word
    pub levels_find_least : LevelsFindLeast problem taken same bound
    levels_find_least = record { found = λ steps r low clear first. found steps r low clear first; none = none; ends = empties }

    -- ## What the bound leaves out

    -- a configuration that some level up to this one has
    abbrev Held : ℕ → Config → Type 0
    Held steps c = (level : ℕ) × (r : Reached) × (level ≤ steps) × In r (at level) × (r.config ≡ c)

    -- what is held by a level is held by later ones
    held_later : (steps more : ℕ) (c : Config) → steps ≤ more → Held steps c → Held more c
    held_later steps more c low h = (h.0, h.1, (let l = h.2 in omega arith), h.3, h.4)

    -- what was seen up to a level, again
    seen_is : (steps : ℕ) → (level problem taken same bound steps).seen ≡ map (λ r. r.config) (at steps) ++ before steps
    seen_is zero = refl
    seen_is (suc steps) = refl

    -- what was seen before a level is held by it
    held_from : (steps : ℕ) (c : Config) → ((earlier : ℕ) → steps ≡ suc earlier → In c (before steps) → Held earlier c) → In c (before steps) → Held steps c
    held_from zero c deeper i = absurd i
    held_from (suc steps) c deeper i = held_later steps (suc steps) c (omega arith) (deeper steps refl i)

    -- what was seen up to a level is held by it
    held_seen : (steps : ℕ) (c : Config) → In c (level problem taken same bound steps).seen → Held steps c
    held_seen zero c i = by (in_split c (map (λ r. r.config) (at 0)) [] (subst (In c) (seen_is 0) i))
      where
        by : In c (map (λ r. r.config) (at 0)) ⊎ ⊥ → Held 0 c
        by (inl j) = let found = in_map (λ r. r.config) c (at 0) j in (0, found.0, omega arith, found.1, sym found.2)
        by (inr j) = absurd j
    held_seen (suc steps) c i = by (held_seen steps c) (in_split c (map (λ r. r.config) (at (suc steps))) (before (suc steps)) (subst (In c) (seen_is (suc steps)) i))
      where
        by : (In c (level problem taken same bound steps).seen → Held steps c) → In c (map (λ r. r.config) (at (suc steps))) ⊎ In c (before (suc steps)) → Held (suc steps) c
        by deeper (inl j) = let found = in_map (λ r. r.config) c (at (suc steps)) j in (suc steps, found.0, omega arith, found.1, sym found.2)
        by deeper (inr j) = held_later steps (suc steps) c (omega arith) (deeper j)

    -- what was seen before a level is held by it
    held_before : (steps : ℕ) (c : Config) → In c (before steps) → Held steps c
    held_before zero c i = absurd i
    held_before (suc steps) c i = held_later steps (suc steps) c (omega arith) (held_seen steps c i)

    -- a configuration is kept, or it was seen
    new_or_seen : (seen : List Config) (rs : List Reached) (r : Reached) → In r rs
        → ((s : Reached) × In s (keep_new same seen rs) × (s.config ≡ r.config)) ⊎ In r.config seen
    new_or_seen seen [] r i = absurd i
    new_or_seen seen (s ∷ rs) r (inl e) = by (list_any (same s.config) seen) refl
      where
        by : (b : Bool) → list_any (same s.config) seen ≡ b
            → ((t : Reached) × In t (cond b (keep_new same seen rs) (s ∷ keep_new same (s.config ∷ seen) rs)) × (t.config ≡ r.config)) ⊎ In r.config seen
        by true h =
            let found = any_some (same s.config) seen h in
            inr (subst (λ c. In c seen) (sym (ap (λ x. x.config) e ∙ sound s.config found.0 found.2)) found.1)
        by false h = inl (s, inl refl, ap (λ x. x.config) (sym e))
    new_or_seen seen (s ∷ rs) r (inr i) = by (list_any (same s.config) seen) (new_or_seen seen rs r i) (new_or_seen (s.config ∷ seen) rs r i)
      where
        by : (b : Bool) → ((t : Reached) × In t (keep_new same seen rs) × (t.config ≡ r.config)) ⊎ In r.config seen
            → ((t : Reached) × In t (keep_new same (s.config ∷ seen) rs) × (t.config ≡ r.config)) ⊎ In r.config (s.config ∷ seen)
            → ((t : Reached) × In t (cond b (keep_new same seen rs) (s ∷ keep_new same (s.config ∷ seen) rs)) × (t.config ≡ r.config)) ⊎ In r.config seen
        by true old new = old
        by false old (inl t) = inl (t.0, inr t.1, t.2)
        by false old (inr (inl e)) = inl (s, inl refl, sym e)
        by false old (inr (inr j)) = inr j

    -- a candidate within the bound is held
    held_candidate : (steps : ℕ) (r : Reached) → In r (from steps) → is_within bound steps r ≡ true → Held steps r.config
    held_candidate steps r i fits = by (new_or_seen (before steps) (filter (is_within bound steps) (from steps)) r (in_filter (is_within bound steps) r (from steps) i fits))
      where
        by : ((s : Reached) × In s (keep_new same (before steps) (filter (is_within bound steps) (from steps))) × (s.config ≡ r.config)) ⊎ In r.config (before steps) → Held steps r.config
        by (inl s) = (steps, s.0, omega arith, subst (In s.0) (sym (at_is steps)) s.1, s.2)
        by (inr j) = held_before steps r.config j

    -- each member of a level is within the bound
    passing_filter : (test : Reached → Bool) (rs : List Reached) → AllByRecursion (λ r. test r ≡ true) (filter test rs)
    passing_filter test [] = tt
    passing_filter test (r ∷ rs) = by (test r) refl (passing_filter test rs)
      where
        by : (b : Bool) → test r ≡ b → AllByRecursion (λ r. test r ≡ true) (filter test rs) → AllByRecursion (λ r. test r ≡ true) (cond b (r ∷ filter test rs) (filter test rs))
        by true e more = (e, more)
        by false e more = more

    -- what a level reaches is within the bound
    at_within : (steps : ℕ) (r : Reached) → In r (at steps) → is_within bound steps r ≡ true
    at_within steps r i =
        all_in (λ r. is_within bound steps r ≡ true) r (at steps)
        (subst (AllByRecursion (λ r. is_within bound steps r ≡ true)) (sym (at_is steps))
        (all_keep (λ r. is_within bound steps r ≡ true) same (before steps) (filter (is_within bound steps) (from steps)) (passing_filter (is_within bound steps) (from steps))))
        i

    -- something is left out because of the bound
    abbrev Out : Type 0
    Out = LeavesOut problem taken same bound

    -- a candidate is held, or the search leaves something out
    candidate_or_out : (steps : ℕ) (r : Reached) → In r (from steps) → Held steps r.config ⊎ Out
    candidate_or_out steps r i = by (is_within bound steps r) refl (list_any (same r.config) (before steps)) refl
      where
        by : (b : Bool) → is_within bound steps r ≡ b → (d : Bool) → list_any (same r.config) (before steps) ≡ d → Held steps r.config ⊎ Out
        by true fits d e = inl (held_candidate steps r i fits)
        by false beyond true e =
            let found = any_some (same r.config) (before steps) e in
            inl (held_before steps r.config (subst (λ c. In c (before steps)) (sym (sound r.config found.0 found.2)) found.1))
        by false beyond false e =
            let place = in_at r (from steps) i in
            inr (record { steps = steps; position = place.0; candidate = r; stands = place.1; beyond = beyond; unseen = e })

    -- what an initial network starts with is a candidate
    start_candidate : (number : ℕ) (network : Network) → slice_get problem.initials number ≡ Some network
        → In (record { word = number ∷ []; config = start problem network }) (from 0)
    start_candidate number network is =
        subst (λ j. In (record { word = j ∷ []; config = start problem network }) (starts problem 0 problem.initials)) (let e : 0 + number ≡ number = omega arith in e)
        (starts_in 0 number problem.initials network is)

    -- what a step leads to from what is held is a candidate
    next_candidate : (steps : ℕ) (c d : Config) (number : ℕ) (h : Held steps c) → taken c number ≡ Some d
        → In (record { word = h.1.word ++ number ∷ []; config = d }) (from (suc h.0))
    next_candidate steps c d number h step =
        in_flat_map (successors problem taken) h.1 (record { word = h.1.word ++ number ∷ []; config = d }) (at h.0) h.3
        (in_successors h.1 number d (ap (λ x. taken x number) h.4 ∙ step))

    -- what a word leads to is held, or something is left out
    held_or_out : (word : List ℕ) (steps : ℕ) (c d : Config) → LeadsWith word c d → Held steps c → Held (steps + length word) d ⊎ Out
    held_or_out [] steps c d leads h = inl (subst (Held (steps + 0)) leads (held_later steps (steps + 0) c (omega arith) h))
    held_or_out (n ∷ word) steps c d leads h =
        by (held_or_out word (suc steps) leads.0 d leads.2) (candidate_or_out (suc h.0) _ (next_candidate steps c leads.0 n h leads.1))
      where
        by : (Held (suc steps) leads.0 → Held (suc steps + length word) d ⊎ Out) → Held (suc h.0) leads.0 ⊎ Out → Held (steps + suc (length word)) d ⊎ Out
        by deeper (inl held) =
            let more = deeper (held_later (suc h.0) (suc steps) leads.0 (let l = h.2 in omega arith) held) in
            subst (λ k. Held k d ⊎ Out) (let e : suc steps + length word ≡ steps + suc (length word) = omega arith in e) more
        by deeper (inr out) = inr out

    -- ## Within the bound nothing is left out

    -- a step closes at most one node
    open_left : (word : List ℕ) (c d : Config) → LeadsWith word c d → length c.open_nodes ≤ length word + length d.open_nodes
    open_left [] c d leads = (let e = ap (λ x. length x.open_nodes) leads in omega arith)
    open_left (n ∷ word) c d leads =
        let more = open_left word leads.0 d leads.2 in
        let one = open_step problem c leads.0 n (sound_step c leads.0 n leads.1) in
        omega arith

    -- what a word leads to within the bound is held
    held_within : (word : List ℕ) (steps : ℕ) (c d : Config) → LeadsWith word c d → steps + length word + length d.open_nodes ≤ bound → Held steps c → Held (steps + length word) d
    held_within [] steps c d leads short h = subst (Held (steps + 0)) leads (held_later steps (steps + 0) c (omega arith) h)
    held_within (n ∷ word) steps c d leads short h =
        let left = open_left word leads.0 d leads.2 in
        let low = h.2 in
        let next : Reached = record { word = h.1.word ++ n ∷ []; config = leads.0 } in
        let fits : is_within bound (suc h.0) next ≡ true = le-leb (suc h.0 + length leads.0.open_nodes) bound (omega arith) in
        let held = held_candidate (suc h.0) next (next_candidate steps c leads.0 n h leads.1) fits in
        let more = held_within word (suc steps) leads.0 d leads.2 (omega arith) (held_later (suc h.0) (suc steps) leads.0 (omega arith) held) in
        subst (λ k. Held k d) (let e : suc steps + length word ≡ steps + suc (length word) = omega arith in e) more

    -- what was seen stays seen
    seen_grows : (steps more : ℕ) (c : Config) → In c (level problem taken same bound steps).seen → In c (level problem taken same bound (steps + more)).seen
    seen_grows steps zero c i = subst (λ k. In c (level problem taken same bound k).seen) (let e : steps ≡ steps + 0 = omega arith in e) i
    seen_grows steps (suc more) c i =
        subst (λ k. In c (level problem taken same bound k).seen) (let e : suc (steps + more) ≡ steps + suc more = omega arith in e)
        (subst (In c) (sym (seen_is (suc (steps + more)))) (in_right c (map (λ r. r.config) (at (suc (steps + more)))) (before (suc (steps + more))) (seen_grows steps more c i)))

    -- what is held was seen
    held_in : (steps : ℕ) (c : Config) → Held steps c → In c (level problem taken same bound steps).seen
    held_in steps c h =
        let here : In c (level problem taken same bound h.0).seen =
        subst (In c) (sym (seen_is h.0)) (in_left c (map (λ r. r.config) (at h.0)) (before h.0) (subst (λ d. In d (map (λ r. r.config) (at h.0))) h.4 (in_mapped (λ r. r.config) h.1 (at h.0) h.3))) in
        subst (λ k. In c (level problem taken same bound k).seen) (let l = h.2 in let e : h.0 + (steps - h.0) ≡ steps = omega arith in e) (seen_grows h.0 (steps - h.0) c here)

    -- a configuration is reached in so many steps
    abbrev pub ReachesWith : ℕ → Config → Type 0
    ReachesWith steps c =
        (number : ℕ) × (network : Network) × (slice_get problem.initials number ≡ Some network) × (word : List ℕ) × (length word ≡ steps) × LeadsWith word (start problem network) c

    -- what a word leads to is reached in as many steps as it has after its first number
    leads_reach : (word : List ℕ) (steps : ℕ) (c : Config) → Leads word c → length word ≡ suc steps → ReachesWith steps c
    leads_reach [] steps c h long = absurd h
    leads_reach (k ∷ word) steps c h long = (k, h.0, h.1, word, (let e : length word ≡ steps = omega arith in e), h.2)

    -- what is reached, but in no number of steps within the bound, leaves something out
    pub left_out : (c : Config) (steps : ℕ) → ReachesWith steps c → ((m : ℕ) → ReachesWith m c → m + length c.open_nodes ≤ bound → ⊥) → Out
    left_out c steps h beyond = by (candidate_or_out 0 _ (start_candidate h.0 h.1 h.2))
      where
        last : Held (0 + length h.3) c ⊎ Out → Out
        last (inr out) = out
        last (inl held) =
            let own = all_in (Sound held.0) held.1 (at held.0) (facts held.0).are_sound held.3 in
            let fits = leb-true (held.0 + length held.1.config.open_nodes) bound (at_within held.0 held.1 held.3) in
            let same_open = ap (λ x. length x.open_nodes) held.4 in
            absurd (beyond held.0 (subst (ReachesWith held.0) held.4 (leads_reach held.1.word held.0 held.1.config own.0 own.1)) (omega arith))

        by : Held 0 (start problem h.1) ⊎ Out → Out
        by (inr out) = out
        by (inl held) = last (held_or_out h.3 0 (start problem h.1) c h.5 held)

    -- what an earlier level holds was seen before
    earlier_in : (steps m : ℕ) (c : Config) → m < steps → Held m c → In c (before steps)
    earlier_in zero m c low h = absurd (omega arith)
    earlier_in (suc steps) m c low h = held_in steps c (held_later m steps c (omega arith) h)

    -- what is left out is reached
    pub out_reached : (out : Out) → ReachesWith out.steps out.candidate.config
    out_reached out =
        let own = all_in (Sound out.steps) out.candidate (from out.steps) (candidates_sound out.steps (λ e same_steps. facts e)) (at_in out.candidate (from out.steps) out.position out.stands) in
        leads_reach out.candidate.word out.steps out.candidate.config own.0 own.1

    -- what is left out is reached in no number of steps within the bound
    pub out_beyond : ((c : Config) → same c c ≡ true) → (out : Out) (m : ℕ) → ReachesWith m out.candidate.config → m + length out.candidate.config.open_nodes ≤ bound → ⊥
    out_beyond itself out m h short =
        let c = out.candidate.config in
        let long = h.4 in
        let left = open_left h.3 (start problem h.1) c h.5 in
        let first : Reached = record { word = h.0 ∷ []; config = start problem h.1 } in
        let fits : is_within bound 0 first ≡ true = le-leb (0 + length (start problem h.1).open_nodes) bound (omega arith) in
        let begun = held_candidate 0 first (start_candidate h.0 h.1 h.2) fits in
        let held = held_within h.3 0 (start problem h.1) c h.5 (omega arith) begun in
        let over = leb-false (out.steps + length c.open_nodes) bound out.beyond in
        both_ways (list_any (same c) (before out.steps)) out.unseen
        (any_in (same c) c (before out.steps) (earlier_in out.steps (0 + length h.3) c (omega arith) held) (itself c))
