-- From what the closed list holds to what a search answers.
use Rattle.std.proofs.Common.{◌≡◌, ℕ, ◌+◌, ◌<◌, ◌≤◌, ◌⊎◌, Bool, true, false, List, [], ◌∷◌, ◌++◌, length, refl, sym, subst, inl, inr, arith, slice_get, Some, get_or, All, Option}
use Rattle.std.specs.Prelude.{IfSome, max}
use Rattle.std.proofs.Math.Nat.{max-le}
use Rattle.std.proofs.lemmas.Bool.{cases_lt}
use Rattle.std.proofs.lemmas.Option.{slice_get_within, slice_get-get_or, get_or_from_slice_get}
use Rattle.word_machine.specs.Words.{Precedes, MeetsBound, Leads, Reaches, Finishes, step_count}
use Rattle.word_machine.specs.Machine.{WordMachine, IsLawful, IsStep, IsDone, IsLiveStep, IsFinishing, IsLowerBound}
use Rattle.word_machine.specs.Contents.{Contents, words_of}
use Rattle.word_machine.specs.Closed.{Search, search_by, IsAt, IsClosedTo}
use Rattle.word_machine.specs.Expansion.{IsFirstDone}
use Rattle.word_machine.specs.declared.measure.Measure.{Measure}
use Rattle.word_machine.specs.declared.measure.Measure.TheVariants.{OpenNodes, LowerBound}
use Rattle.word_machine.specs.declared.found.Outcome.{Outcome}
use Rattle.word_machine.specs.declared.found.Outcome.TheVariants.{Finished, Past, Exhausted, GivenUp, Stopped}
use Rattle.word_machine.specs.Answer.{IsAnswer, IsEnding, IsOutcome, ending_of, found_of, measure_of, IsLeastFinishing, NoneFinishes, NoneFinishesBefore, NeverFinishes}
use Rattle.word_machine.proofs.Meanings.{all_at}
use Rattle.word_machine.proofs.Order.{open_len-leads, IsAtMost-length, step_count-reached}
use Rattle.word_machine.specs.Dive.{AreKeptBelow}
use Rattle.word_machine.proofs.Complete.{CountsOpen, covered_below, found_finishes, found_length, found_least, close_last, none_within, none_before, never, never_met}
use Rattle.word_machine.proofs.Levels.{word_at}

-- the open nodes, and a bound from below, each measure what is left
pub counts_open : {C : Type 0} (m : WordMachine C) (belongs : C → Type 0) → IsLawful m belongs → (bound : ℕ) → CountsOpen (search_by m m.open_len bound)
counts_open m belongs laws bound =
    record { wants_open = λ c d n s. laws.wants_open c d n s.0; closes_one = λ c d n s. laws.closes_one c d n s.0; done_closed = laws.done_closed }

-- so does a bound from below
pub counts_bound : {C : Type 0} (m : WordMachine C) (belongs : C → Type 0) → IsLawful m belongs → (lower : C → ℕ) → IsLowerBound m lower → (bound : ℕ) → CountsOpen (search_by m lower bound)
counts_bound m belongs laws lower is_lower bound = record {
  wants_open = λ c d n s. (let some : 0 < m.open_len c = laws.wants_open c d n s.0 in let more : m.open_len c ≤ lower c = is_lower.above_open c in omega arith);
  closes_one = is_lower.lowers_one;
  done_closed = is_lower.done_zero;
}

-- each measure does
pub counts_by : {C : Type 0} (m : WordMachine C) (belongs : C → Type 0) → IsLawful m belongs → (lower : C → ℕ) → IsLowerBound m lower → (measure : Measure) → (bound : ℕ)
    → CountsOpen (search_by m (measure_of m lower measure) bound)
counts_by m belongs laws lower is_lower OpenNodes bound = counts_open m belongs laws bound
counts_by m belongs laws lower is_lower LowerBound bound = counts_bound m belongs laws lower is_lower bound

module _ {C : Type 0} (m : WordMachine C) (belongs : C → Type 0) (laws : IsLawful m belongs) where
  -- live steps are steps
  all_leads : (c d : C) (ns : List ℕ) → Leads (IsLiveStep m) c ns d → Leads (IsStep m) c ns d
  all_leads c d [] leads = leads
  all_leads c d (n ∷ ns) leads = (leads.0, leads.1.0, all_leads leads.0 d ns leads.2)

  -- the steps to a done configuration are live
  live_leads : (c d : C) (ns : List ℕ) → belongs c → IsDone m d → Leads (IsStep m) c ns d → Leads (IsLiveStep m) c ns d
  live_leads c d [] own done leads = leads
  live_leads c d (n ∷ ns) own done leads =
      (leads.0, (leads.1, λ dead. laws.dead_never c leads.0 d n ns own dead leads.1 leads.2 done), live_leads leads.0 d ns (laws.stays c leads.0 n own leads.1) done leads.2)

  -- an initial configuration is one of the machine's
  initial_belongs : (i : ℕ) (c : C) → slice_get m.initials i ≡ Some c → belongs c
  initial_belongs i c at = subst belongs (get_or_from_slice_get m.initials i c c at) (laws.starts i c (slice_get_within m.initials i c at))

  -- no finishing word has a dead number
  pub live_finishes : (w : List ℕ) → IsFinishing m w → Finishes (IsLiveStep m) (IsDone m) m.initials w
  live_finishes [] finish = absurd finish.1
  live_finishes (i ∷ ns) finish =
      (finish.0, (finish.1.0, finish.1.1, live_leads finish.1.0 finish.0 ns (initial_belongs i finish.1.0 finish.1.1) finish.2 finish.1.2), finish.2)

  -- and what finishes by live steps finishes
  pub all_finishes : (w : List ℕ) → Finishes (IsLiveStep m) (IsDone m) m.initials w → IsFinishing m w
  all_finishes [] finish = absurd finish.1
  all_finishes (i ∷ ns) finish = (finish.0, (finish.1.0, finish.1.1, all_leads finish.1.0 finish.0 ns finish.1.2), finish.2)

  -- live steps from one of the machine's configurations lead to another
  leads_belong : (c d : C) (ns : List ℕ) → belongs c → Leads (IsLiveStep m) c ns d → belongs d
  leads_belong c d [] own leads = subst belongs leads own
  leads_belong c d (n ∷ ns) own leads = leads_belong leads.0 d ns (laws.stays c leads.0 n own leads.1.0) leads.2

  -- what a word reaches is one of the machine's
  reaches_belong : (w : List ℕ) (c : C) → Reaches (IsLiveStep m) m.initials w c → belongs c
  reaches_belong [] c reached = absurd reached
  reaches_belong (i ∷ ns) c reached = leads_belong reached.0 c ns (initial_belongs i reached.0 reached.1) reached.2

  -- a finishing word has one number more than steps
  steps_of : (w : List ℕ) → IsFinishing m w → step_count w + 1 ≡ length w
  steps_of w finish = step_count-reached (IsStep m) m.initials finish.0 w finish.1

  module _ (measure : C → ℕ) (bound : ℕ) (counts : CountsOpen (search_by m measure bound)) where
    -- what is searched
    abbrev S : Search C
    S = search_by m measure bound

    -- a done initial configuration, with none before it
    pub answer_initial : (i : ℕ) (c : C) → slice_get m.initials i ≡ Some c → IsDone m c
        → ((j : ℕ) (d : C) → j < i → slice_get m.initials j ≡ Some d → IsDone m d → ⊥) → IsLeastFinishing m bound (i ∷ [])
    answer_initial i c at done first = record {
      finishes = (c, (c, at, refl), done);
      within = omega arith;
      least = least;
    }
      where
        least : (other : List ℕ) → IsFinishing m other → Precedes other (i ∷ []) → ⊥
        least [] finish before = absurd finish.1
        least (j ∷ []) finish before =
            elim before [
              | inl shorter ↦ omega arith
              | inr same ↦ elim same.1 [
                | inl lower ↦ first j finish.1.0 lower finish.1.1 (subst (IsDone m) (sym finish.1.2) finish.2)
                | inr alike ↦ alike.1
              ]
            ]
        least (j ∷ n ∷ ns) finish before = (let short : length (j ∷ n ∷ ns) ≤ length (i ∷ []) = IsAtMost-length (j ∷ n ∷ ns) (i ∷ []) (inr before) in omega arith)

    module _ (contents : Contents C) (level low : ℕ) (closed : IsClosedTo S contents.keys (words_of contents.origins) contents.cut level low) where
      -- the first place of the level with a done successor
      pub answer_found : (p n : ℕ) → level < bound → IsFirstDone (IsLiveStep m) (IsDone m) contents.keys low (length contents.keys) p n
          → IsLeastFinishing m bound (get_or (words_of contents.origins) p [] ++ n ∷ [])
      answer_found p n short first =
          let c = first.configuration in
          let words = words_of contents.origins in
          let w = get_or words p [] in
          let at : IsAt contents.keys words p c w = word_at S contents level low closed p c first.at in
          let finish : Finishes (IsLiveStep m) (IsDone m) m.initials (w ++ n ∷ []) =
          found_finishes S counts contents.keys words contents.cut level low closed p n c first.number.to w first.from_first at first.number.step first.number.done first.place first.number.least in
          let finish' : IsFinishing m (w ++ n ∷ []) = all_finishes (w ++ n ∷ []) finish in
          let long : length (w ++ n ∷ []) ≡ level + 2 =
          found_length S counts contents.keys words contents.cut level low closed p n c first.number.to w first.from_first at first.number.step first.number.done first.place first.number.least in
          let steps : step_count (w ++ n ∷ []) + 1 ≡ length (w ++ n ∷ []) = steps_of (w ++ n ∷ []) finish' in
          record {
            finishes = finish';
            within = omega arith;
            least = λ other finishes before.
                found_least S counts contents.keys words contents.cut level low closed p n c first.number.to w first.from_first at first.number.step first.number.done first.place first.number.least
                other short (live_finishes other finishes) before;
          }

      -- all ranks are expanded, or the level is at the bound
      pub exhausted : (bound ≤ level) ⊎ (low ≡ length contents.keys)
          → (last : ℕ) × (end : ℕ) × (end ≡ length contents.keys) × IsClosedTo S contents.keys (words_of contents.origins) contents.cut last end
      exhausted (inl past) = (level + 1, length contents.keys, refl, close_last S counts contents.keys (words_of contents.origins) contents.cut level low closed past)
      exhausted (inr all) = (level, low, all, closed)

      -- where something was cut, no word finishes within the bound, which is met
      pub answer_none : (bound ≤ level) ⊎ (low ≡ length contents.keys) → contents.cut.any ≡ true
          → NoneFinishes m bound × MeetsBound (IsLiveStep m) measure m.initials bound
      answer_none end cut =
          let e = exhausted end in (
            (λ word finish. elim (cases_lt bound (step_count word)) [
              | inl over ↦ over
              | inr within ↦ (let steps : step_count word + 1 ≡ length word = steps_of word finish in
                  absurd (none_within S counts contents.keys (words_of contents.origins) contents.cut e.0 e.1 e.3 e.2 word (omega arith) (live_finishes word finish)))
            ]),
            closed.met cut,
          )

      -- no word finishes with fewer steps than what was cut has at least
      pub none_before_next : (bound ≤ level) ⊎ (low ≡ length contents.keys) → (next : ℕ) → next ≤ bound + contents.cut.past → (word : List ℕ) → IsFinishing m word → next ≤ step_count word
      none_before_next end next least word finish =
          let e = exhausted end in
          let steps : step_count word + 1 ≡ length word = steps_of word finish in
          elim (cases_lt (step_count word) next) [
            | inl fewer ↦ absurd (none_before S counts contents.keys (words_of contents.origins) contents.cut e.0 e.1 e.3 e.2 word (omega arith) (live_finishes word finish))
            | inr enough ↦ enough
          ]

      -- what a word reaches stands in the list, where its steps and those left at least are fewer than of what was cut
      pub kept_below : (bound ≤ level) ⊎ (low ≡ length contents.keys) → (next : ℕ) → next ≤ bound + contents.cut.past
          → AreKeptBelow m measure (max next (bound + 1)) contents.keys
      kept_below end next least word c reached fewer =
          let e = exhausted end in
          let steps : step_count word + 1 ≡ length word = step_count-reached (IsLiveStep m) m.initials c word reached in
          let size = step_count word + measure c in
          let near : (length word + measure c < bound + 2) ⊎ (length word + measure c < bound + 1 + contents.cut.past) =
          elim (cases_lt size next) [
            | inl less ↦ inr (omega arith)
            | inr no_less ↦ elim (cases_lt size (bound + 1)) [
              | inl within ↦ inl (omega arith)
              | inr past ↦ (let most : max next (bound + 1) ≤ size = max-le no_less past in absurd (omega (arith, fewer)))
            ]
          ] in
          let k = covered_below S counts contents.keys (words_of contents.origins) contents.cut e.0 e.1 e.3 e.2 word c reached near in
          (k.rank, k.at.key)

      -- where nothing was, no word finishes, and the bound is not met
      pub answer_unsolvable : (bound ≤ level) ⊎ (low ≡ length contents.keys) → contents.cut.any ≡ false
          → NeverFinishes m × (MeetsBound (IsLiveStep m) measure m.initials bound → ⊥)
      answer_unsolvable end uncut =
          let e = exhausted end in (
            (λ word finish. never S counts contents.keys (words_of contents.origins) contents.cut e.0 e.1 e.3 e.2 uncut word (live_finishes word finish)),
            never_met S counts contents.keys (words_of contents.origins) contents.cut e.0 e.1 e.3 e.2 uncut,
          )

      -- what is told where nothing is left to expand
      pub outcome : (bound ≤ level) ⊎ (low ≡ length contents.keys) → (told : Outcome)
          → (contents.cut.any ≡ true → (least : ℕ) × (wide : Option ℕ) × (told ≡ Past least wide) × (least ≤ bound + contents.cut.past)) → (contents.cut.any ≡ false → told ≡ Exhausted) → IsOutcome m measure bound told
      outcome end told past exhausted_so = by contents.cut.any refl
        where
          by : (cut : Bool) → contents.cut.any ≡ cut → IsOutcome m measure bound told
          by true cut =
              let p = past cut in
              let none = answer_none end cut in
              subst (IsOutcome m measure bound) (sym p.2) (none.0, none.1, none_before_next end p.0 p.3)
          by false cut = subst (IsOutcome m measure bound) (sym (exhausted_so cut)) (answer_unsolvable end cut)

      -- each configuration of the list is one of the machine's
      pub keys_belong : All belongs contents.keys
      keys_belong k d inside =
          let c = get_or contents.keys k d in
          let at = word_at S contents level low closed k c (slice_get-get_or contents.keys k d inside) in
          reaches_belong (get_or (words_of contents.origins) k []) c (closed.kept.reached k c (get_or (words_of contents.origins) k []) at)

-- no word finishes with fewer steps than are left at least at each initial configuration
pub none_before_least : {C : Type 0} (m : WordMachine C) (belongs : C → Type 0) (laws : IsLawful m belongs) (lower : C → ℕ) (is_lower : IsLowerBound m lower) (least : ℕ)
    → All (λ c. least ≤ lower c) m.initials → NoneFinishesBefore m least
none_before_least m belongs laws lower is_lower least each word finish =
    by word (live_finishes m belongs laws word finish)
  where
    by : (word : List ℕ) → Finishes (IsLiveStep m) (IsDone m) m.initials word → least ≤ step_count word
    by [] finish = absurd finish.1
    by (i ∷ ns) finish =
        let from = finish.1.0 in
        let enough : least ≤ lower from = all_at (λ c. least ≤ lower c) m.initials each i from finish.1.1 in
        let along : lower from ≤ lower finish.0 + length ns = open_len-leads (IsLiveStep m) lower is_lower.lowers_one from finish.0 ns finish.1.2 in
        let none : lower finish.0 ≡ 0 = is_lower.done_zero finish.0 finish.2 in
        omega arith

-- a search within a bound, and what it left out, raise what is known
pub none_before_more : {C : Type 0} (m : WordMachine C) (bound next : ℕ) → NoneFinishes m bound → NoneFinishesBefore m next → NoneFinishesBefore m (max next (bound + 1))
none_before_more m bound next none before word finish =
    let over : bound < step_count word = none word finish in
    let later : next ≤ step_count word = before word finish in
    max-le later (omega arith)

-- the greater of two numbers of steps below which none finishes is one
pub none_before_both : {C : Type 0} (m : WordMachine C) (a b : ℕ) → NoneFinishesBefore m a → NoneFinishesBefore m b → NoneFinishesBefore m (max a b)
none_before_both m a b first second word finish = max-le (first word finish) (second word finish)

-- what became of a search by the open nodes is an ending
pub ending_is : {C : Type 0} (m : WordMachine C) (bound none_below : ℕ) (o : Outcome) → IsOutcome m m.open_len bound o → NoneFinishesBefore m none_below → IsEnding m bound (ending_of none_below o)
ending_is m bound none_below (Finished word) told none = told
ending_is m bound none_below (Past least wide) told none = (told.0, told.1)
ending_is m bound none_below Exhausted told none = told
ending_is m bound none_below GivenUp told none = none
ending_is m bound none_below Stopped told none = none

-- what became of a search by the open nodes is an answer, unless it was given up or stopped
pub answer_of : {C : Type 0} (m : WordMachine C) (bound : ℕ) (o : Outcome) → IsOutcome m m.open_len bound o → IfSome (found_of o) (IsAnswer m bound)
answer_of m bound (Finished word) told = told
answer_of m bound (Past least wide) told = (told.0, told.1)
answer_of m bound Exhausted told = told
answer_of m bound GivenUp told = tt
answer_of m bound Stopped told = tt
