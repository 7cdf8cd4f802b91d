-- A machine with only some of another's numbers answers as the other does.
use Rattle.std.proofs.Common.{◌≡◌, ℕ, suc, ◌+◌, ◌<◌, ◌≤◌, ◌⊎◌, true≢false, List, [], ◌∷◌, length, Option, Some, refl, sym, ap, subst, ◌∙◌, inl, inr, arith, slice_get}
use Rattle.std.proofs.lemmas.Bool.{cases_lt}
use Rattle.std.proofs.lemmas.Option.{same_Some}
use Rattle.word_machine.specs.declared.found.Found.{Found}
use Rattle.word_machine.specs.declared.found.Found.TheVariants.{Word, None as NoWord, Unsolvable}
use Rattle.word_machine.specs.Words.{IsLexicographicallyBefore, Precedes, Leads, Reaches, step_count}
use Rattle.word_machine.specs.Machine.{WordMachine, IsStep, IsLiveStep, IsFinishing, IsMet}
use Rattle.word_machine.specs.Answer.{IsLeastFinishing, NoneFinishes, NeverFinishes, IsAnswer}
use Rattle.word_machine.proofs.Order.{lexicographic_trans, lexicographic_irrefl}
use Rattle.htn_walk.specs.Fewer.{FinishesLive, HasEnough, numbers_from, numbers_of, IsToldBy}

-- ## Words

-- of two words of one length the first comes before, or they are the same, or the second comes before
trichotomy : (v w : List ℕ) → length v ≡ length w → IsLexicographicallyBefore v w ⊎ ((v ≡ w) ⊎ IsLexicographicallyBefore w v)
trichotomy [] [] long = inr (inl refl)
trichotomy [] (y ∷ w) long = absurd (omega arith)
trichotomy (x ∷ v) [] long = absurd (omega arith)
trichotomy (x ∷ v) (y ∷ w) long =
    elim (cases_lt x y) [
      | inl less ↦ inl (inl less)
      | inr most ↦ elim (cases_lt y x) [
        | inl more ↦ inr (inr (inl more))
        | inr least ↦ (let e : x ≡ y = omega arith in
            let shorter : length v ≡ length w = omega arith in
            elim (trichotomy v w shorter) [
              | inl before ↦ inl (inr (e, before))
              | inr other ↦ elim other [
                | inl same ↦ inr (inl (ap (λ n. n ∷ v) e ∙ ap (λ l. y ∷ l) same))
                | inr after ↦ inr (inr (inr (sym e, after)))
              ]
            ])
      ]
    ]

-- w is v or comes before it, and is as long
abbrev pub IsNoLater : List ℕ → List ℕ → Type 0
IsNoLater w v = (w ≡ v) ⊎ IsLexicographicallyBefore w v

-- a number that is no greater, in front of a word that is no later, makes one that is no later
no_later_cons : (m n : ℕ) (v w : List ℕ) → m ≤ n → IsNoLater v w → IsNoLater (m ∷ v) (n ∷ w)
no_later_cons m n v w most later =
    elim (cases_lt m n) [
      | inl less ↦ inr (inl less)
      | inr least ↦ (let e : m ≡ n = omega arith in elim later [
        | inl same ↦ inl (ap (λ k. k ∷ v) e ∙ ap (λ l. n ∷ l) same)
        | inr before ↦ inr (inr (e, before))
      ])
    ]

module _ {C : Type 0} (Step Other : C → ℕ → C → Type 0) (each : (c d : C) (n : ℕ) → Step c n d → Other c n d) where
  -- a step that is one of the other machine leads there too
  leads_by : (c d : C) (ns : List ℕ) → Leads Step c ns d → Leads Other c ns d
  leads_by c d [] leads = leads
  leads_by c d (n ∷ ns) leads = (leads.0, each c leads.0 n leads.1, leads_by leads.0 d ns leads.2)

  -- what is reached by the one machine's steps is reached by the other's
  reaches_by : (initials : List C) (w : List ℕ) (c : C) → Reaches Step initials w c → Reaches Other initials w c
  reaches_by initials [] c reached = absurd reached
  reaches_by initials (i ∷ ns) c reached = (reached.0, reached.1, leads_by reached.0 c ns reached.2)

-- words of one length that reach something have equally many steps
same_steps : {C : Type 0} (Step Other : C → ℕ → C → Type 0) (initials others : List C) (v w : List ℕ) (c d : C) → length v ≡ length w → Reaches Step initials v c → Reaches Other others w d → step_count v ≡ step_count w
same_steps Step Other initials others [] w c d long reached other = absurd reached
same_steps Step Other initials others (i ∷ v) [] c d long reached other = absurd other
same_steps Step Other initials others (i ∷ v) (j ∷ w) c d long reached other = omega arith

-- ## Words of the one as words of the other

module _ {C : Type 0} (m few : WordMachine C) (initial_of : ℕ → ℕ) (number_of : C → ℕ → ℕ) (enough : HasEnough m few initial_of number_of) where
  -- the numbers of the ranks from a configuration on
  abbrev along : Option C → List ℕ → List ℕ
  along = numbers_from m few initial_of number_of

  -- the numbers of a word of ranks
  abbrev told : List ℕ → List ℕ
  told = numbers_of m few initial_of number_of

  -- the numbers of ranks lead where the ranks do, by steps that are not dead
  along_leads : (c d : C) (ranks : List ℕ) → Leads (IsStep few) c ranks d → Leads (IsLiveStep m) c (along (Some c) ranks) d
  along_leads c d [] leads = leads
  along_leads c d (rank ∷ ranks) leads =
      (leads.0, enough.step c leads.0 rank leads.1, subst (λ o. Leads (IsLiveStep m) leads.0 (along o ranks) d) (sym leads.1) (along_leads leads.0 d ranks leads.2))

  -- the numbers are as many as the ranks
  along_length : (c d : C) (ranks : List ℕ) → Leads (IsStep few) c ranks d → length (along (Some c) ranks) ≡ length ranks
  along_length c d [] leads = refl
  along_length c d (rank ∷ ranks) leads = ap suc (ap (λ o. length (along o ranks)) leads.1 ∙ along_length leads.0 d ranks leads.2)

  -- what comes first comes first by the other's numbers too
  along_before : (c d e : C) (v w : List ℕ) → Leads (IsStep few) c v d → Leads (IsStep few) c w e → IsLexicographicallyBefore v w
      → IsLexicographicallyBefore (along (Some c) v) (along (Some c) w)
  along_before c d e [] [] p q before = before
  along_before c d e [] (s ∷ w) p q before = tt
  along_before c d e (r ∷ v) [] p q before = absurd before
  along_before c d e (r ∷ v) (s ∷ w) p q before =
      elim before [
        | inl less ↦ inl (enough.steps_ascend c p.0 q.0 r s less p.1 q.1)
        | inr equal ↦ (
            let to : q.0 ≡ p.0 = same_Some q.0 p.0 (sym q.1 ∙ ap (few.step c) (sym equal.0) ∙ p.1) in
            let rest = along_before p.0 d e v w p.2 (subst (λ x. Leads (IsStep few) x w e) to q.2) equal.1 in
            inr (
              ap (number_of c) equal.0,
              subst (λ o. IsLexicographicallyBefore (along o v) (along (few.step c s) w)) (sym p.1)
                  (subst (λ o. IsLexicographicallyBefore (along (Some p.0) v) (along o w)) (sym (q.1 ∙ ap Some to)) rest),
            ))
      ]

  -- ranks that lead where numbers that are not dead lead, and are no later
  abbrev IsTold : C → C → List ℕ → Type 0
  IsTold c d v = (ranks : List ℕ) × Leads (IsStep few) c ranks d × (length ranks ≡ length v) × IsNoLater (along (Some c) ranks) v

  -- where live numbers lead, there are ranks that lead there too, with numbers that are no later
  along_all : (c d : C) (v : List ℕ) → Leads (IsLiveStep m) c v d → IsTold c d v
  along_all c d [] leads = ([], leads, refl, inl refl)
  along_all c d (n ∷ v) leads =
      let first = enough.first_step c leads.0 n leads.1 in
      let rest = along_all leads.0 d v leads.2 in (
        first.0 ∷ rest.0,
        (leads.0, first.1, rest.1),
        ap suc rest.2,
        no_later_cons (number_of c first.0) n (along (few.step c first.0) rest.0) v first.2 (subst (λ o. IsNoLater (along o rest.0) v) (sym first.1) rest.3),
      )

  -- the numbers of a word reach what its ranks reach
  told_reaches : (w : List ℕ) (c : C) → Reaches (IsStep few) few.initials w c → Reaches (IsLiveStep m) m.initials (told w) c
  told_reaches [] c reached = absurd reached
  told_reaches (rank ∷ ranks) c reached = (
    reached.0,
    enough.initial rank reached.0 reached.1,
    subst (λ o. Leads (IsLiveStep m) reached.0 (along o ranks) c) (sym reached.1) (along_leads reached.0 c ranks reached.2),
  )

  -- the numbers of a word are as many as its ranks
  told_length : (w : List ℕ) (c : C) → Reaches (IsStep few) few.initials w c → length (told w) ≡ length w
  told_length [] c reached = refl
  told_length (rank ∷ ranks) c reached = ap suc (ap (λ o. length (along o ranks)) reached.1 ∙ along_length reached.0 c ranks reached.2)

  -- a word of ranks before another has its numbers before the other's
  told_before : (v w : List ℕ) (c d : C) → Reaches (IsStep few) few.initials v c → Reaches (IsStep few) few.initials w d → IsLexicographicallyBefore v w
      → IsLexicographicallyBefore (told v) (told w)
  told_before [] w c d p q before = absurd p
  told_before (r ∷ v) [] c d p q before = absurd before
  told_before (r ∷ v) (s ∷ w) c d p q before =
      elim before [
        | inl less ↦ inl (enough.initials_ascend r s p.0 q.0 less p.1 q.1)
        | inr equal ↦ (
            let to : q.0 ≡ p.0 = same_Some q.0 p.0 (sym q.1 ∙ ap (slice_get few.initials) (sym equal.0) ∙ p.1) in
            let rest = along_before p.0 c d v w p.2 (subst (λ x. Leads (IsStep few) x w d) to q.2) equal.1 in
            inr (
              ap initial_of equal.0,
              subst (λ o. IsLexicographicallyBefore (along o v) (along (slice_get few.initials s) w)) (sym p.1)
                  (subst (λ o. IsLexicographicallyBefore (along (Some p.0) v) (along o w)) (sym (q.1 ∙ ap Some to)) rest),
            ))
      ]

  -- each word without dead numbers has one of ranks that reaches the same, is as long and no later
  told_all : (v : List ℕ) (c : C) → Reaches (IsLiveStep m) m.initials v c
      → (ranks : List ℕ) × Reaches (IsStep few) few.initials ranks c × (length ranks ≡ length v) × IsNoLater (told ranks) v
  told_all [] c reached = absurd reached
  told_all (i ∷ v) c reached =
      let first = enough.first_initial i reached.0 reached.1 in
      let rest = along_all reached.0 c v reached.2 in (
        first.0 ∷ rest.0,
        (reached.0, first.1, rest.1),
        ap suc rest.2,
        no_later_cons (initial_of first.0) i (along (slice_get few.initials first.0) rest.0) v first.2 (subst (λ o. IsNoLater (along o rest.0) v) (sym first.1) rest.3),
      )

  -- ## Answers

  -- each step of the machine with fewer numbers is live in it
  live_few : (c d : C) (rank : ℕ) → IsStep few c rank d → IsLiveStep few c rank d
  live_few c d rank step = (step, λ dead. true≢false (sym dead ∙ enough.none_dead c rank))

  -- the numbers of a finishing word finish
  told_finishes : (w : List ℕ) → IsFinishing few w → IsFinishing m (told w)
  told_finishes w finish = (
    finish.0,
    reaches_by (IsLiveStep m) (IsStep m) (λ c d n s. s.0) m.initials (told w) finish.0 (told_reaches w finish.0 finish.1),
    sym (enough.is_done finish.0) ∙ finish.2,
  )

  module _ (alive : FinishesLive m) where
    -- a finishing word has one of ranks that finishes, is as long and no later
    finishes_told : (v : List ℕ) → IsFinishing m v → (ranks : List ℕ) × IsFinishing few ranks × (length ranks ≡ length v) × IsNoLater (told ranks) v
    finishes_told v finish =
        let live = alive v finish in
        let ranks = told_all v live.0 live.1 in
        (ranks.0, (live.0, ranks.1, enough.is_done live.0 ∙ live.2), ranks.2, ranks.3)

    -- finishing words of one length have equally many steps in both machines
    steps_told : (v w : List ℕ) → IsFinishing m v → IsFinishing few w → length w ≡ length v → step_count w ≡ step_count v
    steps_told v w p q long = same_steps (IsStep few) (IsStep m) few.initials m.initials w v q.0 p.0 long q.1 p.1

    module _ (bound : ℕ) where
      -- a word of ranks whose numbers are no later than one before the told word is before the word
      none_before : (w v ranks : List ℕ) (c d : C) → Reaches (IsStep few) few.initials w c → Reaches (IsStep few) few.initials ranks d → length ranks ≡ length w → IsNoLater (told ranks) v
          → IsLexicographicallyBefore v (told w) → IsLexicographicallyBefore ranks w
      none_before w v ranks c d p q long later before =
          elim (trichotomy ranks w long) [
            | inl first ↦ first
            | inr other ↦ (
                let after : IsLexicographicallyBefore (told ranks) (told w) =
                elim later [
                  | inl same ↦ subst (λ x. IsLexicographicallyBefore x (told w)) (sym same) before
                  | inr lower ↦ lexicographic_trans (told ranks) v (told w) lower before
                ] in
                absurd (elim other [
                  | inl same ↦ lexicographic_irrefl (told w) (subst (λ x. IsLexicographicallyBefore (told x) (told w)) same after)
                  | inr lower ↦ lexicographic_irrefl (told w) (lexicographic_trans (told w) (told ranks) (told w) (told_before w ranks c d p q lower) after)
                ]))
          ]

      -- the numbers of the least finishing word are the least finishing numbers
      pub least_told : (w : List ℕ) → IsLeastFinishing few bound w → IsLeastFinishing m bound (told w)
      least_told w least = record {
        finishes = told_finishes w least.finishes;
        within = subst (λ n. n ≤ bound) (steps_told (told w) w (told_finishes w least.finishes) least.finishes (sym (told_length w least.finishes.0 least.finishes.1))) least.within;
        least = none;
      }
        where
          none : (other : List ℕ) → IsFinishing m other → Precedes other (told w) → ⊥
          none other finish before =
              let down = finishes_told other finish in
              let long : length (told w) ≡ length w = told_length w least.finishes.0 least.finishes.1 in
              let same : length down.0 ≡ length other = down.2 in
              elim before [
                | inl shorter ↦ least.least down.0 down.1 (inl (omega arith))
                | inr equal ↦ (let alike : length other ≡ length (told w) = equal.0 in
                    let by : length down.0 ≡ length w = omega arith in
                    least.least down.0 down.1 (inr (by, none_before w other down.0 least.finishes.0 down.1.0 least.finishes.1 down.1.1 by down.3 equal.1)))
              ]

      -- where no word of ranks within the bound finishes, no numbers do
      pub none_told : NoneFinishes few bound → NoneFinishes m bound
      none_told none v finish =
          let down = finishes_told v finish in
          subst (λ n. bound < n) (steps_told v down.0 finish down.1 down.2) (none down.0 down.1)

      -- where no word of ranks of any length finishes, no numbers do
      never_told : NeverFinishes few → NeverFinishes m
      never_told never v finish = let down = finishes_told v finish in never down.0 down.1

      -- a bound that is met by ranks is met by numbers
      met_told : IsMet few bound → IsMet m bound
      met_told met = (told met.0, met.1, told_reaches met.0 met.1 reached, beyond)
        where
          reached : Reaches (IsStep few) few.initials met.0 met.1
          reached = reaches_by (IsLiveStep few) (IsStep few) (λ c d n s. s.0) few.initials met.0 met.1 met.2

          beyond : (other : List ℕ) → Reaches (IsLiveStep m) m.initials other met.1 → bound < step_count other + m.open_len met.1
          beyond other reaches =
              let down = told_all other met.1 reaches in
              let over : bound < step_count down.0 + few.open_len met.1 = met.3 down.0 (reaches_by (IsStep few) (IsLiveStep few) live_few few.initials down.0 met.1 down.1) in
              let nodes : few.open_len met.1 ≡ m.open_len met.1 = enough.open_len met.1 in
              let steps : step_count down.0 ≡ step_count other = same_steps (IsStep few) (IsLiveStep m) few.initials m.initials down.0 other met.1 met.1 down.2 down.1 reaches in
              omega arith

      -- a bound that is met by numbers is met by ranks
      met_back : IsMet m bound → IsMet few bound
      met_back met = by (told_all met.0 met.1 met.2)
        where
          by : (ranks : List ℕ) × Reaches (IsStep few) few.initials ranks met.1 × (length ranks ≡ length met.0) × IsNoLater (told ranks) met.0 → IsMet few bound
          by down = (down.0, met.1, reaches_by (IsStep few) (IsLiveStep few) live_few few.initials down.0 met.1 down.1, beyond)
            where
              beyond : (other : List ℕ) → Reaches (IsLiveStep few) few.initials other met.1 → bound < step_count other + few.open_len met.1
              beyond other reaches =
                  let own = reaches_by (IsLiveStep few) (IsStep few) (λ c d n s. s.0) few.initials other met.1 reaches in
                  let up = told_reaches other met.1 own in
                  let over : bound < step_count (told other) + m.open_len met.1 = met.3 (told other) up in
                  let nodes : few.open_len met.1 ≡ m.open_len met.1 = enough.open_len met.1 in
                  let steps : step_count other ≡ step_count (told other) = same_steps (IsStep few) (IsLiveStep m) few.initials m.initials other (told other) met.1 met.1 (sym (told_length other met.1 own)) own up in
                  omega arith

      -- what answers for the machine with fewer numbers answers, told by numbers, for the whole one
      pub answer_told : (found tells : Found) → IsAnswer few bound found → IsToldBy m few initial_of number_of found tells → IsAnswer m bound tells
      answer_told (Word ranks) (Word word) answer is = subst (IsLeastFinishing m bound) (sym is) (least_told ranks.items answer)
      answer_told (Word ranks) NoWord answer is = absurd is
      answer_told (Word ranks) Unsolvable answer is = absurd is
      answer_told NoWord (Word word) answer is = absurd is
      answer_told NoWord NoWord answer is = (none_told answer.0, met_told answer.1)
      answer_told NoWord Unsolvable answer is = absurd is
      answer_told Unsolvable (Word word) answer is = absurd is
      answer_told Unsolvable NoWord answer is = absurd is
      answer_told Unsolvable Unsolvable answer is = (never_told answer.0, λ met. answer.1 (met_back met))
