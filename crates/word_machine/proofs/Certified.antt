-- A word with a certificate is the least finishing one.
use Rattle.std.proofs.Common.{◌≡◌, ℕ, ◌≤◌, List, [], ◌∷◌, length, refl, sym, ap, subst, ◌∙◌, inl, inr, arith, slice_get}
use Rattle.std.proofs.lemmas.Option.{same_Some}
use Rattle.word_machine.specs.Words.{IsLexicographicallyBefore, Precedes, Leads, step_count}
use Rattle.word_machine.specs.Machine.{WordMachine, IsStep, IsDone, IsFinishing}
use Rattle.word_machine.specs.Answer.{IsLeastFinishing}
use Rattle.word_machine.specs.Certificate.{IsBelow, IsLeastWay, IsCertificate}

module _ {C : Type 0} (m : WordMachine C) (low : C → ℕ) where
  -- a least way leads to a done configuration
  leads_done : (c : C) (numbers : List ℕ) → IsLeastWay m low c numbers
      → (last : C) × Leads (IsStep m) c numbers last × IsDone m last
  leads_done c [] way = (c, refl, way)
  leads_done c (number ∷ numbers) way =
      let later = leads_done way.1 numbers way.3 in
      (later.0, (way.1, way.2, later.1), later.2)

  module _ (below : IsBelow m low) where
    -- of as many numbers that lead to a done configuration none come before a least way
    none_before : (numbers other : List ℕ) (c last : C) → IsLeastWay m low c numbers → Leads (IsStep m) c other last
        → IsDone m last → length other ≡ length numbers → IsLexicographicallyBefore other numbers → ⊥
    none_before [] [] c last way leads done long before = before
    none_before [] (x ∷ other) c last way leads done long before = before
    none_before (number ∷ numbers) [] c last way leads done long before = absurd (omega arith)
    none_before (number ∷ numbers) (x ∷ other) c last way leads done long before =
        elim before [
          | inl less ↦ (
              let more = way.0 x leads.0 less leads.1 in
              let most = below other leads.0 last leads.2 done in
              omega arith)
          | inr later ↦ (
              let next : leads.0 ≡ way.1 = same_Some leads.0 way.1 (sym leads.1 ∙ ap (m.step c) later.0 ∙ way.2) in
              none_before numbers other way.1 last way.3 (subst (λ d. Leads (IsStep m) d other last) next leads.2) done
              (omega arith) later.1)
        ]

    -- a certificate shows the least finishing word
    pub certified : (bound : ℕ) (word : List ℕ) → step_count word ≤ bound → IsCertificate m low word
        → IsLeastFinishing m bound word
    certified bound [] within certificate = absurd certificate
    certified bound (initial ∷ numbers) within certificate =
        let end = leads_done certificate.from numbers certificate.way in
        record {
          finishes = (end.0, (certificate.from, certificate.at, end.1), end.2);
          within = within;
          least = least;
        }
      where
        least : (other : List ℕ) → IsFinishing m other → Precedes other (initial ∷ numbers) → ⊥
        least [] finishes before = finishes.1
        least (i ∷ other) finishes before =
            let start = finishes.1.0 in
            let most = below other start finishes.0 finishes.1.2 finishes.2 in
            elim before [
              | inl shorter ↦ (let some = certificate.none_fewer i start finishes.1.1 in omega arith)
              | inr as_long ↦ elim as_long.1 [
                | inl less ↦ (
                    let more = certificate.before i start less finishes.1.1 in
                    let long = as_long.0 in
                    omega arith)
                | inr later ↦ (
                    let from = certificate.from in
                    let same : start ≡ from =
                    same_Some start from (sym finishes.1.1 ∙ ap (slice_get m.initials) later.0 ∙ certificate.at) in
                    let long = as_long.0 in
                    none_before numbers other from finishes.0 certificate.way
                    (subst (λ d. Leads (IsStep m) d other finishes.0) same finishes.1.2) finishes.2
                    (omega arith) later.1)
              ]
            ]
