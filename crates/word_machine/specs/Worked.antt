-- A machine that counts down by two numbers: its least finishing word has the lesser one at each step.
use Rattle.std.specs.Prelude.{ℕ, ◌-◌, [], ◌∷◌, Some, None, false, cond, ◌&&◌, eqb, ltb}
use Rattle.word_machine.specs.Machine.{WordMachine}
use Rattle.word_machine.specs.Certificate.{IsBelow, IsCertificate}

-- from 2 the numbers 0 and 1 lead down to nothing
abbrev pub countdown : WordMachine ℕ
countdown = record {
  initials = 2 ∷ [];
  step = λ c number. cond (ltb 0 c && ltb number 2) (Some (c - 1)) None;
  is_done = λ c. eqb c 0;
  open_len = λ c. c;
  is_dead = λ c number. false;
}

-- what is left to count is admissible, the word by the lesser numbers has a certificate, and one with a greater number
-- has none
pub record CountdownCertified : Type 0 where
  pub below : IsBelow countdown (λ c. c)
  pub lesser : IsCertificate countdown (λ c. c) (0 ∷ 0 ∷ 0 ∷ [])
  pub greater : IsCertificate countdown (λ c. c) (0 ∷ 1 ∷ 0 ∷ []) → ⊥
