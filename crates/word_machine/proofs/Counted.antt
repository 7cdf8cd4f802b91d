-- The certificate of a machine that counts down.
use Rattle.std.proofs.Common.{◌≡◌, ℕ, zero, suc, ◌-◌, ◌<◌, ◌≤◌, Bool, true, false, cond, ◌&&◌, eqb, ltb, [], ◌∷◌, Some, None, refl, sym, ap, arith, slice_get}
use Rattle.std.proofs.lemmas.Bool.{eqb-true}
use Rattle.std.proofs.lemmas.Option.{none-some, same_Some}
use Rattle.word_machine.specs.Certificate.{IsBelow, IsCertificate}
use Rattle.word_machine.specs.Worked.{countdown, CountdownCertified}

-- a step counts down by one
down : (b : Bool) (c d : ℕ) → cond b (Some (c - 1)) None ≡ Some d → c - 1 ≡ d
down true c d h = same_Some (c - 1) d h
down false c d h = absurd (none-some d h)

-- nothing is left where it is done
nothing_left : (c : ℕ) → eqb c 0 ≡ true → c ≤ 0
nothing_left c done = let none = eqb-true c 0 done in omega arith

-- what is left to count is admissible
counted : IsBelow countdown (λ c. c)
counted [] c last leads done = (let none = nothing_left last done in omega arith)
counted (number ∷ numbers) c last leads done =
    let later = counted numbers leads.0 last leads.2 done in
    let one = down (ltb 0 c && ltb number 2) c leads.0 leads.1 in
    omega arith

-- only one initial configuration is there
only_two : (i c : ℕ) → slice_get (2 ∷ []) i ≡ Some c → 2 ≤ c
only_two zero c h = (let e = same_Some 2 c h in omega arith)
only_two (suc i) c h = absurd (none-some c h)

-- the lesser numbers have a certificate
lesser_certified : IsCertificate countdown (λ c. c) (0 ∷ 0 ∷ 0 ∷ [])
lesser_certified = record {
  from = 2;
  at = refl;
  way = (
    λ lesser d less step. absurd (omega arith),
    1,
    refl,
    (λ lesser d less step. absurd (omega arith), 0, refl, refl),
  );
  before = λ i c less at. absurd (omega arith);
  none_fewer = only_two;
}

-- a greater number has none: the lesser one leads to where as many steps are left
greater_refused : IsCertificate countdown (λ c. c) (0 ∷ 1 ∷ 0 ∷ []) → ⊥
greater_refused certificate =
    let two : 2 ≡ certificate.from = same_Some 2 certificate.from certificate.at in
    let more : 1 < 1 = certificate.way.0 0 1 (omega arith) (ap (λ c. countdown.step c 0) (sym two)) in
    omega arith

-- the worked certificate
pub countdown_certified : CountdownCertified
countdown_certified = record { below = counted; lesser = lesser_certified; greater = greater_refused }
