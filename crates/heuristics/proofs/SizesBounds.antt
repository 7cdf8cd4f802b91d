-- The laws of bounds from below.
use Rattle.std.proofs.Common.{◌≡◌, ℕ, ◌+◌, ◌≤◌, Bool, true, false, cond, [], ◌∷◌, length, max, Option, Some, None, refl, sym, ap, ◌∙◌, subst, arith, option_and_then}
use Rattle.htn_model.specs.Problem.{Problem}
use Rattle.htn_model.specs.Machine.{Config, Choice, choose, result_of, IsDone}
use Rattle.htn_model.specs.Exhaustion.{is_dead, live_step}
use Rattle.htn_model.proofs.Splices.{length_splice}
use Rattle.htn_model.proofs.Steps.{chosen}
use Rattle.htn_model.proofs.Regrown.{choice_within}
use Rattle.heuristics.specs.Heuristic.{ConsistentIsAdmissible, DeadEndsAreConsistent, GreaterIsConsistent, GreaterIsEstimate, IsAdmissible, NothingIsConsistent, OneIsTooMany, OpenNodesAreConsistent}

-- ## Live steps

-- a live step makes a choice that is not dead
pub live_choice : (problem : Problem) (c d : Config) (number : ℕ) → live_step problem c number ≡ Some d
    → (choice : Choice) × (choose problem c number ≡ Some choice) × (is_dead problem choice.network ≡ false) × (result_of c choice ≡ d)
live_choice problem c d number is = by (choose problem c number) refl is
  where
    when : (choice : Choice) (b : Bool) → choose problem c number ≡ Some choice → is_dead problem choice.network ≡ b → cond b None (Some (result_of c choice)) ≡ Some d
        → (choice : Choice) × (choose problem c number ≡ Some choice) × (is_dead problem choice.network ≡ false) × (result_of c choice ≡ d)
    when choice true e dead h = absurd cc
    when choice false e live h = (choice, e, live, (let same : result_of c choice ≡ d = cc in same))

    by : (o : Option Choice) → choose problem c number ≡ o
        → option_and_then (λ choice. cond (is_dead problem choice.network) None (Some (result_of c choice))) o ≡ Some d
        → (choice : Choice) × (choose problem c number ≡ Some choice) × (is_dead problem choice.network ≡ false) × (result_of c choice ≡ d)
    by None e h = absurd cc
    by (Some choice) e h = when choice (is_dead problem choice.network) e refl h

-- a choice that is not dead is a live step
pub step_of_choice : (problem : Problem) (c : Config) (number : ℕ) (choice : Choice) → choose problem c number ≡ Some choice → is_dead problem choice.network ≡ false
    → live_step problem c number ≡ Some (result_of c choice)
step_of_choice problem c number choice is live =
    ap (option_and_then (λ (x : Choice). cond (is_dead problem x.network) None (Some (result_of c x)))) is
    ∙ ap (λ b. cond b None (Some (result_of c choice))) live

-- a choice closes one open node at most
pub fewer : (problem : Problem) (c : Config) (number : ℕ) (choice : Choice) → choose problem c number ≡ Some choice → length c.open_nodes ≤ length (result_of c choice).open_nodes + 1
fewer problem c number choice is =
    let within = choice_within problem c number choice (chosen problem c number choice is) in
    let lengths = length_splice choice.position choice.network.children c.open_nodes within in
    omega arith

-- ## Laws

pub consistent_is_admissible : ConsistentIsAdmissible
consistent_is_admissible problem low law = by
  where
    by : IsAdmissible problem low
    by [] c last same done =
        let e : low c ≡ 0 = law.done_zero c (subst (IsDone problem) (sym same) done) in
        omega (arith, e)
    by (number ∷ word) c last (choice, is, live, rest) done =
        let more = by word (result_of c choice) last rest done in
        let one = law.lowers_one c (result_of c choice) number (step_of_choice problem c number choice is live) in
        omega (arith, more, one)

pub open_nodes_are_consistent : OpenNodesAreConsistent
open_nodes_are_consistent problem = record {
  done_zero = λ c done. ap length done.0;
  lowers_one = λ c d number is.
      let made = live_choice problem c d number is in
      subst (λ (x : Config). length c.open_nodes ≤ length x.open_nodes + 1) made.3 (fewer problem c number made.0 made.1);
}

pub dead_ends_are_consistent : DeadEndsAreConsistent
dead_ends_are_consistent problem far lost ends = record {
  done_zero = λ c done. ap (λ b. cond b far 0) (ends.not_done c done);
  lowers_one = λ c d number is. rises (lost c) (lost d) (ends.stays c d number is);
}
  where
    rises : (a b : Bool) → (a ≡ true → b ≡ true) → cond a far 0 ≤ cond b far 0 + 1
    rises true b up = let e : cond b far 0 ≡ far = ap (λ x. cond x far 0) (up refl) in omega (arith, e)
    rises false b up = omega arith

pub greater_is_consistent : GreaterIsConsistent
greater_is_consistent problem a b first second = record {
  done_zero = λ c done. both (a c) (b c) (first.done_zero c done) (second.done_zero c done);
  lowers_one = λ c d number is. one (a c) (a d) (b c) (b d) (first.lowers_one c d number is) (second.lowers_one c d number is);
}
  where
    both : (x y : ℕ) → x ≡ 0 → y ≡ 0 → max x y ≡ 0
    both x y ex ey = omega (arith, ex, ey)

    one : (x x' y y' : ℕ) → x ≤ x' + 1 → y ≤ y' + 1 → max x y ≤ max x' y' + 1
    one x x' y y' lx ly = omega (arith, lx, ly)

pub greater_is_estimate : GreaterIsEstimate
greater_is_estimate problem a b first second = record {
  consistent = greater_is_consistent problem a b first.consistent second;
  above_open = λ c. most (length c.open_nodes) (a c) (b c) (first.above_open c);
}
  where
    most : (n x y : ℕ) → n ≤ x → n ≤ max x y
    most n x y le = omega (arith, le)

-- ## Examples

pub nothing_is_consistent : NothingIsConsistent
nothing_is_consistent problem = record {
  done_zero = λ c done. refl;
  lowers_one = λ c d number is. omega arith;
}

pub one_is_too_many : OneIsTooMany
one_is_too_many problem c done law = let e : 1 ≡ 0 = law.done_zero c done in absurd (omega (arith, e))
