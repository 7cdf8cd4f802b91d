-- The small machine is lawful, and these are its numbers.
use Rattle.std.proofs.Common.{◌≡◌, ℕ, suc, zero, ◌+◌, ◌-◌, ◌*◌, ◌%◌, ◌<◌, ◌≤◌, ◌⊎◌, inl, inr, nat_eq, Bool, true, false, not, ◌&&◌, if◌then◌else◌, true≢false, List, [], ◌∷◌, Some, refl, sym, ap, subst, ◌∙◌, arith, All, Contains}
use Rattle.std.specs.List.Sorted.{IsStrictlyIncreasing}
use Rattle.std.proofs.lemmas.Bool.{and_parts, eqb-true}
use Rattle.std.proofs.Common.{eq-eqb}
use Rattle.std.proofs.lemmas.Option.{none-some, same_Some}
use Rattle.word_machine.specs.Words.{Leads}
use Rattle.word_machine.specs.Expansion.{IsSuccessor, IsExpansionOf, IsLeastDone}
use Rattle.word_machine.specs.declared.closed.Origin.TheVariants.{Step as Stepped}
use Rattle.word_machine.specs.declared.closed.Successor.{Successor}
use Rattle.word_machine.specs.Machine.{IsStep, IsDone, IsLiveStep, IsLiveNumbers, IsLawful, IsLowerBound}
use Rattle.tests.specs.declared.tallies.Tally.{Tally}
use Rattle.tests.specs.Counter.{go_on, go_by, counting, clipped, carried, doubled, estimate}

-- a step where a task is open
go_open : (stuck : Bool) (tasks value number : ℕ) → stuck ≡ false → 0 < tasks → go_by stuck tasks value number ≡ go_on (tasks - 1) value number
go_open true tasks value number is some = absurd (true≢false is)
go_open false zero value number is some = absurd (omega arith)
go_open false (suc rest) value number is some = let e : rest ≡ suc rest - 1 = omega arith in ap (λ r. go_on r value number) e

-- tasks and values stay small
stays : (stuck : Bool) (tasks value n : ℕ) (d : Tally) → tasks < 1000000 → value < 1000000 → go_by stuck tasks value n ≡ Some d → (d.tasks < 1000000) × (d.value < 1000000)
stays true tasks value n d few own e = absurd (none-some d e)
stays false zero value n d few own e = absurd (none-some d e)
stays false (suc rest) value zero d few own e =
    let t : rest ≡ d.tasks = ap (λ (x : Tally). x.tasks) (same_Some _ d e) in
    let v : (value + 1) % 1000000 ≡ d.value = ap (λ (x : Tally). x.value) (same_Some _ d e) in (omega arith, omega arith)
stays false (suc rest) value (suc zero) d few own e =
    let t : suc rest ≡ d.tasks = ap (λ (x : Tally). x.tasks) (same_Some _ d e) in
    let v : (value * 2) % 1000000 ≡ d.value = ap (λ (x : Tally). x.value) (same_Some _ d e) in (omega arith, omega arith)
stays false (suc rest) value (suc (suc zero)) d few own e =
    let t : suc rest ≡ d.tasks = ap (λ (x : Tally). x.tasks) (same_Some _ d e) in
    let v : value ≡ d.value = ap (λ (x : Tally). x.value) (same_Some _ d e) in (omega arith, omega arith)
stays false (suc rest) value (suc (suc (suc n))) d few own e = absurd (none-some d e)

-- what is left where the sum comes out, and where it does not
left_is : (target tasks value : ℕ) → (b : Bool) → nat_eq ((value + tasks) % 1000000) (target % 1000000) ≡ b → (if nat_eq ((value + tasks) % 1000000) (target % 1000000) then tasks else tasks + 1) ≡ (if b then tasks else tasks + 1)
left_is target tasks value b is = ap (λ b. if b then tasks else tasks + 1) is

-- at most one step more than tasks
left_at_most : (b : Bool) (tasks : ℕ) → (if b then tasks else tasks + 1) ≤ tasks + 1
left_at_most true tasks = omega arith
left_at_most false tasks = omega arith

-- at least as many steps as tasks
pub left_at_least : (b : Bool) (tasks : ℕ) → tasks ≤ (if b then tasks else tasks + 1)
left_at_least true tasks = omega arith
left_at_least false tasks = omega arith

-- one task less, one step less
left_same : (b : Bool) (tasks : ℕ) → (if b then suc tasks else suc tasks + 1) ≤ (if b then tasks else tasks + 1) + 1
left_same true tasks = omega arith
left_same false tasks = omega arith

-- a step lowers what is left by at most one
lowers_one : (target : ℕ) (stuck : Bool) (tasks value n : ℕ) (d : Tally) → (n ≡ 2 → ⊥) → go_by stuck tasks value n ≡ Some d
    → (if nat_eq ((value + tasks) % 1000000) (target % 1000000) then tasks else tasks + 1) ≤ estimate target d + 1
lowers_one target true tasks value n d live e = absurd (none-some d e)
lowers_one target false zero value n d live e = absurd (none-some d e)
lowers_one target false (suc rest) value zero d live e =
    let c : Tally = record { tasks = rest; value = (value + 1) % 1000000; stuck = false } in
    let sum : (value + suc rest) % 1000000 ≡ ((value + 1) % 1000000 + rest) % 1000000 = omega arith in
    let own : (if nat_eq ((value + suc rest) % 1000000) (target % 1000000) then suc rest else suc rest + 1) ≤ estimate target c + 1 =
    subst (λ s. (if nat_eq ((value + suc rest) % 1000000) (target % 1000000) then suc rest else suc rest + 1) ≤ (if nat_eq s (target % 1000000) then rest else rest + 1) + 1) sum
    (left_same (nat_eq ((value + suc rest) % 1000000) (target % 1000000)) rest) in
    subst (λ (x : Tally). (if nat_eq ((value + suc rest) % 1000000) (target % 1000000) then suc rest else suc rest + 1) ≤ estimate target x + 1) (same_Some c d e) own
lowers_one target false (suc rest) value (suc zero) d live e =
    let t : suc rest ≡ d.tasks = ap (λ (x : Tally). x.tasks) (same_Some _ d e) in
    let most = left_at_most (nat_eq ((value + suc rest) % 1000000) (target % 1000000)) (suc rest) in
    let least = left_at_least (nat_eq ((d.value + d.tasks) % 1000000) (target % 1000000)) d.tasks in
    omega (arith, most, least)
lowers_one target false (suc rest) value (suc (suc zero)) d live e = absurd (live refl)
lowers_one target false (suc rest) value (suc (suc (suc n))) d live e = absurd (none-some d e)

-- a step wants an open task
wants_open : (stuck : Bool) (tasks value n : ℕ) (d : Tally) → go_by stuck tasks value n ≡ Some d → 0 < tasks
wants_open true tasks value n d e = absurd (none-some d e)
wants_open false zero value n d e = absurd (none-some d e)
wants_open false (suc rest) value n d e = omega arith

-- and closes at most one
closes_one : (stuck : Bool) (tasks value n : ℕ) (d : Tally) → go_by stuck tasks value n ≡ Some d → tasks ≤ d.tasks + 1
closes_one true tasks value n d e = absurd (none-some d e)
closes_one false zero value n d e = absurd (none-some d e)
closes_one false (suc rest) value zero d e = let t : rest ≡ d.tasks = ap (λ (x : Tally). x.tasks) (same_Some _ d e) in omega arith
closes_one false (suc rest) value (suc zero) d e = let t : suc rest ≡ d.tasks = ap (λ (x : Tally). x.tasks) (same_Some _ d e) in omega arith
closes_one false (suc rest) value (suc (suc zero)) d e = let t : suc rest ≡ d.tasks = ap (λ (x : Tally). x.tasks) (same_Some _ d e) in omega arith
closes_one false (suc rest) value (suc (suc (suc n))) d e = absurd (none-some d e)

-- after the third number all is given up
given_up : (stuck : Bool) (tasks value n : ℕ) (d : Tally) → n ≡ 2 → go_by stuck tasks value n ≡ Some d → d.stuck ≡ true
given_up true tasks value n d two e = absurd (none-some d e)
given_up false zero value n d two e = absurd (none-some d e)
given_up false (suc rest) value zero d two e = absurd (omega arith)
given_up false (suc rest) value (suc zero) d two e = absurd (omega arith)
given_up false (suc rest) value (suc (suc zero)) d two e = sym (ap (λ (x : Tally). x.stuck) (same_Some _ d e))
given_up false (suc rest) value (suc (suc (suc n))) d two e = absurd (omega arith)

-- the two to begin with are small
pub clipped_small : (c d : Tally) → All (λ (t : Tally). (t.tasks < 1000000) × (t.value < 1000000)) (clipped c ∷ clipped d ∷ [])
clipped_small c d zero x inside = (omega arith, omega arith)
clipped_small c d (suc zero) x inside = (omega arith, omega arith)
clipped_small c d (suc (suc k)) x inside = absurd (omega arith)

-- where all is done no task is open
lawful_closed : (target : ℕ) (initials : List Tally) (c : Tally) → IsDone (counting target initials) c → c.tasks ≡ 0
lawful_closed target initials c done =
    eqb-true c.tasks 0 (and_parts (nat_eq c.tasks 0) (nat_eq c.value target) (and_parts (not c.stuck) (nat_eq c.tasks 0 && nat_eq c.value target) done).1).0

module _ (target : ℕ) (initials : List Tally) where
  -- what was given up is never done
  stuck_never : (d e : Tally) (ns : List ℕ) → d.stuck ≡ true → Leads (IsStep (counting target initials)) d ns e → IsDone (counting target initials) e → ⊥
  stuck_never d e [] stuck leads done =
      let free : e.stuck ≡ false = not_true e.stuck (and_parts _ _ done).0 in
      true≢false (sym stuck ∙ ap (λ (x : Tally). x.stuck) leads ∙ free)
    where
      not_true : (b : Bool) → not b ≡ true → b ≡ false
      not_true true is = sym is
      not_true false is = refl
  stuck_never d e (n ∷ ns) stuck leads done = none-some leads.0 (ap (λ b. go_by b d.tasks d.value n) (sym stuck) ∙ leads.1)

  -- the machine is lawful
  pub lawful : All (λ (c : Tally). (c.tasks < 1000000) × (c.value < 1000000)) initials → IsLawful (counting target initials) (λ c. (c.tasks < 1000000) × (c.value < 1000000))
  lawful small = record {
    starts = small;
    stays = λ c d n own step. stays c.stuck c.tasks c.value n d own.0 own.1 step;
    wants_open = λ c d n step. wants_open c.stuck c.tasks c.value n d step;
    closes_one = λ c d n step. closes_one c.stuck c.tasks c.value n d step;
    done_closed = lawful_closed target initials;
    dead_never = λ c d e n ns own dead step leads done. stuck_never d e ns (given_up c.stuck c.tasks c.value n d (eqb-true n 2 dead) step) leads done;
  }

  -- its estimate is a lower bound
  pub bounded : IsLowerBound (counting target initials) (estimate target)
  bounded = record {
    lowers_one = λ c d n step. lowers_one target c.stuck c.tasks c.value n d (λ two. step.1 (ap (λ k. nat_eq k 2) two)) step.0;
    done_zero = λ c done. (
        let parts = and_parts (nat_eq c.tasks 0) (nat_eq c.value target) (and_parts (not c.stuck) (nat_eq c.tasks 0 && nat_eq c.value target) done).1 in
        let none : c.tasks ≡ 0 = eqb-true c.tasks 0 parts.0 in
        let value : c.value ≡ target = eqb-true c.value target parts.1 in
        let sum : (c.value + c.tasks) % 1000000 ≡ target % 1000000 = ap (λ t. (c.value + t) % 1000000) none ∙ (let z : c.value + 0 ≡ c.value = omega arith in ap (λ v. v % 1000000) (z ∙ value)) in
        left_is target c.tasks c.value true (eq-eqb ((c.value + c.tasks) % 1000000) (target % 1000000) sum) ∙ none);
    above_open = λ c. left_at_least (nat_eq ((c.value + c.tasks) % 1000000) (target % 1000000)) c.tasks;
  }

  -- both ways on, while a task is open
  pub both_numbers : (c : Tally) → c.stuck ≡ false → 0 < c.tasks → IsLiveNumbers (counting target initials) c (0 ∷ 1 ∷ [])
  both_numbers c free some = record {
    ascending = ascending;
    each = each;
    all = all;
  }
    where
      ascending : IsStrictlyIncreasing (0 ∷ 1 ∷ [])
      ascending zero inside = omega arith
      ascending (suc k) inside = absurd (omega arith)

      each : All (λ n. (d : Tally) × IsLiveStep (counting target initials) c n d) (0 ∷ 1 ∷ [])
      each zero d inside = (record { tasks = c.tasks - 1; value = (c.value + 1) % 1000000; stuck = false }, (go_open c.stuck c.tasks c.value 0 free some, λ dead. true≢false (sym dead)))
      each (suc zero) d inside = (record { tasks = suc (c.tasks - 1); value = (c.value * 2) % 1000000; stuck = false }, (go_open c.stuck c.tasks c.value 1 free some, λ dead. true≢false (sym dead)))
      each (suc (suc k)) d inside = absurd (omega arith)

      all : (n : ℕ) (d : Tally) → IsLiveStep (counting target initials) c n d → Contains (0 ∷ 1 ∷ []) n
      all zero d step = (0, omega arith, refl)
      all (suc zero) d step = (1, omega arith, refl)
      all (suc (suc zero)) d step = absurd (step.1 refl)
      all (suc (suc (suc n))) d step = absurd (none-some d (sym (go_open c.stuck c.tasks c.value (suc (suc (suc n))) free some) ∙ step.0))

  -- there are no live numbers where the tally is stuck or has no task
  pub no_numbers : (c : Tally) → (c.stuck ≡ true) ⊎ (c.tasks ≡ 0) → IsLiveNumbers (counting target initials) c []
  no_numbers c over = record {
    ascending = λ k inside. absurd (omega arith);
    each = λ k d inside. absurd (omega arith);
    all = λ n d step. absurd (none c.stuck c.tasks n d over step.0);
  }
    where
      none : (stuck : Bool) (tasks n : ℕ) (d : Tally) → (stuck ≡ true) ⊎ (tasks ≡ 0) → go_by stuck tasks c.value n ≡ Some d → ⊥
      none true tasks n d over e = none-some d e
      none false zero n d over e = none-some d e
      none false (suc rest) n d (inl is) e = true≢false (sym is)
      none false (suc rest) n d (inr is) e = absurd (omega arith)

-- the steps by the two ways on
pub carries_out : (c : Tally) → c.stuck ≡ false → 0 < c.tasks → go_by c.stuck c.tasks c.value 0 ≡ Some (carried c)
carries_out c free some = go_open c.stuck c.tasks c.value 0 free some

-- the step by the second number
pub doubles : (c : Tally) → c.stuck ≡ false → 0 < c.tasks → go_by c.stuck c.tasks c.value 1 ≡ Some (doubled c)
doubles c free some =
    let e : suc (c.tasks - 1) ≡ c.tasks = omega arith in
    go_open c.stuck c.tasks c.value 1 free some ∙ ap (λ t. Some record { tasks = t; value = (c.value * 2) % 1000000; stuck = false }) e

module _ (target : ℕ) (initials : List Tally) (c : Tally) (free : c.stuck ≡ false) (some : 0 < c.tasks) where
  -- where carrying out is done, it is by the least number
  pub least_done : IsDone (counting target initials) (carried c) → IsLeastDone (IsLiveStep (counting target initials)) (IsDone (counting target initials)) c 0
  least_done done = record {
    to = carried c;
    step = (carries_out c free some, λ dead. true≢false (sym dead));
    done = done;
    least = λ k d less step finish. omega arith;
  }

  -- where carrying out is not done, these are the two successors
  pub both_successors : (beyond : Tally → Type 0) (rank : ℕ) (s t : Successor Tally) → s.origin ≡ Stepped rank 0 → s.configuration ≡ carried c → t.origin ≡ Stepped rank 1 → t.configuration ≡ doubled c
      → (IsDone (counting target initials) (carried c) → ⊥)
      → IsExpansionOf (IsLiveStep (counting target initials)) (IsDone (counting target initials)) beyond rank c (s ∷ t ∷ [])
  both_successors beyond rank s t s_from s_is t_from t_is undone =
      let both = both_numbers target initials c free some in
      let first : IsSuccessor (IsLiveStep (counting target initials)) (IsDone (counting target initials)) rank c 0 s = record {
        origin = s_from;
        step = subst (IsLiveStep (counting target initials) c 0) (sym s_is) (carries_out c free some, λ dead. true≢false (sym dead));
        unfinished = λ done. undone (subst (IsDone (counting target initials)) s_is done);
      } in
      let second : IsSuccessor (IsLiveStep (counting target initials)) (IsDone (counting target initials)) rank c 1 t = record {
        origin = t_from;
        step = subst (IsLiveStep (counting target initials) c 1) (sym t_is) (doubles c free some, λ dead. true≢false (sym dead));
        unfinished = λ done. (let none : (doubled c).tasks ≡ 0 = (lawful_closed target initials (doubled c) (subst (IsDone (counting target initials)) t_is done)) in omega arith);
      } in
      record { numbers = 0 ∷ 1 ∷ []; ascending = both.ascending; each = (first, (second, tt)); all = λ n d step. inl (both.all n d step) }

-- none where it was given up or all is carried out
pub no_successors : (target : ℕ) (initials : List Tally) (c : Tally) → (c.stuck ≡ true) ⊎ (c.tasks ≡ 0) → (beyond : Tally → Type 0) (rank : ℕ)
    → IsExpansionOf (IsLiveStep (counting target initials)) (IsDone (counting target initials)) beyond rank c []
no_successors target initials c over beyond rank =
    let none = no_numbers target initials c over in
    record { numbers = []; ascending = none.ascending; each = tt; all = λ n d step. inl (none.all n d step) }
