-- Values that are no more than each call tells are no more than the estimate.
use Rattle.std.proofs.Common.{◌≡◌, ℕ, ◌+◌, ◌≤◌, Bool, cond, List, [], ◌∷◌, map, Option, Some, None, sym, refl, subst, arith}
use Rattle.htn_model.specs.Problem.{Network}
use Rattle.htn_model.specs.State.{State}
use Rattle.htn_calls.specs.Calls.{Exit, Summary, Rules, Table, over_exits, by_summary, estimate}
use Rattle.htn_calls.specs.Numbered.{exit_of, IsNumbering}
use Rattle.call_rules.specs.Bounds.{ByState, ByBlocks}
use Rattle.call_rules.specs.Values.{ValuesAreBelow, NumbersAreBelow}

-- the least over exits is no more than that of what is no less
over_more : {S T : Type 0} (to : Exit S → Exit T) → ((e : Exit S) → e.cost ≤ (to e).cost)
    → (a : S → ℕ) (b : T → ℕ) → ((e : Exit S) → a e.state ≤ b (to e).state) → (f g : ℕ) → f ≤ g
    → (exits : List (Exit S)) → over_exits a f exits ≤ over_exits b g (map to exits)
over_more to costs a b each f g floor [] = floor
over_more to costs a b each f g floor (e ∷ exits) =
    let rest = over_more to costs a b each f g floor exits in
    let cost = costs e in
    let one = each e in
    omega arith

-- by a summary too
summary_more : {S : Type 0} (o : Option (Summary S)) (others : ℕ) (a b : S → ℕ) → ((s : S) → a s ≤ b s)
    → by_summary o others a ≤ by_summary o others b
summary_more None others a b each = omega arith
summary_more {S} (Some u) others a b each = exits_more u.exits
  where
    exits_more : (exits : List (Exit S)) → over_exits a (u.floor + others) exits ≤ over_exits b (u.floor + others) exits
    exits_more [] = omega arith
    exits_more (e ∷ exits) =
        let rest = exits_more exits in
        let one = each e.state in
        omega arith

-- a number is no less than itself
no_less : (n : ℕ) → n ≤ n
no_less n = omega arith

-- values are no more than the estimate by numbers
pub values_are_below : ValuesAreBelow
values_are_below table low least goal cap value are [] s = are.ended s
values_are_below table low least goal cap value are (block ∷ rest) s =
    let called = are.called s block rest in
    let later = values_are_below table low least goal cap value are rest in
    let more = summary_more (table s block) (least rest) (value rest) (estimate table low least goal cap rest) later in
    omega arith

module _ (state : ℕ → State) (block : ℕ → Network) (numbers : Rules ℕ ℕ) (rules : Rules State Network)
    (listing : Table ℕ ℕ) (table : Table State Network) (low_of : ℕ → List ℕ → ℕ) (low : ByState)
    (least_of : List ℕ → ℕ) (least : ByBlocks) (goal : State → Bool) (cap : ℕ)
    (numbering : IsNumbering state block numbers rules listing table low_of low least_of least) where
  -- the estimates by numbers, and of what they stand for
  abbrev by_numbers : List ℕ → ℕ → ℕ
  by_numbers = estimate listing low_of least_of (λ i. goal (state i)) cap

  abbrev by_table : List Network → State → ℕ
  by_table = estimate table low least goal cap

  -- the call of a block tells no more by numbers
  call_below : (s j : ℕ) (rest : List ℕ) → ((i : ℕ) → by_numbers rest i ≤ by_table (map block rest) (state i))
      → (o : Option (Summary ℕ)) → listing s j ≡ o
      → by_summary o (least_of rest) (by_numbers rest)
      ≤ by_summary (table (state s) (block j)) (least (map block rest)) (by_table (map block rest))
  call_below s j rest later None at = omega arith
  call_below s j rest later (Some u) at =
      let fewer = numbering.fewer rest in
      let told : over_exits (by_numbers rest) (u.floor + least_of rest) u.exits
      ≤ over_exits (by_table (map block rest)) (u.floor + least (map block rest)) (map (exit_of state block) u.exits) =
      over_more (exit_of state block) (λ e. omega arith) (by_numbers rest) (by_table (map block rest))
      (λ e. later e.state) (u.floor + least_of rest) (u.floor + least (map block rest)) (omega arith) u.exits in
      subst
      (λ (o : Option (Summary State)). over_exits (by_numbers rest) (u.floor + least_of rest) u.exits
      ≤ by_summary o (least (map block rest)) (by_table (map block rest)))
      (sym (numbering.listed s j u at)) told

  -- so does the estimate
  numbers_below : (blocks : List ℕ) (s : ℕ) → by_numbers blocks s ≤ by_table (map block blocks) (state s)
  numbers_below [] s = no_less (cond (goal (state s)) 0 cap)
  numbers_below (j ∷ rest) s =
      let base = numbering.lower s (j ∷ rest) in
      let call = call_below s j rest (numbers_below rest) (listing s j) refl in
      omega arith

-- the estimate by numbers is no more than that of what they stand for
pub numbers_are_below : NumbersAreBelow
numbers_are_below state block numbers rules listing table low_of low least_of least goal cap numbering =
    numbers_below state block numbers rules listing table low_of low least_of least goal cap numbering
