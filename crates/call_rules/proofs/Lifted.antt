-- The estimate by calls in whole states that are lifted.
use Rattle.std.proofs.Common.{◌≡◌, ℕ, ◌+◌, ◌≤◌, Bool, cond, List, [], ◌∷◌, map, Option, Some, None, refl, sym, ap, ◌∙◌, subst, arith}
use Rattle.htn_model.specs.State.{State}
use Rattle.htn_model.specs.Problem.{Network}
use Rattle.htn_calls.specs.Calls.{Exit, Summary, Table, over_exits, by_summary, estimate}
use Rattle.htn_calls.specs.Numbered.{exit_of, summary_of}
use Rattle.call_rules.specs.Frame.{Frame}
use Rattle.call_rules.specs.Framed.{IsFramed}
use Rattle.call_rules.specs.Lifted.{AreLifted, LiftedBelow}

-- the least over exits is no more than that of what is no less
over_more : {S T : Type 0} (to : Exit S → Exit T) → ((e : Exit S) → e.cost ≤ (to e).cost)
    → (a : S → ℕ) (b : T → ℕ) → ((e : Exit S) → a e.state ≤ b (to e).state) → (f g : ℕ) → f ≤ g
    → (exits : List (Exit S)) → over_exits a f exits ≤ over_exits b g (map to exits)
over_more to costs a b each f g floor [] = floor
over_more to costs a b each f g floor (e ∷ exits) =
    let rest = over_more to costs a b each f g floor exits in
    let cost = costs e in
    let one = each e in
    omega arith

module _ (state : ℕ → State) (block : ℕ → Network) (frame : ℕ → Frame) (listing whole : Table ℕ ℕ)
    (table : Table State Network) (total : List ℕ → ℕ) (least : List Network → ℕ) (ends : ℕ → Bool)
    (goal : State → Bool) (cap : ℕ) (stands : IsFramed state block frame listing table)
    (counted : (blocks : List ℕ) → total blocks ≤ least (map block blocks))
    (lifted : AreLifted state block frame listing whole)
    (ended : (i : ℕ) → cond (ends i) 0 cap ≤ cond (goal (state i)) 0 cap) where
  -- the estimates by number and by the table
  abbrev by_numbers : List ℕ → ℕ → ℕ
  by_numbers = estimate whole (λ k. total) total ends cap

  abbrev by_table : List ℕ → State → ℕ
  by_table blocks = estimate table (λ s. least) least goal cap (map block blocks)

  -- what the table has is what a lifted call stands for
  table_has : (i j : ℕ) (u : Summary ℕ) → whole i j ≡ Some u
      → table (state i) (block j) ≡ Some (summary_of state block u)
  table_has i j u is =
      let call = lifted i j u is in
      stands.listed call.part j call.summary (state i) call.listed call.is_part ∙ ap Some (sym call.lifted)

  -- the call of a block gives no more by number
  call_below : (i j : ℕ) (rest : List ℕ) → ((k : ℕ) → by_numbers rest k ≤ by_table rest (state k))
      → (o : Option (Summary ℕ)) → whole i j ≡ o
      → by_summary o (total rest) (by_numbers rest)
      ≤ by_summary (table (state i) (block j)) (least (map block rest)) (by_table rest)
  call_below i j rest later None is = omega arith
  call_below i j rest later (Some u) is =
      let fewer = counted rest in
      let bound : over_exits (by_numbers rest) (u.floor + total rest) u.exits
      ≤ over_exits (by_table rest) (u.floor + least (map block rest)) (map (exit_of state block) u.exits) =
      over_more (exit_of state block) (λ e. omega arith) (by_numbers rest) (by_table rest) (λ e. later e.state)
      (u.floor + total rest) (u.floor + least (map block rest)) (omega arith) u.exits in
      subst
      (λ (o : Option (Summary State)). over_exits (by_numbers rest) (u.floor + total rest) u.exits
      ≤ by_summary o (least (map block rest)) (by_table rest))
      (sym (table_has i j u is)) bound

  -- so does the estimate
  lifted_below : (blocks : List ℕ) (i : ℕ) → by_numbers blocks i ≤ by_table blocks (state i)
  lifted_below [] i = ended i
  lifted_below (j ∷ rest) i =
      let base = counted (j ∷ rest) in
      let call = call_below i j rest (lifted_below rest) (whole i j) refl in
      omega arith

-- the estimate by lifted calls is no more than that by the table
pub estimates_lift : LiftedBelow
estimates_lift = lifted_below
