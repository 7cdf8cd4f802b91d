-- By a closed table a rule lowers the estimate by one at most.
use Rattle.std.proofs.Common.{◌≡◌, ℕ, suc, ◌+◌, ◌-◌, ◌≤◌, Bool, List, [], ◌∷◌, ◌++◌, Option, Some, None, inl, inr, sym, refl, ap, ◌∙◌, subst, append-nil, arith}
use Rattle.std.specs.Prelude.{Contains}
use Rattle.htn_calls.specs.Calls.{Exit, Summary, Table, Covers, Rules, Place, IsMet, IsCalled, IsFollowed, AreChecked, over_exits, by_summary, estimate}
use Rattle.htn_calls.specs.Closed.{IsFollowedByCalls, AreClosed, AddUp, RulesLowerOne}
use Rattle.htn_calls.proofs.Calls.{over_floor, over_exit}

-- a number that is no more than the floor and than what follows from each exit is no more than the least
under_exits : {S : Type 0} (onward : S → ℕ) (floor : ℕ) (exits : List (Exit S)) (n : ℕ) → n ≤ floor
    → ((e : Exit S) → Contains exits e → n ≤ e.cost + onward e.state) → n ≤ over_exits onward floor exits
under_exits onward floor [] n low each = low
under_exits onward floor (e ∷ exits) n low each =
    let first = each e (0, omega arith, refl) in
    let others = under_exits onward floor exits n low (λ x h. each x (suc h.0, (let k = h.1 in omega arith), h.2)) in
    omega arith

module _ {S B : Type 0} (rules : Rules S B) (table : Table S B) (low : S → List B → ℕ) (least : List B → ℕ) where
  -- a closed table is checked
  pub closed_checked : AreClosed rules table low least → AreChecked rules table low least
  closed_checked closed s block u listed = record {
    places = (closed s block u listed).places;
    begun = (closed s block u listed).begun;
    followed = λ p stands. followed (closed s block u listed).places p.state p.blocks p.distance ((closed s block u listed).followed p stands);
  }
    where
      followed : (places : List (Place S B)) (s' : S) (blocks : List B) (steps : ℕ) → IsFollowedByCalls rules table low least u places s' blocks steps
          → IsFollowed rules table low least u places s' blocks steps
      followed places s' [] steps h = h
      followed places s' (b ∷ bs) steps h = inr h

  module _ (base : S → List B → ℕ) (goal : S → Bool) (cap : ℕ) (add_up : AddUp low least base goal cap) where
    -- the estimate
    abbrev h : List B → S → ℕ
    h = estimate table base least goal cap

    -- it is not below the base bound
    pub base_below : (blocks : List B) (s : S) → base s blocks ≤ h blocks s
    base_below [] s = add_up.ended s
    base_below (block ∷ rest) s = omega arith

    -- nor below what a summary tells
    summary_below : (s : S) (block : B) (rest : List B) (u : Summary S) → table s block ≡ Some u → over_exits (h rest) (u.floor + least rest) u.exits ≤ h (block ∷ rest) s
    summary_below s block rest u listed =
        let e : by_summary (table s block) (least rest) (h rest) ≡ over_exits (h rest) (u.floor + least rest) u.exits = ap (λ o. by_summary o (least rest) (h rest)) listed in
        omega arith

    module _ (u : Summary S) (rest : List B) where
      -- what the summary tells in front of the rest
      abbrev claimed : ℕ
      claimed = over_exits (h rest) (u.floor + least rest) u.exits

      -- the floor and the rest
      by_floor : (s : S) (blocks : List B) (steps : ℕ) → u.floor ≤ steps + low s blocks → claimed ≤ steps + h (blocks ++ rest) s
      by_floor s blocks steps floor =
          let l = over_floor (h rest) (u.floor + least rest) u.exits in
          let more = add_up.low_more s blocks rest in
          let b = base_below (blocks ++ rest) s in
          omega arith

      module _ (places : List (Place S B)) (followed : (p : Place S B) → Contains places p → IsFollowedByCalls rules table low least u places p.state p.blocks p.distance) where
        -- an end that is covered
        from_end : (s : S) (steps : ℕ) → Covers u s steps → claimed ≤ steps + h rest s
        from_end s steps (inl floor) =
            let l = over_floor (h rest) (u.floor + least rest) u.exits in
            let b = base_below rest s in
            let c = add_up.least_base s rest in
            omega arith
        from_end s steps (inr x) =
            let l = over_exit (h rest) (u.floor + least rest) u.exits x.0 x.1 in
            let cost = x.3 in
            let same : h rest x.0.state ≡ h rest s = ap (h rest) x.2 in
            omega arith

        -- what is met, by the places with those blocks
        from_met : (s : S) (blocks : List B) (steps : ℕ) → ((p : Place S B) → Contains places p → p.blocks ≡ blocks → claimed ≤ p.distance + h (blocks ++ rest) p.state)
            → IsMet rules table low least u places s blocks steps → claimed ≤ steps + h (blocks ++ rest) s
        from_met s blocks steps at_places (inl floor) = by_floor s blocks steps floor
        from_met s blocks steps at_places (inr m) =
            let l = at_places m.0 m.1 m.3 in
            let near = m.4 in
            let same : h (blocks ++ rest) m.0.state ≡ h (blocks ++ rest) s = ap (h (blocks ++ rest)) m.2 in
            omega arith

        -- a place is no nearer to the goal than the summary tells
        from_place : (blocks : List B) (p : Place S B) → Contains places p → p.blocks ≡ blocks → claimed ≤ p.distance + h (blocks ++ rest) p.state
        from_place [] p stands e = from_end p.state p.distance (subst (λ bs. IsFollowedByCalls rules table low least u places p.state bs p.distance) e (followed p stands))
        from_place (block ∷ others) p stands e =
            by (from_place others) (subst (λ bs. IsFollowedByCalls rules table low least u places p.state bs p.distance) e (followed p stands))
          where
            by : ((q : Place S B) → Contains places q → q.blocks ≡ others → claimed ≤ q.distance + h (others ++ rest) q.state)
                → IsCalled rules table low least u places p.state block others p.distance → claimed ≤ p.distance + h ((block ∷ others) ++ rest) p.state
            by at_places call =
                let v = call.summary in
                let below = call.floor in
                let l = over_floor (h rest) (u.floor + least rest) u.exits in
                let more = add_up.least_more others rest in
                let under : claimed - p.distance ≤ over_exits (h (others ++ rest)) (v.floor + least (others ++ rest)) v.exits =
                under_exits (h (others ++ rest)) (v.floor + least (others ++ rest)) v.exits (claimed - p.distance) (omega arith)
                (λ x stands. (let m = from_met x.state others (p.distance + x.cost) at_places (call.met x stands) in omega arith)) in
                let above = summary_below p.state block (others ++ rest) v call.listed in
                omega arith

    -- so a rule lowers the estimate by one at most
    pub rules_lower_one : AreClosed rules table low least → RulesLowerOne rules table low least base goal cap
    rules_lower_one closed s block rest rs r known stands b =
        let above = base_below (r.blocks ++ rest) r.state in
        let more = by (table s block) refl in
        omega arith
      where
        by : (o : Option (Summary S)) → table s block ≡ o → by_summary o (least rest) (h rest) ≤ h (r.blocks ++ rest) r.state + 1
        by None e = omega arith
        by (Some u) e =
            let c = closed s block u e in
            let same : Some rs ≡ Some c.begun.rules_of = sym known ∙ c.begun.known in
            let one : rs ≡ c.begun.rules_of = cc in
            let m = c.begun.met r (subst (λ xs. Contains xs r) one stands) in
            let l = from_met u rest c.places c.followed r.state (r.blocks ++ []) 1 (from_place u rest c.places c.followed (r.blocks ++ [])) m in
            let t : h ((r.blocks ++ []) ++ rest) r.state ≡ h (r.blocks ++ rest) r.state = ap (λ bs. h (bs ++ rest) r.state) (append-nil r.blocks) in
            omega arith
