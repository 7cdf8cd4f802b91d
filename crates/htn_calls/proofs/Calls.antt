-- Checked call tables keep their claims, and the estimate by claims that hold is one from below.
use Rattle.std.proofs.Common.{◌≡◌, ℕ, zero, suc, ◌+◌, ◌<◌, ◌≤◌, Bool, true, cond, List, [], ◌∷◌, ◌++◌, length, Option, Some, None, inl, inr, sym, refl, ap, ◌∙◌, subst, arith}
use Rattle.std.specs.Prelude.{Contains}
use Rattle.std.proofs.lemmas.List.{length-append}
use Rattle.htn_calls.specs.Leads.{Leads, Ends, Splits, AreInSeries}
use Rattle.htn_calls.specs.Calls.{Exit, Summary, Table, Covers, Rules, Place, Claims, AreRules, AreBounds, IsMet, IsStepped, IsCalled, IsFollowed, IsChecked, AreChecked, over_exits, by_summary, estimate}

-- what is covered after some steps is covered after more
covers_more : {S : Type 0} (u : Summary S) (t : S) (m n : ℕ) → Covers u t m → m ≤ n → Covers u t n
covers_more u t m n (inl low) h = inl (omega arith)
covers_more u t m n (inr e) h = inr (e.0, e.1, e.2, (let k = e.3 in omega arith))

module _ {C S B : Type 0} (step : C → ℕ → Option C) (at : S → List B → C) (series : AreInSeries step at) where
  -- a word that is split is as long as its parts
  split_length : (word : List ℕ) (s : S) (block : B) (rest : List B) (t : S) (sp : Splits step at word s block rest t) → length word ≡ length sp.first + length sp.later
  split_length word s block rest t sp = ap length sp.joined ∙ length-append sp.first sp.later

  module _ (rules : Rules S B) (are_rules : AreRules step at rules) (table : Table S B) (low : S → List B → ℕ) (least : List B → ℕ)
      (bounds : AreBounds step at (λ t. true) low least) where
    -- a number of steps and then a word that ends the blocks are covered
    abbrev IsCovered : Summary S → S → List B → ℕ → List ℕ → Type 0
    IsCovered u s blocks steps word = (t : S) → Ends step at word s blocks t → Covers u t (steps + length word)

    -- at the places of checked calls, words of fewer than n numbers are covered
    abbrev Covered : ℕ → Type 0
    Covered n =
        (s : S) (block : B) (u : Summary S) (checked : IsChecked rules table low least s block u) (p : Place S B) → Contains checked.places p
        → (word : List ℕ) → length word < n → IsCovered u p.state p.blocks p.distance word

    module _ (n : ℕ) (covered : Covered n) where
      module _ (s : S) (block : B) (u : Summary S) (checked : IsChecked rules table low least s block u) where
        -- so they are from what is met
        from_met : (s' : S) (blocks : List B) (steps : ℕ) → IsMet rules table low least u checked.places s' blocks steps
            → (word : List ℕ) → length word < n → IsCovered u s' blocks steps word
        from_met s' blocks steps (inl floor) word short t ends = let l = bounds.by_state word s' t blocks ends refl in inl (omega arith)
        from_met s' blocks steps (inr m) word short t ends =
            let p = m.0 in
            let near = m.4 in
            let moved = subst (λ bs. Ends step at word p.state bs t) (sym m.3) (subst (λ x. Ends step at word x blocks t) (sym m.2) ends) in
            covers_more u t (p.distance + length word) (steps + length word) (covered s block u checked p m.1 word short t moved) (omega arith)

        -- and with one number more, by the rules of the first block
        from_stepped : (s' : S) (first : B) (rest : List B) (steps : ℕ) → IsStepped rules table low least u checked.places s' first rest steps
            → (word : List ℕ) → length word ≤ n → IsCovered u s' (first ∷ rest) steps word
        from_stepped s' first rest steps stepped [] short t ends = absurd (are_rules.open_still s' t first rest stepped.rules_of stepped.known ends)
        from_stepped s' first rest steps stepped (number ∷ word) short t ends =
            let by = are_rules.steps s' first rest stepped.rules_of number ends.0 stepped.known ends.1 in
            let r = by.0 in
            covers_more u t ((steps + 1) + length word) (steps + length (number ∷ word))
            (from_met r.state (r.blocks ++ rest) (steps + 1) (stepped.met r by.1) word (omega arith) t (subst (λ c. Leads step word c (at t [])) by.2 ends.2)) (omega arith)

        -- so the claim of the call holds of words of at most n numbers
        claimed : (word : List ℕ) (t : S) → length word ≤ n → Ends step at word s (block ∷ []) t → Covers u t (length word)
        claimed word t short ends = covers_more u t (0 + length word) (length word) (from_stepped s block [] 0 checked.begun word short t ends) (omega arith)

        -- a call takes a number at least
        takes_one : (word : List ℕ) (t : S) → Ends step at word s (block ∷ []) t → 0 < length word
        takes_one [] t ends = absurd (are_rules.open_still s t block [] checked.begun.rules_of checked.begun.known ends)
        takes_one (number ∷ word) t ends = omega arith

      module _ (all_checked : AreChecked rules table low least) where
        -- and as a call, which takes a number at least, so that what is left is shorter
        from_called : (s : S) (block : B) (u : Summary S) (checked : IsChecked rules table low least s block u)
            → (s' : S) (first : B) (rest : List B) (steps : ℕ) → IsCalled rules table low least u checked.places s' first rest steps
            → (word : List ℕ) → length word ≤ n → IsCovered u s' (first ∷ rest) steps word
        from_called s block u checked s' first rest steps call word short t ends =
            let sp = series.split word s' t first rest ends in
            let inner = all_checked s' first call.summary call.listed in
            let long = split_length word s' first rest t sp in
            by sp long (takes_one s' first call.summary inner sp.first sp.middle sp.ends_first)
            (claimed s' first call.summary inner sp.first sp.middle (omega arith) sp.ends_first)
          where
            by : (sp : Splits step at word s' first rest t) → length word ≡ length sp.first + length sp.later → 0 < length sp.first
                → Covers call.summary sp.middle (length sp.first) → Covers u t (steps + length word)
            by sp long one (inl floor) =
                let others = bounds.by_blocks sp.later sp.middle t rest sp.ends_later refl in
                let below = call.floor in
                inl (omega arith)
            by sp long one (inr x) =
                let e = x.0 in
                let cost = x.3 in
                covers_more u t ((steps + e.cost) + length sp.later) (steps + length word)
                (from_met s block u checked e.state rest (steps + e.cost) (call.met e x.1) sp.later (omega arith) t
                (subst (λ y. Ends step at sp.later y rest t) (sym x.2) sp.ends_later)) (omega arith)

        -- so they are from what is followed
        from_followed : (s : S) (block : B) (u : Summary S) (checked : IsChecked rules table low least s block u)
            → (s' : S) (blocks : List B) (steps : ℕ) → IsFollowed rules table low least u checked.places s' blocks steps
            → (word : List ℕ) → length word ≤ n → IsCovered u s' blocks steps word
        from_followed s block u checked s' [] steps ended word short t ends =
            covers_more u t steps (steps + length word) (subst (λ x. Covers u x steps) (series.ended word s' t ends) ended) (omega arith)
        from_followed s block u checked s' (first ∷ rest) steps (inl stepped) word short t ends = from_stepped s block u checked s' first rest steps stepped word short t ends
        from_followed s block u checked s' (first ∷ rest) steps (inr call) word short t ends = from_called s block u checked s' first rest steps call word short t ends

    module _ (all_checked : AreChecked rules table low least) where
      -- words of any length are covered
      covered : (n : ℕ) → Covered n
      covered zero s block u checked p stands word short t ends = absurd (omega arith)
      covered (suc n) s block u checked p stands word short t ends =
          from_followed n (covered n) all_checked s block u checked p.state p.blocks p.distance (checked.followed p stands) word (omega arith) t ends

      -- all claims of a table whose calls are checked hold
      pub claims_hold : Claims step at table
      claims_hold s block u listed word t ends = claimed (length word) (covered (length word)) s block u (all_checked s block u listed) word t (omega arith) ends

-- ## The estimate

-- the least is no more than the number
pub over_floor : {S : Type 0} (onward : S → ℕ) (floor : ℕ) (exits : List (Exit S)) → over_exits onward floor exits ≤ floor
over_floor onward floor [] = omega arith
over_floor onward floor (e ∷ exits) = let l = over_floor onward floor exits in omega arith

-- and no more than what follows from an exit
pub over_exit : {S : Type 0} (onward : S → ℕ) (floor : ℕ) (exits : List (Exit S)) (e : Exit S) → Contains exits e → over_exits onward floor exits ≤ e.cost + onward e.state
over_exit {S} onward floor [] e (k, low, is) = absurd (omega arith)
over_exit {S} onward floor (x ∷ exits) e (zero, low, is) = subst (λ y. over_exits onward floor (x ∷ exits) ≤ y.cost + onward y.state) is (omega arith)
over_exit {S} onward floor (x ∷ exits) e (suc k, low, is) = let l = over_exit onward floor exits e (k, omega arith, is) in omega arith

module _ {C S B : Type 0} (step : C → ℕ → Option C) (at : S → List B → C) (series : AreInSeries step at)
    (table : Table S B) (low : S → List B → ℕ) (least : List B → ℕ) (goal : S → Bool) (cap : ℕ)
    (bounds : AreBounds step at goal low least) (claims : Claims step at table) where
  -- a word that ends the blocks in a state of the goal has at least as many numbers as the estimate
  pub estimate_below : (blocks : List B) (s : S) (word : List ℕ) (t : S) → Ends step at word s blocks t → goal t ≡ true
      → estimate table low least goal cap blocks s ≤ length word
  estimate_below [] s word t ends reached =
      let same = series.ended word s t ends in
      subst (λ b. cond b 0 cap ≤ length word) (sym (ap goal same ∙ reached)) (omega arith)
  estimate_below (block ∷ rest) s word t ends reached =
      let base = bounds.by_state word s t (block ∷ rest) ends reached in
      let more = by (estimate_below rest) (table s block) refl in
      omega arith
    where
      -- what the others take
      onward : S → ℕ
      onward = estimate table low least goal cap rest

      at_end : (u : Summary S) → ((m : S) (later : List ℕ) (x : S) → Ends step at later m rest x → goal x ≡ true → onward m ≤ length later)
          → (sp : Splits step at word s block rest t) → length word ≡ length sp.first + length sp.later → Covers u sp.middle (length sp.first)
          → over_exits onward (u.floor + least rest) u.exits ≤ length word
      at_end u rests sp long (inl floor) =
          let others = bounds.by_blocks sp.later sp.middle t rest sp.ends_later reached in
          let l = over_floor onward (u.floor + least rest) u.exits in
          omega arith
      at_end u rests sp long (inr x) =
          let later = rests sp.middle sp.later t sp.ends_later reached in
          let cost = x.3 in
          let l : over_exits onward (u.floor + least rest) u.exits ≤ x.0.cost + onward sp.middle =
          subst (λ y. over_exits onward (u.floor + least rest) u.exits ≤ x.0.cost + onward y) x.2
          (over_exit onward (u.floor + least rest) u.exits x.0 x.1) in
          omega arith

      by : ((m : S) (later : List ℕ) (x : S) → Ends step at later m rest x → goal x ≡ true → onward m ≤ length later)
          → (o : Option (Summary S)) → table s block ≡ o → by_summary o (least rest) onward ≤ length word
      by rests None e = omega arith
      by rests (Some u) e =
          let sp = series.split word s t block rest ends in
          at_end u rests sp (split_length step at series word s block rest t sp) (claims s block u e sp.first sp.middle sp.ends_first)
