-- Call tables: how a call, a block begun in a state, may end. What a table claims, what is checked of it call by call,
-- and the estimate by it.
use Rattle.std.specs.Prelude.{◌≡◌, ℕ, ◌+◌, ◌≤◌, ◌⊎◌, List, [], ◌∷◌, ◌++◌, length, Contains, Option, Some, None, Bool, true, cond, min, max}
use Rattle.htn_calls.specs.Leads.{Ends}

-- ## Tables and their claims

-- a state in which a call may end, and a number of steps
pub record Exit (S : Type 0) : Type 0 where
  pub state : S
  pub cost : ℕ

-- the exits of a call, and its floor
pub record Summary (S : Type 0) : Type 0 where
  pub exits : List (Exit S)
  pub floor : ℕ

-- the summaries of calls; none for a call that is not in the table
abbrev pub Table : Type 0 → Type 0 → Type 0
Table S B = S → B → Option (Summary S)

-- an end in a state after a number of steps: that is not below the floor, or not below the cost of an exit in that state
abbrev pub Covers : {S : Type 0} → Summary S → S → ℕ → Type 0
Covers {S} u t steps = (u.floor ≤ steps) ⊎ ((e : Exit S) × Contains u.exits e × (e.state ≡ t) × (e.cost ≤ steps))

-- ## Checks

-- what a step of a block leads to: a state, and the blocks in its place
pub record Rule (S B : Type 0) : Type 0 where
  pub state : S
  pub blocks : List B

-- the rules of blocks in states; none where they are not known
abbrev pub Rules : Type 0 → Type 0 → Type 0
Rules S B = S → B → Option (List (Rule S B))

-- blocks in a state, and a number of steps that it takes at least from the start of the call to there
pub record Place (S B : Type 0) : Type 0 where
  pub state : S
  pub blocks : List B
  pub distance : ℕ

module _ {S B : Type 0} (rules : Rules S B) (table : Table S B) (low : S → List B → ℕ) (least : List B → ℕ) where
  module _ (u : Summary S) (places : List (Place S B)) where
    -- blocks in a state, after a number of steps, are a place of no greater distance, or the floor is not above what ends
    -- them by the base bound
    abbrev pub IsMet : S → List B → ℕ → Type 0
    IsMet s blocks steps =
        (u.floor ≤ steps + low s blocks)
        ⊎ ((p : Place S B) × Contains places p × (p.state ≡ s) × (p.blocks ≡ blocks) × (p.distance ≤ steps))

    -- the rules of the block are known, and what each leads to, with the others behind, is met
    pub record IsStepped (s : S) (block : B) (rest : List B) (steps : ℕ) : Type 0 where
      pub rules_of : List (Rule S B)
      pub known : rules s block ≡ Some rules_of
      pub met : (r : Rule S B) → Contains rules_of r → IsMet r.state (r.blocks ++ rest) (steps + 1)

    -- the block is a call of the table: at each exit the others are met, and the floor is not above its floor and what
    -- ends the others by the base bound
    pub record IsCalled (s : S) (block : B) (rest : List B) (steps : ℕ) : Type 0 where
      pub summary : Summary S
      pub listed : table s block ≡ Some summary
      pub met : (e : Exit S) → Contains summary.exits e → IsMet e.state rest (steps + e.cost)
      pub floor : u.floor ≤ steps + (summary.floor + least rest)

    -- where no block is left, the end is covered; else the first is followed by its rules or as a call
    abbrev pub IsFollowed : S → List B → ℕ → Type 0
    IsFollowed s [] steps = Covers u s steps
    IsFollowed s (block ∷ rest) steps = IsStepped s block rest steps ⊎ IsCalled s block rest steps

  -- what is checked of a call: the call itself is followed by its rules, and each place is followed
  pub record IsChecked (s : S) (block : B) (u : Summary S) : Type 0 where
    pub places : List (Place S B)
    pub begun : IsStepped u places s block [] 0
    pub followed : (p : Place S B) → Contains places p → IsFollowed u places p.state p.blocks p.distance

  -- each call of the table is checked
  abbrev pub AreChecked : Type 0
  AreChecked = (s : S) (block : B) (u : Summary S) → table s block ≡ Some u → IsChecked s block u

-- ## The estimate

-- the least of a number and what follows from each exit
abbrev pub over_exits : {S : Type 0} → (S → ℕ) → ℕ → List (Exit S) → ℕ
over_exits onward floor [] = floor
over_exits onward floor (e ∷ exits) = min (e.cost + onward e.state) (over_exits onward floor exits)

-- by a summary the least over its exits, and over its floor with what ends the others; nothing by none
abbrev pub by_summary : {S : Type 0} → Option (Summary S) → ℕ → (S → ℕ) → ℕ
by_summary None others onward = 0
by_summary (Some u) others onward = over_exits onward (u.floor + others) u.exits

module _ {S B : Type 0} (table : Table S B) (low : S → List B → ℕ) (least : List B → ℕ) (goal : S → Bool) (cap : ℕ) where
  -- how many steps at least lead from a state with these blocks to the goal: by the base bound, or by the call of the
  -- first block and what then leads on from each exit
  abbrev pub estimate : List B → S → ℕ
  estimate [] s = cond (goal s) 0 cap
  estimate (block ∷ rest) s = max (low s (block ∷ rest)) (by_summary (table s block) (least rest) (estimate rest))

-- ## What it all means for words

module _ {C S B : Type 0} (step : C → ℕ → Option C) (at : S → List B → C) where
  -- the claims of a table: each word that ends a call is covered
  abbrev pub Claims : Table S B → Type 0
  Claims table =
      (s : S) (block : B) (u : Summary S) → table s block ≡ Some u → (word : List ℕ) (t : S) → Ends step at word s (block ∷ []) t → Covers u t (length word)

  -- a block whose rules are known is open, and they have what each step leads to, whatever is behind
  pub record AreRules (rules : Rules S B) : Type 0 where
    pub open_still : (s t : S) (block : B) (rest : List B) (rs : List (Rule S B)) → rules s block ≡ Some rs → at s (block ∷ rest) ≡ at t [] → ⊥
    pub steps : (s : S) (block : B) (rest : List B) (rs : List (Rule S B)) (number : ℕ) (next : C) → rules s block ≡ Some rs
        → step (at s (block ∷ rest)) number ≡ Some next → (r : Rule S B) × Contains rs r × (next ≡ at r.state (r.blocks ++ rest))

  -- base bounds: each word that ends blocks in a state that passes has at least as many numbers as they say, by the
  -- state and the blocks, and by the blocks alone
  pub record AreBounds (goal : S → Bool) (low : S → List B → ℕ) (least : List B → ℕ) : Type 0 where
    pub by_state : (word : List ℕ) (s t : S) (blocks : List B) → Ends step at word s blocks t → goal t ≡ true → low s blocks ≤ length word
    pub by_blocks : (word : List ℕ) (s t : S) (blocks : List B) → Ends step at word s blocks t → goal t ≡ true → least blocks ≤ length word
