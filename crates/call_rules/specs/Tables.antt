-- A table by the numbers of states and blocks, as a table of what they stand for.
use Rattle.std.specs.Prelude.{◌≡◌, ℕ, List, [], ◌∷◌, cond, ◌&&◌, Some, None, option_map, Contains}
use Rattle.htn_model.specs.State.{State, state_eq}
use Rattle.htn_model.specs.Problem.{Network, network_eq}
use Rattle.htn_calls.specs.Calls.{Summary, Table}
use Rattle.htn_calls.specs.Numbered.{summary_of}

module _ (state : ℕ → State) (block : ℕ → Network) (listing : Table ℕ ℕ) where
  -- what is listed for a block in a state at the first of these sites that stands for them, a site being the numbers of
  -- a state and a block
  abbrev pub table_of : List (ℕ × ℕ) → Table State Network
  table_of [] s b = None
  table_of (site ∷ sites) s b =
      cond (state_eq (state site.0) s && network_eq (block site.1) b)
      (option_map (summary_of state block) (listing site.0 site.1)) (table_of sites s b)

  -- each call that is listed is at one of the sites, and no two of them stand for the same
  pub record AreSites (sites : List (ℕ × ℕ)) : Type 0 where
    pub listed : (i j : ℕ) (u : Summary ℕ) → listing i j ≡ Some u → Contains sites (i, j)
    pub apart : (p q : ℕ × ℕ) → Contains sites p → Contains sites q → state p.0 ≡ state q.0 → block p.1 ≡ block q.1
        → p ≡ q

  -- a table has the calls that are listed, and no others
  pub record IsTableOf (table : Table State Network) : Type 0 where
    pub listed : (i j : ℕ) (u : Summary ℕ) → listing i j ≡ Some u
        → table (state i) (block j) ≡ Some (summary_of state block u)
    pub only : (s : State) (b : Network) (u : Summary State) → table s b ≡ Some u
        → (i : ℕ) × (j : ℕ) × (v : Summary ℕ) × (state i ≡ s) × (block j ≡ b) × (listing i j ≡ Some v)
        × (summary_of state block v ≡ u)

-- the table of such sites is one
abbrev pub TablesStand : Type 0
TablesStand =
    (state : ℕ → State) (block : ℕ → Network) (listing : Table ℕ ℕ) (sites : List (ℕ × ℕ))
    → AreSites state block listing sites → IsTableOf state block listing (table_of state block listing sites)
