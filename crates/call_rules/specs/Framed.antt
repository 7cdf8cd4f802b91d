-- Calls in frames by number, and the table of blocks in whole states for which they stand.
use Rattle.std.specs.Prelude.{◌≡◌, ℕ, List, [], ◌∷◌, map, cond, ◌&&◌, Some, None, option_map, Contains}
use Rattle.htn_model.specs.State.{State, state_eq}
use Rattle.htn_model.specs.Problem.{Network, network_eq}
use Rattle.htn_calls.specs.Calls.{Exit, Summary, Table, Rule, Rules}
use Rattle.call_rules.specs.Frame.{Frame, within, lift}

-- one state is the part of another in a frame
abbrev pub IsPart : Frame → State → State → Type 0
IsPart frame s part = part ≡ within frame s

-- the states and the blocks of numbers, and a frame for the block of each
module _ (state : ℕ → State) (block : ℕ → Network) (frame : ℕ → Frame) where
  -- an exit, a summary and a rule of a block in a state that has this part: what is out of its frame stays
  abbrev pub lifted_exit : ℕ → State → Exit ℕ → Exit State
  lifted_exit j s e = record { state = lift (frame j) s (state e.state); cost = e.cost }

  abbrev pub lifted_summary : ℕ → State → Summary ℕ → Summary State
  lifted_summary j s u = record { exits = map (lifted_exit j s) u.exits; floor = u.floor }

  abbrev pub lifted_rule : ℕ → State → Rule ℕ ℕ → Rule State Network
  lifted_rule j s r = record { state = lift (frame j) s (state r.state); blocks = map block r.blocks }

  -- rules are local to the frames: those of a block in a part are lifted those in each state that has this part
  abbrev pub AreLocal : Rules ℕ ℕ → Rules State Network → Type 0
  AreLocal numbers rules =
      (i j : ℕ) (rs : List (Rule ℕ ℕ)) (s : State) → numbers i j ≡ Some rs → IsPart (frame j) s (state i)
      → rules s (block j) ≡ Some (map (lifted_rule j s) rs)

  module _ (listing : Table ℕ ℕ) where
    -- what is listed at the first of these sites, the numbers of a state and a block, whose block it is and whose state
    -- is the part in its frame, lifted
    abbrev pub framed : List (ℕ × ℕ) → Table State Network
    framed [] s b = None
    framed (site ∷ sites) s b =
        cond (state_eq (state site.0) (within (frame site.1) s) && network_eq (block site.1) b)
        (option_map (lifted_summary site.1 s) (listing site.0 site.1)) (framed sites s b)

    -- each call that is listed is at one of the sites, and no two numbers of their states or of their blocks stand for
    -- the same
    pub record AreFramedSites (sites : List (ℕ × ℕ)) : Type 0 where
      pub listed : (i j : ℕ) (u : Summary ℕ) → listing i j ≡ Some u → Contains sites (i, j)
      pub states : (p q : ℕ × ℕ) → Contains sites p → Contains sites q → state p.0 ≡ state q.0 → p.0 ≡ q.0
      pub blocks : (p q : ℕ × ℕ) → Contains sites p → Contains sites q → block p.1 ≡ block q.1 → p.1 ≡ q.1

    -- a table has, lifted, the calls that are listed for parts of states, and no others
    pub record IsFramed (table : Table State Network) : Type 0 where
      pub listed : (i j : ℕ) (u : Summary ℕ) (s : State) → listing i j ≡ Some u → IsPart (frame j) s (state i)
          → table s (block j) ≡ Some (lifted_summary j s u)
      pub only : (s : State) (b : Network) (u : Summary State) → table s b ≡ Some u
          → (i : ℕ) × (j : ℕ) × (v : Summary ℕ) × IsPart (frame j) s (state i) × (block j ≡ b) × (listing i j ≡ Some v)
          × (lifted_summary j s v ≡ u)

-- the table of such sites is one
abbrev pub FramedTablesStand : Type 0
FramedTablesStand =
    (state : ℕ → State) (block : ℕ → Network) (frame : ℕ → Frame) (listing : Table ℕ ℕ) (sites : List (ℕ × ℕ))
    → AreFramedSites state block frame listing sites
    → IsFramed state block frame listing (framed state block frame listing sites)
