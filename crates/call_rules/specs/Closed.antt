-- Calls that are closed in their frames: what is checked of each is checked of the parts of states in its frame.
use Rattle.std.specs.Prelude.{◌≡◌, ℕ, ◌+◌, ◌≤◌, ◌⊎◌, List, [], ◌∷◌, map, Some, Contains}
use Rattle.htn_model.specs.State.{State}
use Rattle.htn_model.specs.Problem.{Network}
use Rattle.htn_calls.specs.Calls.{Exit, Summary, Table, Covers, Rule, Rules, Place}
use Rattle.htn_calls.specs.Closed.{AreClosed}
use Rattle.call_rules.specs.Frame.{Frame, IsInside, lift}
use Rattle.call_rules.specs.Framed.{IsPart, AreLocal, IsFramed}

module _ (state : ℕ → State) (frame : ℕ → Frame) (numbers : Rules ℕ ℕ) (listing : Table ℕ ℕ) (total : List ℕ → ℕ) where
  module _ (u : Summary ℕ) (places : List (Place ℕ ℕ)) where
    -- blocks in a state, after a number of steps, are a place of no greater distance, or the floor is not above what
    -- ends them by their sizes
    abbrev pub IsMetIn : State → List ℕ → ℕ → Type 0
    IsMetIn s blocks steps =
        (u.floor ≤ steps + total blocks)
        ⊎ ((p : Place ℕ ℕ) × Contains places p × (state p.state ≡ s) × (p.blocks ≡ blocks) × (p.distance ≤ steps))

    -- a block of a call's place is a call in the part of the place's state in its own frame, which is inside that of
    -- the call: at each exit, lifted, the others are met, and the floor is not above its floor and what ends the others
    pub record IsCalledIn (caller i j : ℕ) (rest : List ℕ) (steps : ℕ) : Type 0 where
      pub part : ℕ
      pub summary : Summary ℕ
      pub is_part : IsPart (frame j) (state i) (state part)
      pub listed : listing part j ≡ Some summary
      pub inside : IsInside (frame j) (frame caller)
      pub met : (e : Exit ℕ) → Contains summary.exits e
          → IsMetIn (lift (frame j) (state i) (state e.state)) rest (steps + e.cost)
      pub floor : u.floor ≤ steps + (summary.floor + total rest)

    -- where no block is left, the end is covered; else the first is followed as a call
    abbrev pub IsFollowedIn : ℕ → ℕ → List ℕ → ℕ → Type 0
    IsFollowedIn caller i [] steps = Covers u i steps
    IsFollowedIn caller i (j ∷ rest) steps = IsCalledIn caller i j rest steps

  -- what is checked of a call: each of its rules is met after a step, and each place is followed
  pub record IsClosedIn (i j : ℕ) (u : Summary ℕ) : Type 0 where
    pub places : List (Place ℕ ℕ)
    pub rules_of : List (Rule ℕ ℕ)
    pub known : numbers i j ≡ Some rules_of
    pub met : (r : Rule ℕ ℕ) → Contains rules_of r → IsMetIn u places (state r.state) r.blocks 1
    pub followed : (p : Place ℕ ℕ) → Contains places p → IsFollowedIn u places j p.state p.blocks p.distance

  -- each call that is listed is checked so
  abbrev pub AreClosedIn : Type 0
  AreClosedIn = (i j : ℕ) (u : Summary ℕ) → listing i j ≡ Some u → IsClosedIn i j u

-- a table of calls that are closed in their frames is closed, over rules that are local to these
abbrev pub FramesLift : Type 0
FramesLift =
    (state : ℕ → State) (block : ℕ → Network) (frame : ℕ → Frame) (numbers : Rules ℕ ℕ) (rules : Rules State Network)
    (listing : Table ℕ ℕ) (table : Table State Network) (total : List ℕ → ℕ) (least : List Network → ℕ)
    → IsFramed state block frame listing table → AreLocal state block frame numbers rules
    → ((blocks : List ℕ) → total blocks ≤ least (map block blocks)) → AreClosedIn state frame numbers listing total
    → AreClosed rules table (λ s. least) least
