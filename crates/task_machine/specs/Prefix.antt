-- The successors of a configuration by the numbers below a bound.
use Rattle.std.specs.Prelude.{◌≡◌, ℕ, ◌<◌, ◌++◌, List, map, All}
use Rattle.word_machine.specs.declared.closed.Measured.{Measured}
use Rattle.word_machine.specs.declared.closed.Successor.{Successor}
use Rattle.word_machine.specs.Expansion.{IsExpansionOf}
use Rattle.word_machine.specs.Machine.{WordMachine, IsDone, IsLiveStep}
use Rattle.word_machine.specs.Meaning.{AreMeasured, Meaning, successor_at, successors_of}

module _ {C : Type 0} (m : WordMachine C) (beyond : C → Type 0) where
  -- a step by a number below the bound
  abbrev pub StepBelow : ℕ → C → ℕ → C → Type 0
  StepBelow bound c n d = IsLiveStep m c n d × (n < bound)

  -- the successors of c, which has this rank, by the numbers below the bound: one for each that leads on, in order,
  -- none of them done; what is beyond something may be left out
  abbrev pub IsPrefix : ℕ → C → ℕ → List (Successor C) → Type 0
  IsPrefix rank c bound successors = IsExpansionOf (StepBelow bound) (IsDone m) beyond rank c successors

-- what a list got of the successors of c so far: those by the numbers below the bound, measured
pub record IsMade {C R P : Type 0} (m : WordMachine P) (meaning : Meaning C R P) (beyond : P → Type 0) (measure : P → ℕ)
    (rank : ℕ) (c : C) (bound : ℕ) (old new : List (Measured R)) : Type 0 where
  pub more : List (Measured R)
  pub pushed : new ≡ old ++ more
  pub allowed : All (λ s. meaning.allows s.configuration) (successors_of more)
  pub prefix : IsPrefix m beyond rank (meaning.point c) bound (map (successor_at meaning.point_of) (successors_of more))
  pub measured : AreMeasured measure meaning more
