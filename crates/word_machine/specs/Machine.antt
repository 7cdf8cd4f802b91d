-- A word machine, as contracts see it: at a configuration a number leads to at most one other.
use Rattle.std.specs.Prelude.{◌≡◌, ℕ, ◌+◌, ◌<◌, ◌≤◌, Bool, true, List, Option, Some, All, Contains}
use Rattle.std.specs.List.Sorted.{IsStrictlyIncreasing}
use Rattle.word_machine.specs.Words.{Leads, Live, Finishes, MeetsBound}

-- a dead number is one that no finishing word has there
pub record WordMachine (Configuration : Type 0) : Type 0 where
  pub initials : List Configuration
  pub step : Configuration → ℕ → Option Configuration
  pub is_done : Configuration → Bool
  pub open_len : Configuration → ℕ
  pub is_dead : Configuration → ℕ → Bool

module _ {Configuration : Type 0} (m : WordMachine Configuration) where
  -- the number leads from c to d
  abbrev pub IsStep : Configuration → ℕ → Configuration → Type 0
  IsStep c n d = m.step c n ≡ Some d

  -- the configuration is done
  abbrev pub IsDone : Configuration → Type 0
  IsDone c = m.is_done c ≡ true

  -- no finishing word has the number there
  abbrev pub IsDead : Configuration → ℕ → Type 0
  IsDead c n = m.is_dead c n ≡ true

  -- a step by a number that is not dead
  abbrev pub IsLiveStep : Configuration → ℕ → Configuration → Type 0
  IsLiveStep = Live IsStep IsDead

  -- the word leads an initial configuration to a done one
  abbrev pub IsFinishing : List ℕ → Type 0
  IsFinishing word = Finishes IsStep IsDone m.initials word

  -- some word without dead numbers reaches a configuration that none reaches with its steps and the open nodes within
  -- the bound
  abbrev pub IsMet : ℕ → Type 0
  IsMet bound = MeetsBound IsLiveStep m.open_len m.initials bound

  -- exactly the numbers that are not dead and lead on, ascending
  pub record IsLiveNumbers (c : Configuration) (numbers : List ℕ) : Type 0 where
    pub ascending : IsStrictlyIncreasing numbers
    pub each : All (λ n. (d : Configuration) × IsLiveStep c n d) numbers
    pub all : (n : ℕ) (d : Configuration) → IsLiveStep c n d → Contains numbers n

  -- what the search needs of a machine whose own configurations are those that belong
  pub record IsLawful (belongs : Configuration → Type 0) : Type 0 where
    pub starts : All belongs m.initials
    pub stays : (c d : Configuration) (n : ℕ) → belongs c → IsStep c n d → belongs d
    -- a step wants an open node and closes at most one; where the machine is done, none is open
    pub wants_open : (c d : Configuration) (n : ℕ) → IsStep c n d → 0 < m.open_len c
    pub closes_one : (c d : Configuration) (n : ℕ) → IsStep c n d → m.open_len c ≤ m.open_len d + 1
    pub done_closed : (c : Configuration) → IsDone c → m.open_len c ≡ 0
    pub dead_never : (c d e : Configuration) (n : ℕ) (ns : List ℕ) → belongs c → IsDead c n → IsStep c n d → Leads IsStep d ns e → IsDone e → ⊥

  -- a lower bound on the steps that are left, at least the number of open nodes
  pub record IsLowerBound (bound : Configuration → ℕ) : Type 0 where
    pub lowers_one : (c d : Configuration) (n : ℕ) → IsLiveStep c n d → bound c ≤ bound d + 1
    pub done_zero : (c : Configuration) → IsDone c → bound c ≡ 0
    pub above_open : (c : Configuration) → m.open_len c ≤ bound c
