-- The configurations of a dive, and the extent by which it chooses among them.
use Rattle.std.specs.Prelude.{◌≡◌, ℕ, ◌+◌, ◌-◌, ◌<◌, List, Some, slice_get, map, All}
use Rattle.word_machine.specs.Words.{Reaches, step_count}
use Rattle.word_machine.specs.Machine.{WordMachine, IsLiveStep}
use Rattle.word_machine.specs.Meaning.{Meaning}
use Rattle.word_machine.specs.Ranks.{IsOwned}

module _ {Configuration : Type 0} (m : WordMachine Configuration) where
  -- some word without dead numbers reaches the configuration
  abbrev pub IsReached : Configuration → Type 0
  IsReached c = (word : List ℕ) × Reaches (IsLiveStep m) m.initials word c

  -- each configuration that a word reaches is in the list, if the word's steps and the lower bound of the configuration
  -- sum to less than `least`
  abbrev pub AreKeptBelow : (Configuration → ℕ) → ℕ → List Configuration → Type 0
  AreKeptBelow lower least keys =
      (word : List ℕ) (c : Configuration) → Reaches (IsLiveStep m) m.initials word c → step_count word + lower c < least
      → (rank : ℕ) × (slice_get keys rank ≡ Some c)

  -- a lower bound on the steps that lead to a configuration outside that list, plus its open nodes
  abbrev pub extent : (Configuration → ℕ) → ℕ → Configuration → ℕ
  extent lower least c = (least - lower c) + m.open_len c

-- the configuration is numbered, and its point is one of the machine's own that some word reaches
abbrev pub IsVisited : {C R P : Type 0} → WordMachine P → (P → Type 0) → Meaning C R P → C → Type 0
IsVisited m belongs meaning c = IsOwned meaning belongs c × IsReached m (meaning.point c)

-- all configurations of the list are visited, and it has each one that a word reaches if the word's steps and the lower
-- bound of the configuration sum to less than `least`
abbrev pub AreAllBelow : {C R P : Type 0} → WordMachine P → (P → Type 0) → (P → ℕ) → Meaning C R P → ℕ → List C → Type 0
AreAllBelow m belongs lower meaning least keys = All (IsVisited m belongs meaning) keys × AreKeptBelow m lower least (map meaning.point keys)
