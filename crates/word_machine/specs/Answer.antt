-- The answers of a search.
use Rattle.std.specs.Prelude.{◌≡◌, ℕ, ◌<◌, ◌≤◌, List, Option}
use Rattle.std.specs.declared.option.Option.TheVariants as option
use Rattle.word_machine.specs.Words.{Precedes, MeetsBound, step_count}
use Rattle.word_machine.specs.Machine.{WordMachine, IsFinishing, IsLiveStep, IsMet}
use Rattle.word_machine.specs.declared.found.Ending.{Ending}
use Rattle.word_machine.specs.declared.found.Ending.TheVariants as ending
use Rattle.word_machine.specs.declared.found.Found.{Found}
use Rattle.word_machine.specs.declared.found.Found.TheVariants.{Word, None, Unsolvable}
use Rattle.word_machine.specs.declared.found.Outcome.{Outcome}
use Rattle.word_machine.specs.declared.found.Outcome.TheVariants.{Finished, Past, Exhausted, GivenUp, Stopped}
use Rattle.word_machine.specs.declared.measure.Horizon.{Horizon}
use Rattle.word_machine.specs.declared.measure.Measure.{Measure}
use Rattle.word_machine.specs.declared.measure.Measure.TheVariants.{OpenNodes, LowerBound}

module _ {Configuration : Type 0} (m : WordMachine Configuration) where
  -- the word finishes within the bound, and none that finishes comes before it
  pub record IsLeastFinishing (bound : ℕ) (word : List ℕ) : Type 0 where
    pub finishes : IsFinishing m word
    pub within : step_count word ≤ bound
    pub least : (other : List ℕ) → IsFinishing m other → Precedes other word → ⊥

  -- no word finishes within the bound
  abbrev pub NoneFinishes : ℕ → Type 0
  NoneFinishes bound = (word : List ℕ) → IsFinishing m word → bound < step_count word

  -- no word finishes with fewer steps
  abbrev pub NoneFinishesBefore : ℕ → Type 0
  NoneFinishesBefore steps = (word : List ℕ) → IsFinishing m word → steps ≤ step_count word

  -- no word finishes
  abbrev pub NeverFinishes : Type 0
  NeverFinishes = (word : List ℕ) → IsFinishing m word → ⊥

  -- the least finishing word; or none within the bound, which was met; or none at all, and the bound was not met
  abbrev pub IsAnswer : ℕ → Found → Type 0
  IsAnswer bound (Word word) = IsLeastFinishing bound word.items
  IsAnswer bound None = NoneFinishes bound × IsMet m bound
  IsAnswer bound Unsolvable = NeverFinishes × (IsMet m bound → ⊥)

  -- an answer; or the search was given up or stopped, and no word finishes with fewer steps than it names
  abbrev pub IsEnding : ℕ → Ending → Type 0
  IsEnding bound (ending.Answer found) = IsAnswer bound found
  IsEnding bound (ending.GivenUp none_below) = NoneFinishesBefore none_below
  IsEnding bound (ending.Stopped none_below) = NoneFinishesBefore none_below

  -- the outcome of a search that bounds the steps that are left by a measure in place of the open nodes; nothing is
  -- said where it was given up or stopped
  abbrev pub IsOutcome : (Configuration → ℕ) → ℕ → Outcome → Type 0
  IsOutcome measure bound (Finished word) = IsLeastFinishing bound word.items
  IsOutcome measure bound (Past least wide) = NoneFinishes bound × MeetsBound (IsLiveStep m) measure m.initials bound × NoneFinishesBefore least
  IsOutcome measure bound Exhausted = NeverFinishes × (MeetsBound (IsLiveStep m) measure m.initials bound → ⊥)
  IsOutcome measure bound GivenUp = Unit {0}
  IsOutcome measure bound Stopped = Unit {0}

  -- the lower bound of a measure on the steps that are left of a configuration
  abbrev pub measure_of : (Configuration → ℕ) → Measure → Configuration → ℕ
  measure_of lower_bound OpenNodes = m.open_len
  measure_of lower_bound LowerBound = lower_bound

  -- the lower bound of a configuration is greater than the horizon's limit; nothing is beyond a horizon without a limit
  abbrev pub IsBeyond : (Configuration → ℕ) → Horizon → Configuration → Type 0
  IsBeyond lower_bound horizon c = (most : ℕ) × (horizon.most_left ≡ option.Some most) × (most < measure_of lower_bound horizon.measure c)

-- an outcome by the open nodes, as an answer, unless it was given up or stopped
abbrev pub found_of : Outcome → Option Found
found_of (Finished word) = option.Some (Word word)
found_of (Past least wide) = option.Some None
found_of Exhausted = option.Some Unsolvable
found_of GivenUp = option.None
found_of Stopped = option.None

-- an outcome by the open nodes as an ending, where no word finishes with fewer steps than these
abbrev pub ending_of : ℕ → Outcome → Ending
ending_of none_below (Finished word) = ending.Answer (Word word)
ending_of none_below (Past least wide) = ending.Answer None
ending_of none_below Exhausted = ending.Answer Unsolvable
ending_of none_below GivenUp = ending.GivenUp none_below
ending_of none_below Stopped = ending.Stopped none_below
