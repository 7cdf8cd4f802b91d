-- Tallies by numbers.
use Rattle.std.specs.Prelude.{◌≡◌, ℕ, ◌<◌, false, List, length, slice_index_or}
use Rattle.word_machine.specs.Meaning.{Meaning}
use Rattle.tests.specs.declared.tallies.Tally.{Tally}
use Rattle.tests.specs.declared.tallies.Numbered.{Numbered}
use Rattle.tests.specs.declared.tallies.Reached.{Reached}
use Rattle.tests.specs.declared.tallies.Reached.TheVariants.{Known, New}

-- no task, and nothing counted
abbrev pub nothing : Tally
nothing = record { tasks = 0; value = 0; stuck = false }

-- no tally has two numbers
abbrev pub AreDistinct : List Tally → Type 0
AreDistinct tallies = (i j : ℕ) → i < length tallies → j < length tallies → slice_index_or tallies i nothing ≡ slice_index_or tallies j nothing → i ≡ j

-- the tally that was reached
abbrev pub written : List Tally → Reached → Tally
written tallies (Known c) = slice_index_or tallies c.number nothing
written tallies (New tally) = tally

-- its number, if it has one, is in use
abbrev pub is_written : List Tally → Reached → Type 0
is_written tallies (Known c) = c.number < length tallies
is_written tallies (New tally) = Unit {0}

-- what the numbers of tallies stand for
abbrev pub tally_meaning : List Tally → Meaning Numbered Reached Tally
tally_meaning tallies = record {
  knows = λ c. c.number < length tallies;
  point = λ c. slice_index_or tallies c.number nothing;
  allows = is_written tallies;
  point_of = written tallies;
}
