-- Words of ranks, which a search finds, translated into words of numbers.
use Rattle.std.specs.Prelude.{◌≡◌, ℕ, true, List, Some}
use Rattle.htn_model.specs.Grounding.{problem_of}
use Rattle.htn_model.specs.Levels.{is_done}
use Rattle.htn_model.specs.Machine.{Config}
use Rattle.htn_model.specs.Task.{Task}
use Rattle.word_machine.specs.Words.{Leads}
use Rattle.word_machine.specs.Machine.{IsStep}
use Rattle.htn_walk.specs.Machine.{machine_of}
use Rattle.htn_walk.specs.Fewer.{numbers_from, numbers_of}
use Rattle.htn_walk.specs.Listed.{initial_of, listing_machine, number_of}

-- the numbers of a sequence of ranks, from a configuration on
abbrev pub told : Task → Config → List ℕ → List ℕ
told t c ranks = numbers_from (machine_of (problem_of t)) (listing_machine t) (initial_of t) (number_of t) (Some c) ranks

-- the numbers of a word of ranks
abbrev pub told_word : Task → List ℕ → List ℕ
told_word t ranks = numbers_of (machine_of (problem_of t)) (listing_machine t) (initial_of t) (number_of t) ranks

-- the ranks lead the configuration to one that is done
abbrev pub FinishesListed : Task → Config → List ℕ → Type 0
FinishesListed t c ranks = (to : Config) × Leads (IsStep (listing_machine t)) c ranks to × (is_done (problem_of t) to ≡ true)
