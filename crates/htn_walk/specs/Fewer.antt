-- A word machine that has only some of another's numbers, counted anew, and its words as words of the other.
use Rattle.std.specs.Prelude.{◌≡◌, ℕ, ◌<◌, ◌≤◌, false, List, [], ◌∷◌, Option, Some, None, slice_get}
use Rattle.word_machine.specs.Words.{Finishes}
use Rattle.word_machine.specs.Machine.{WordMachine, IsStep, IsLiveStep, IsDone, IsFinishing}
use Rattle.word_machine.specs.declared.found.Found.{Found}
use Rattle.word_machine.specs.declared.found.Found.TheVariants.{Word, None as NoWord, Unsolvable}

-- no finishing word has a dead number
abbrev pub FinishesLive : {C : Type 0} → WordMachine C → Type 0
FinishesLive m = (word : List ℕ) → IsFinishing m word → Finishes (IsLiveStep m) (IsDone m) m.initials word

module _ {C : Type 0} (m few : WordMachine C) (initial_of : ℕ → ℕ) (number_of : C → ℕ → ℕ) where
  -- `few` has some of the numbers that are not dead, in their order, as `initial_of` and `number_of` map its numbers to
  -- those of `m`; each number that it leaves out leads to the same configuration as a lower one that it has
  pub record HasEnough : Type 0 where
    pub is_done : (c : C) → few.is_done c ≡ m.is_done c
    pub open_len : (c : C) → few.open_len c ≡ m.open_len c
    pub none_dead : (c : C) (rank : ℕ) → few.is_dead c rank ≡ false
    pub initial : (rank : ℕ) (c : C) → slice_get few.initials rank ≡ Some c → slice_get m.initials (initial_of rank) ≡ Some c
    pub initials_ascend : (r s : ℕ) (c d : C) → r < s → slice_get few.initials r ≡ Some c → slice_get few.initials s ≡ Some d → initial_of r < initial_of s
    pub first_initial : (number : ℕ) (c : C) → slice_get m.initials number ≡ Some c → (rank : ℕ) × (slice_get few.initials rank ≡ Some c) × (initial_of rank ≤ number)
    pub step : (c d : C) (rank : ℕ) → IsStep few c rank d → IsLiveStep m c (number_of c rank) d
    pub steps_ascend : (c d e : C) (r s : ℕ) → r < s → IsStep few c r d → IsStep few c s e → number_of c r < number_of c s
    pub first_step : (c d : C) (number : ℕ) → IsLiveStep m c number d → (rank : ℕ) × IsStep few c rank d × (number_of c rank ≤ number)

  -- the numbers in `m` of a sequence of steps of `few`, from a configuration on
  abbrev pub numbers_from : Option C → List ℕ → List ℕ
  numbers_from c [] = []
  numbers_from None (rank ∷ ranks) = []
  numbers_from (Some c) (rank ∷ ranks) = number_of c rank ∷ numbers_from (few.step c rank) ranks

  -- the word of `few` in the numbers of `m`
  abbrev pub numbers_of : List ℕ → List ℕ
  numbers_of [] = []
  numbers_of (rank ∷ ranks) = initial_of rank ∷ numbers_from (slice_get few.initials rank) ranks

  -- the two findings are of the same kind, and a word of the second is that of the first in the numbers of `m`
  abbrev pub IsToldBy : Found → Found → Type 0
  IsToldBy (Word ranks) (Word word) = word.items ≡ numbers_of ranks.items
  IsToldBy (Word ranks) NoWord = ⊥
  IsToldBy (Word ranks) Unsolvable = ⊥
  IsToldBy NoWord (Word word) = ⊥
  IsToldBy NoWord NoWord = Unit {0}
  IsToldBy NoWord Unsolvable = ⊥
  IsToldBy Unsolvable (Word word) = ⊥
  IsToldBy Unsolvable NoWord = ⊥
  IsToldBy Unsolvable Unsolvable = Unit {0}
