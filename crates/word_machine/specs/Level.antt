-- What it means to expand the configurations at a range of ranks.
use Rattle.std.specs.Prelude.{◌≡◌, ℕ, ◌+◌, ◌<◌, ◌≤◌, List, length, flat_map, Some, slice_get}
use Rattle.word_machine.specs.declared.workers_level.ExpandedLevel.{ExpandedLevel}
use Rattle.word_machine.specs.declared.workers_level.ExpandedLevel.TheVariants as level
use Rattle.word_machine.specs.declared.in_order.Expanded.{Expanded}
use Rattle.word_machine.specs.declared.in_order.Expanded.TheVariants.{Whole, Done}

module _ {S : Type 0} (has_successors : ℕ → List S → Type 0) where
  -- the successors of the ranks from `first` on and below `last`: each rank has its list of them, and the lists stand
  -- end to end
  pub record AreSuccessors (first last : ℕ) (successors : List S) : Type 0 where
    pub lists : List (List S)
    pub count : first + length lists ≡ last
    pub of_rank : (i : ℕ) (xs : List S) → slice_get lists i ≡ Some xs → has_successors (first + i) xs
    pub joined : successors ≡ flat_map (λ xs. xs) lists

module _ {S F : Type 0} (has_successors : ℕ → List S → Type 0) (finishes : ℕ → F → Type 0) where
  -- of the ranks from `first` on and below `last`, this is the first with a done successor, and so it finishes
  pub record IsFirstDone (first last rank : ℕ) (finish : F) : Type 0 where
    pub from_first : first ≤ rank
    pub before_last : rank < last
    pub finishes_so : finishes rank finish
    pub before : (r : ℕ) → first ≤ r → r < rank → (xs : List S) × has_successors r xs

  -- the ranks from `first` on and below `last` were expanded up to the first with a done successor, or whole
  abbrev pub IsExpanded : (first last : ℕ) → Expanded S F → Type 0
  IsExpanded first last (Whole successors) = AreSuccessors has_successors first last successors.items
  IsExpanded first last (Done rank finish) = IsFirstDone first last rank finish

  -- the ranks of a level were expanded likewise, where its successors are in several vectors
  abbrev pub IsExpandedLevel : (first last : ℕ) → ExpandedLevel S F → Type 0
  IsExpandedLevel first last (level.Whole successors) = AreSuccessors has_successors first last successors
  IsExpandedLevel first last (level.Done rank finish) = IsFirstDone first last rank finish
