-- The contents of a closed list, and how offering a configuration changes them.
use Rattle.std.specs.Prelude.{◌≡◌, ℕ, ◌+◌, ◌<◌, ◌≤◌, ◌⊎◌, Some, slice_get, nat_eq, Bool, true, List, [], ◌∷◌, ◌++◌, if◌then◌else◌, fold, nat_le, ◌-◌, min, slice_index_or}
use Rattle.std.specs.List.{list_any}
use Rattle.word_machine.specs.declared.closed.Origin.{Origin}
use Rattle.word_machine.specs.declared.closed.Origin.TheVariants.{Initial, Step}
use Rattle.word_machine.specs.declared.closed.Link.{Link}
use Rattle.word_machine.specs.declared.closed.Successor.{Successor}

-- whether a configuration was ever pruned, and then the least distance of one past the room
pub record CutOff : Type 0 where
  pub any : Bool
  pub past : ℕ

-- the place in the histogram at which a pruned configuration is counted, by its distance past the room
abbrev pub slot_of : ℕ → ℕ
slot_of past = min (past - 1) 63

-- the configurations by rank, the origin of each, and the pruned ones
pub record Contents (C : Type 0) : Type 0 where
  pub keys : List C
  pub origins : List Origin
  pub cut : CutOff

-- one more configuration was pruned, at this distance past the room
abbrev pub cut_more : CutOff → ℕ → CutOff
cut_more cut past = record { any = true; past = min cut.past past }

module _ {C : Type 0} (eq : C → C → Bool) where
  -- a configuration that is in the list changes nothing; another one is appended if at most `room` steps are left of
  -- it, and otherwise it is pruned
  abbrev pub offer : Contents C → Successor C → ℕ → ℕ → Contents C
  offer contents s left room =
      if list_any (eq s.configuration) contents.keys then contents
      else if nat_le left room then record { keys = contents.keys ++ s.configuration ∷ []; origins = contents.origins ++ s.origin ∷ []; cut = contents.cut }
      else record { keys = contents.keys; origins = contents.origins; cut = cut_more contents.cut (left - room) }

  -- the configurations of a batch are offered one after another, by a measure of the steps that are left
  abbrev pub offer_all : (C → ℕ) → ℕ → Contents C → List (Successor C) → Contents C
  offer_all measure room contents batch = fold (λ done s. offer done s (measure s.configuration) room) contents batch

-- offering by the points that configurations stand for, whatever test compares configurations
module _ {C : Type 0} where
  -- a configuration is offered: it is in the list, and nothing changes; or it is not, and it is appended if at most
  -- `room` steps are left of it, and otherwise pruned; or one no further past the room was pruned before, and nothing
  -- changes
  abbrev pub IsOffered : Contents C → Successor C → ℕ → ℕ → Contents C → Type 0
  IsOffered old s left room new =
      ((r : ℕ) × (slice_get old.keys r ≡ Some s.configuration) × (new ≡ old))
      ⊎ (((r : ℕ) → slice_get old.keys r ≡ Some s.configuration → ⊥)
      × (new ≡ (if nat_le left room then record { keys = old.keys ++ s.configuration ∷ []; origins = old.origins ++ s.origin ∷ []; cut = old.cut }
      else record { keys = old.keys; origins = old.origins; cut = cut_more old.cut (left - room) })))
      ⊎ ((old.cut.any ≡ true) × (room < left) × (old.cut.past ≤ left - room) × (new ≡ old))

  -- the configurations of a batch are offered one after another, by a measure of the steps that are left
  abbrev pub AreOffered : (C → ℕ) → ℕ → Contents C → List (Successor C) → Contents C → Type 0
  AreOffered measure room old [] new = new ≡ old
  AreOffered measure room old (s ∷ batch) new =
      (next : Contents C) × IsOffered old s (measure s.configuration) room next × AreOffered measure room next batch new

-- the origin of a link, which has no tag: that of an initial configuration has the greatest number as its parent's rank
abbrev pub origin_of : Link → Origin
origin_of link = if nat_eq link.parent 18446744073709551615 then Initial link.number else Step link.parent link.number

-- the word of an origin, where `words` are those of the ranks before
abbrev pub word_of : List (List ℕ) → Origin → List ℕ
word_of words (Initial number) = number ∷ []
word_of words (Step parent number) = slice_index_or words parent [] ++ number ∷ []

-- the words of the ranks, read off their origins
abbrev pub words_of : List Origin → List (List ℕ)
words_of origins = fold (λ words origin. words ++ word_of words origin ∷ []) [] origins

-- each parent's rank is below that of the configuration
abbrev pub IsForest : List Origin → Type 0
IsForest origins = (rank parent number : ℕ) → slice_get origins rank ≡ Some (Step parent number) → parent < rank

-- the origin's parent is among the first ranks
abbrev pub IsOriginWithin : ℕ → Origin → Type 0
IsOriginWithin ranks (Initial number) = Unit {0}
IsOriginWithin ranks (Step parent number) = parent < ranks

-- the elements of a list that are marked
abbrev pub picked : {X : Type 0} → List X → List Bool → List X
picked [] marks = []
picked (x ∷ xs) [] = []
picked (x ∷ xs) (b ∷ marks) = if b then x ∷ picked xs marks else picked xs marks

-- configurations as successors, each with the origin of its link
abbrev pub fitting : {C : Type 0} → List Link → List C → List (Successor C)
fitting [] cs = []
fitting (l ∷ ls) [] = []
fitting (l ∷ ls) (c ∷ cs) = record { origin = origin_of l; configuration = c } ∷ fitting ls cs

-- the initial configurations as successors, numbered from a number on
abbrev pub initial_successors : {C : Type 0} → ℕ → List C → List (Successor C)
initial_successors first [] = []
initial_successors first (c ∷ cs) = record { origin = Initial first; configuration = c } ∷ initial_successors (first + 1) cs
