-- The contents of a closed list in the middle of a search.
use Rattle.std.specs.Prelude.{◌≡◌, ℕ, ◌+◌, ◌<◌, ◌≤◌, ◌⊎◌, true, List, [], ◌∷◌, ◌++◌, length, Some, slice_get}
use Rattle.word_machine.specs.Words.{Precedes, Reaches, MeetsBound}
use Rattle.word_machine.specs.Machine.{WordMachine, IsLiveStep, IsDone}
use Rattle.word_machine.specs.Contents.{CutOff, word_of, IsOriginWithin}
use Rattle.word_machine.specs.declared.closed.Successor.{Successor}

-- a search problem: its steps, the done configurations, a lower bound on the steps that are left (such as the number of
-- open nodes), the initial configurations, and the bound on steps
pub record Search (C : Type 0) : Type 1 where
  pub Step : C → ℕ → C → Type 0
  pub IsDone : C → Type 0
  pub open_len : C → ℕ
  pub initials : List C
  pub bound : ℕ

-- the search of a machine by a measure, over the steps that are not dead
abbrev pub search_by : {C : Type 0} → WordMachine C → (C → ℕ) → ℕ → Search C
search_by m measure bound = record { Step = IsLiveStep m; IsDone = IsDone m; open_len = measure; initials = m.initials; bound = bound }

-- w is v or comes before it
abbrev pub IsAtMost : List ℕ → List ℕ → Type 0
IsAtMost w v = (w ≡ v) ⊎ Precedes w v

module _ {C : Type 0} where
  -- the configuration has this rank and this word
  pub record IsAt (keys : List C) (words : List (List ℕ)) (rank : ℕ) (c : C) (w : List ℕ) : Type 0 where
    pub key : slice_get keys rank ≡ Some c
    pub word : slice_get words rank ≡ Some w

  -- the configuration is in the list, with a word that is at most v
  pub record IsCovered (keys : List C) (words : List (List ℕ)) (c : C) (v : List ℕ) : Type 0 where
    pub rank : ℕ
    pub word : List ℕ
    pub at : IsAt keys words rank c word
    pub least : IsAtMost word v

  module _ (S : Search C) where
    -- the steps of w and the open nodes of c are within the bound
    abbrev pub FitsBound : C → List ℕ → Type 0
    FitsBound c w = length w + S.open_len c ≤ S.bound + 1

    -- the configuration that v reaches is covered, or it is past the bound by no less than the least distance at which
    -- one was pruned
    abbrev pub IsAccounted : List C → List (List ℕ) → CutOff → C → List ℕ → Type 0
    IsAccounted keys words cut c v = IsCovered keys words c v ⊎ ((cut.any ≡ true) × (S.bound + 1 < length v + S.open_len c) × (S.bound + 1 + cut.past ≤ length v + S.open_len c))

    -- each rank has a configuration that its word reaches; the words ascend
    pub record IsKept (keys : List C) (words : List (List ℕ)) : Type 0 where
      pub as_many : length words ≡ length keys
      pub reached : (r : ℕ) (c : C) (w : List ℕ) → IsAt keys words r c w → Reaches S.Step S.initials w c
      pub fits : (r : ℕ) (c : C) (w : List ℕ) → IsAt keys words r c w → FitsBound c w
      pub unfinished : (r : ℕ) (c : C) → slice_get keys r ≡ Some c → S.IsDone c → ⊥
      pub ascending : (r s : ℕ) (v w : List ℕ) → r < s → slice_get words r ≡ Some v → slice_get words s ≡ Some w → Precedes v w

    -- the ranks below `low` are expanded, and have words of at most `level` numbers; the others are the level's own
    pub record IsClosedTo (keys : List C) (words : List (List ℕ)) (cut : CutOff) (level low : ℕ) : Type 0 where
      pub kept : IsKept keys words
      pub low_within : low ≤ length keys
      pub older : (r : ℕ) (w : List ℕ) → r < low → slice_get words r ≡ Some w → length w ≤ level
      pub current : (r : ℕ) (w : List ℕ) → low ≤ r → slice_get words r ≡ Some w → length w ≡ level + 1
      pub started : (i : ℕ) (c : C) → slice_get S.initials i ≡ Some c → IsAccounted keys words cut c (i ∷ [])
      pub expanded : (r : ℕ) (c d : C) (w : List ℕ) (n : ℕ) → r < low → IsAt keys words r c w → S.Step c n d → IsAccounted keys words cut d (w ++ n ∷ [])
      pub met : cut.any ≡ true → MeetsBound S.Step S.open_len S.initials S.bound

    -- each configuration that a word of fewer than `size` numbers reaches within the bound is covered
    abbrev pub IsCompleteBelow : List C → List (List ℕ) → ℕ → Type 0
    IsCompleteBelow keys words size =
        (v : List ℕ) (c : C) → length v < size → Reaches S.Step S.initials v c → FitsBound c v → IsCovered keys words c v

    -- the successor's word, where `words` are those of the ranks, has `size` numbers and reaches it, and it is not done
    pub record IsCandidate (words : List (List ℕ)) (size : ℕ) (s : Successor C) : Type 0 where
      pub within : IsOriginWithin (length words) s.origin
      pub long : length (word_of words s.origin) ≡ size
      pub reached : Reaches S.Step S.initials (word_of words s.origin) s.configuration
      pub unfinished : S.IsDone s.configuration → ⊥

    -- candidates whose words ascend
    pub record IsBatch (words : List (List ℕ)) (size : ℕ) (batch : List (Successor C)) : Type 0 where
      pub each : (i : ℕ) (s : Successor C) → slice_get batch i ≡ Some s → IsCandidate words size s
      pub ascending : (i j : ℕ) (s t : Successor C) → i < j → slice_get batch i ≡ Some s → slice_get batch j ≡ Some t
          → Precedes (word_of words s.origin) (word_of words t.origin)
