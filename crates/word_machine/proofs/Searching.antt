-- The closed list from the start on, level by level, as the merges leave it.
use Rattle.std.proofs.Common.{◌≡◌, ℕ, ◌+◌, true≢false, List, [], ◌∷◌, length, refl, sym, arith, slice_get, Some}
use Rattle.std.proofs.lemmas.Option.{none-some}
use Rattle.word_machine.specs.declared.closed.Successor.{Successor}
use Rattle.word_machine.specs.Contents.{Contents, AreOffered, initial_successors, words_of}
use Rattle.word_machine.specs.Closed.{Search, IsKept, IsClosedTo, IsCompleteBelow}
use Rattle.word_machine.specs.Expansion.{IsExpansion}
use Rattle.word_machine.proofs.Complete.{CountsOpen, complete}
use Rattle.word_machine.proofs.Merging.{merges}
use Rattle.word_machine.proofs.Levels.{empty, start_batch, start_closed, numbered_start, older_than_next, IsPast, expansion_batch, next_level}

module _ {C : Type 0} (S : Search C) where
  -- an empty list is in order
  nothing_kept : IsKept S [] []
  nothing_kept = record {
    as_many = refl;
    reached = λ r c w at. absurd (none-some w at.word);
    fits = λ r c w at. absurd (none-some w at.word);
    unfinished = λ r c at done. none-some c at;
    ascending = λ r s v w less at other. absurd (none-some v at);
  }

  -- and misses no shorter word
  nothing_missed : IsCompleteBelow S [] [] 1
  nothing_missed [] c short reached fits = absurd reached
  nothing_missed (i ∷ ns) c short reached fits = absurd (omega arith)

  -- the first level, after the initial configurations were offered
  pub first_level : ((i : ℕ) (c : C) → slice_get S.initials i ≡ Some c → S.IsDone c → ⊥) → (new : Contents C)
      → AreOffered S.open_len S.bound (empty S) (initial_successors 0 S.initials) new → IsClosedTo S new.keys (words_of new.origins) new.cut 0 0
  first_level unfinished new offered =
      let batch = initial_successors 0 S.initials in
      let start = numbered_start S unfinished in
      let room : 1 + S.bound ≡ S.bound + 1 = omega arith in
      start_closed S batch start new
      (merges S (empty S) 1 S.bound room (λ r w at. absurd (none-some w at)) nothing_missed
      batch new (start_batch S batch start) nothing_kept (λ cut. absurd (true≢false (sym cut))) offered)

  -- and each later one
  pub later_level : CountsOpen S → (old : Contents C) (level low : ℕ) → IsClosedTo S old.keys (words_of old.origins) old.cut level low
      → (beyond : C → Type 0) → ((d : C) → beyond d → IsPast S old level d)
      → (successors : List (Successor C)) → IsExpansion S.Step S.IsDone beyond old.keys low (length old.keys) successors
      → (room : ℕ) → (level + 2) + room ≡ S.bound + 1 → (new : Contents C) → AreOffered S.open_len room old successors new
      → IsClosedTo S new.keys (words_of new.origins) new.cut (level + 1) (length old.keys)
  later_level laws old level low closed beyond past successors expanded room room_is new offered =
      next_level S old level low closed beyond past successors expanded new
      (merges S old (level + 2) room room_is (older_than_next S old level low closed)
      (complete S laws old.keys (words_of old.origins) old.cut level low closed)
      successors new (expansion_batch S old level low closed beyond past successors expanded) closed.kept closed.met offered)
