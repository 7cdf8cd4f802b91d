-- The closed list after the expansion of ranks.
use Rattle.std.specs.Prelude.{ℕ, List}
use Rattle.word_machine.specs.declared.closed.Successor.{Successor}
use Rattle.word_machine.specs.Machine.{WordMachine, IsDone, IsLiveStep}
use Rattle.word_machine.specs.Contents.{Contents, AreOffered}
use Rattle.word_machine.specs.Expansion.{IsExpansion}

-- the configurations at the ranks from first on and below last were expanded, and their successors offered to the list,
-- in order, where successors beyond the horizon may be left out
abbrev pub HasAdvanced : {P : Type 0} → WordMachine P → (P → Type 0) → (P → ℕ) → ℕ → List P → ℕ → ℕ → Contents P → Contents P → Type 0
HasAdvanced {P} m beyond measure room keys first last old new =
    (reached : List (Successor P)) × IsExpansion (IsLiveStep m) (IsDone m) beyond keys first last reached × AreOffered measure room old reached new
