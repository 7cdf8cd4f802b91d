-- Configurations that a merge sets aside, to be added to the closed list with the others of their batch.
use Rattle.std.specs.Prelude.{◌≡◌, ℕ, ◌≤◌, Bool, List, length, All}
use Rattle.word_machine.specs.declared.closed.Fitting.{Fitting}
use Rattle.word_machine.specs.declared.closed.Successor.{Successor}
use Rattle.word_machine.specs.Contents.{Contents, IsOffered, IsOriginWithin, fitting, offer_all, origin_of}
use Rattle.word_machine.specs.Meaning.{Meaning, contents_at, successor_at}

-- there are as many links as configurations; each configuration is numbered and has at most `room` steps left by the
-- measure; and each link's parent is among the first ranks
pub record IsAside {C R P : Type 0} (meaning : Meaning C R P) (measure : P → ℕ) (room ranks : ℕ)
    (fits : Fitting C) : Type 0 where
  pub as_many : length fits.links.items ≡ length fits.configurations.items
  pub within : All (λ l. IsOriginWithin ranks (origin_of l)) fits.links.items
  pub known : All meaning.knows fits.configurations.items
  pub fit : All (λ c. measure (meaning.point c) ≤ room) fits.configurations.items

-- offering a successor to the first list gives the second one, whichever numbered configurations within the room are
-- set aside for both
abbrev pub IsPassedBy : {C R P : Type 0} → (C → C → Bool) → Meaning C R P → (P → ℕ) → ℕ → Successor R → Contents C
    → Contents C → Type 0
IsPassedBy {C} eq meaning measure room reached old new =
    (fs : List (Successor C)) → All (λ (s : Successor C). meaning.knows s.configuration) fs
    → All (λ (s : Successor C). measure (meaning.point s.configuration) ≤ room) fs
    → IsOffered (contents_at meaning.point (offer_all eq (λ c. 0) 0 old fs)) (successor_at meaning.point_of reached)
    (measure (meaning.point_of reached.configuration)) room
    (contents_at meaning.point (offer_all eq (λ c. 0) 0 new fs))

-- a list, with the configurations that were set aside for it added
abbrev pub with_aside : {C : Type 0} → (C → C → Bool) → Contents C → Fitting C → Contents C
with_aside eq contents fits = offer_all eq (λ c. 0) 0 contents (fitting fits.links.items fits.configurations.items)
