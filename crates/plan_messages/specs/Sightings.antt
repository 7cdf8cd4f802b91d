-- The first two places of numbers.
use Rattle.std.specs.Prelude.{ℕ, ◌==◌, List, [], ◌∷◌, map, Option, Some, None, unwrap_or}
use Rattle.std.specs.List.{filter}
use Rattle.plan_messages.specs.declared.mentions.Mention.{Mention}
use Rattle.plan_messages.specs.declared.sighting.Sighting.{Sighting}

-- the places of a number
abbrev pub places_of : ℕ → List Mention → List ℕ
places_of id mentions = map (λ m. m.place) (filter (λ m. m.id == id) mentions)

-- the first two of some places, if there are any
abbrev pub sighting_of : List ℕ → Option Sighting
sighting_of [] = None
sighting_of (first ∷ []) = Some (record { first = first; second = None })
sighting_of (first ∷ second ∷ places) = Some (record { first = first; second = Some second })

-- what is seen of each number
abbrev pub seen_of : List ℕ → List Mention → List (Option Sighting)
seen_of ids mentions = map (λ id. sighting_of (places_of id mentions)) ids

-- ---- what the code computes

-- what is seen with one place more
abbrev pub seen_again : Option Sighting → ℕ → Option Sighting
seen_again None place = Some (record { first = place; second = None })
seen_again (Some s) place = Some (record { first = s.first; second = Some (unwrap_or s.second place) })
