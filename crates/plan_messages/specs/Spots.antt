-- Places on the lines of a text.
use Rattle.std.specs.Prelude.{◌≡◌, ◌≢◌, ℕ, ◌≤◌, ◌<◌, List, length, min, slice_index}
use Rattle.diagnostics.specs.declared.diagnostic.Source.{Source}
use Rattle.diagnostics.specs.declared.diagnostic.Spot.{Spot}

-- a place is on the line of a place before it, or the end of the text where that is past it: no line feed stands between
pub record IsOnLine (text : List ℕ) (from place : ℕ) : Type 0 where
  pub order : min from (length text) ≤ place
  pub within : place ≤ length text
  pub one_line : (k : ℕ) → from ≤ k → k < place → slice_index text k ≢ 10

-- a word of the text on the line of a place
abbrev pub IsSpotOn : Source → ℕ → Spot → Type 0
IsSpotOn text from spot = (spot.source.now ≡ text) × IsOnLine text.lines from spot.place
