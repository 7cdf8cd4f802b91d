-- The places of a plan file's lines in its text.
use Rattle.std.specs.Prelude.{◌≡◌, ℕ, Bool, true, false, if◌then◌else◌, List, [], ◌∷◌, Some, ⊤}
use Rattle.htn_model.specs.PlanFile.{PlanFile}
use Rattle.plan_text.specs.FileText.{body}
use Rattle.plan_text.specs.Line.{AreLines, IsOfKind, LineKind, action, blank, contents_of, decomposition, roots}
use Rattle.plan_text.specs.Piece.{Piece, words}
use Rattle.plan_text.specs.declared.places.LinePlaces.{LinePlaces}

-- whether a line is an action line
abbrev pub is_action : LineKind → Bool
is_action (action id name arguments) = true
is_action _ = false

-- whether a line names the roots
abbrev pub is_roots : LineKind → Bool
is_roots (roots numbers) = true
is_roots _ = false

-- whether a line is a decomposition line
abbrev pub is_decomposition : LineKind → Bool
is_decomposition (decomposition id task arguments method children) = true
is_decomposition _ = false

-- the place of a line, if its kind passes the test
abbrev pub place_if : (LineKind → Bool) → ℕ → LineKind → List ℕ
place_if is_one place kind = if is_one kind then place ∷ [] else []

-- the places of the lines whose kinds pass the test, in turn
abbrev pub places_of : (LineKind → Bool) → List Piece → List LineKind → List ℕ
places_of is_one [] kinds = []
places_of is_one (line ∷ lines) [] = []
places_of is_one (line ∷ lines) (kind ∷ kinds) = if is_one kind then line.place ∷ places_of is_one lines kinds else places_of is_one lines kinds

-- where the lines of these kinds begin
pub record AreKindPlaces (between : List Piece) (kinds : List LineKind) (p : LinePlaces) : Type 0 where
  pub actions : p.actions.items ≡ places_of is_action between kinds
  pub roots : p.roots.items ≡ places_of is_roots between kinds
  pub decompositions : p.decompositions.items ≡ places_of is_decomposition between kinds

-- The lines that give a file, and where each of them begins: the first place of a kind is that of the first line of that
-- kind, and so on.
pub record ArePlaces (file : PlanFile) (text : List ℕ) (p : LinePlaces) : Type 0 where
  pub between : List Piece
  pub kinds : List LineKind
  pub body_is : body text ≡ Some between
  pub each : AreLines between kinds
  pub contents : contents_of kinds ≡ record { actions = file.actions; root_lists = file.roots ∷ []; decompositions = file.decompositions }
  pub places : AreKindPlaces between kinds p

-- ---- what the code computes

-- the kinds of lines, by their words
abbrev pub AreKinds : List Piece → List LineKind → Type 0
AreKinds [] [] = ⊤
AreKinds [] (kind ∷ kinds) = ⊥
AreKinds (line ∷ lines) [] = ⊥
AreKinds (line ∷ lines) (kind ∷ kinds) = IsOfKind (words line) kind × AreKinds lines kinds

-- the lines are of some kinds, and these are the places
pub record AreFound (between : List Piece) (p : LinePlaces) : Type 0 where
  pub kinds : List LineKind
  pub are : AreKinds between kinds
  pub places : AreKindPlaces between kinds p
