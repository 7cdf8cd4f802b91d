-- Declarations by name, as a table.
use Rattle.std.specs.Prelude.{◌≡◌, Bool, false, List, map, Vec, Some}
use Rattle.std.specs.List.{find, position}
use Rattle.hddl_meaning.specs.Mentions.{Text, Typed, IsIn}
use Rattle.hddl_meaning.specs.Names.{is_same_text}
use Rattle.hddl_meaning.specs.Uses.{Variable}
use Rattle.hddl_meaning.specs.Items.{Signature}
use Rattle.hddl_scope.specs.Numbers.{number_at}
use Rattle.hddl_uses.specs.declared.signatures.Signatures.{Signatures}

-- a place as a parameter
abbrev pub as_parameter : Typed → Variable
as_parameter t = record { typed = t; is_quantified = false }

-- whether a declaration has that name
abbrev pub has_name : Text → Signature → Bool
has_name text s = is_same_text text s.name

-- what the vectors hold
abbrev pub lists_of : {X A : Type 0} → List (Vec X A) → List (List X)
lists_of vectors = map (λ v. v.items) vectors

-- each name has the number of its first declaration, and each declaration its places
pub record IsTableOf (signatures : List Signature) (table : Signatures) : Type 0 where
  pub numbers : (t : Text) → number_at table.numbers t ≡ position (has_name t) signatures
  pub places : lists_of table.places.items ≡ map (λ s. map as_parameter s.places) signatures

-- one of them has the name
abbrev pub IsAmong : List Signature → Text → Type 0
IsAmong signatures text = IsIn text (map (λ s. s.name) signatures)

-- the places are those of the first declaration of the name
abbrev pub HasPlaces : List Signature → Text → List Variable → Type 0
HasPlaces signatures text places = (s : Signature) × (find (has_name text) signatures ≡ Some s) × (places ≡ map as_parameter s.places)
