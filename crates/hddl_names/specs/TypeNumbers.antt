-- Types and their parents by number.
use Rattle.std.specs.Prelude.{◌≡◌, ℕ, Bool, ◌&&◌, nat_eq, List, [], map, length, get_or}
use Rattle.hddl_words.specs.declared.term.NameGroup.{NameGroup}
use Rattle.hddl_words.specs.declared.domain.DomainText.{DomainText}
use Rattle.hddl_meaning.specs.Mentions.{Text, Mention, Typed, texts, typed_names}
use Rattle.hddl_meaning.specs.Names.{object, number_in, type_names}
use Rattle.hddl_meaning.specs.Types.{text_or_object, parent_pairs}
use Rattle.hddl_names.specs.Texts.{mentions_in}
use Rattle.hddl_names.specs.Rows.{AreRows, turned}

-- the name of the type of that number
abbrev pub type_at : DomainText → ℕ → Text
type_at d number = get_or (type_names d) number []

-- the numbers of two names
abbrev pub number_pair : List Text → Text × Text → ℕ × ℕ
number_pair names pair = (number_in names pair.0, number_in names pair.1)

-- each name of a typed list with its type, and each name and type with `object`
abbrev pub with_parents : List Typed → List (Text × Text)
with_parents ts = map (λ t. (t.mention.text, text_or_object t.of_type)) ts

-- each mentioned type below `object`
abbrev pub with_object : List Mention → List (Text × Text)
with_object mentions = map (λ text. (text, object)) (texts mentions)

-- the numbers of each declared type and its parent, in the order of a typed list
abbrev pub pairs_in : List Text → List NameGroup → List (ℕ × ℕ)
pairs_in names groups = map (number_pair names) (with_parents (typed_names groups))

-- the numbers of each type that a typed list mentions, and of `object`
abbrev pub object_pairs_in : List Text → List NameGroup → List (ℕ × ℕ)
object_pairs_in names groups = map (number_pair names) (with_object (mentions_in groups))

-- `object` with itself
abbrev pub is_root : ℕ × ℕ → Bool
is_root pair = nat_eq pair.0 0 && nat_eq pair.1 0

-- the numbers of each type and its parent
abbrev pub numbered_pairs : DomainText → List (ℕ × ℕ)
numbered_pairs d = map (number_pair (type_names d)) (parent_pairs d)

-- the names of types with, for each, the lists of its parents and of its children
pub record AreTypesOf (d : DomainText) (names : List Text) (up down : List (List ℕ)) : Type 0 where
  pub all : names ≡ type_names d
  pub up_count : length up ≡ length names
  pub down_count : length down ≡ length names
  pub parents : AreRows (numbered_pairs d) up
  pub children : AreRows (turned (numbered_pairs d)) down
