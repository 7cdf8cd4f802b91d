-- The objects of each type.
use Rattle.std.specs.Prelude.{◌≡◌, ℕ, ◌<◌, ◌≤◌, ◌↔◌, Bool, true, false, nat_eq, List, [], map, length, get_or, Contains}
use Rattle.std.specs.List.{All, IsDistinct}
use Rattle.std.specs.List.Sorted.{IsStrictlySortedBy}
use Rattle.std.specs.Ordering.{nat_cmp}
use Rattle.hddl_words.specs.declared.term.NameGroup.{NameGroup}
use Rattle.hddl_words.specs.declared.domain.DomainText.{DomainText}
use Rattle.hddl_words.specs.declared.problem.ProblemText.{ProblemText}
use Rattle.hddl_meaning.specs.Mentions.{Text, Typed, typed_names}
use Rattle.hddl_meaning.specs.Names.{number_in, type_names, object_names, object_declarations}
use Rattle.hddl_meaning.specs.Types.{text_or_object, HasType}
use Rattle.hddl_meaning.specs.Items.{IsDeclaredType}
use Rattle.hddl_names.specs.Reach.{Reaches}
use Rattle.hddl_names.specs.TypeNumbers.{type_at, numbered_pairs}

-- the type of each constant and object is declared
abbrev pub AreTyped : DomainText → ProblemText → Type 0
AreTyped d p = (t : Typed) → Contains (object_declarations d p) t → IsDeclaredType d (text_or_object t.of_type)

-- the name of the object of that number
abbrev pub object_at : DomainText → ProblemText → ℕ → Text
object_at d p number = get_or (object_names d p) number []

-- the number of each name of a typed list with its type's
abbrev pub number_typed : List Text → List Text → Typed → ℕ × ℕ
number_typed objects types t = (number_in objects t.mention.text, number_in types (text_or_object t.of_type))

-- the numbers of all names of a typed list with those of their types, in the order of the list
abbrev pub declared_in : List Text → List Text → List NameGroup → List (ℕ × ℕ)
declared_in objects types groups = map (number_typed objects types) (typed_names groups)

-- the rows have the declared types of each object: those that its types are below
pub record AreDeclaredTypes (d : DomainText) (p : ProblemText) (rows : List (List ℕ)) : Type 0 where
  pub count : length (object_names d p) ≤ length rows
  pub typed : All (All (λ t. t < length (type_names d))) rows
  pub members : (k o : ℕ) → k < length (type_names d) → o < length (object_names d p)
      → ((t : ℕ) × Contains (get_or rows o []) t × Reaches (numbered_pairs d) t k) ↔ HasType d p (object_at d p o) (type_at d k)

-- the lists of the named types have exactly the objects that have these, ascending, and the others have none
pub record AreNamedMembersOf (d : DomainText) (p : ProblemText) (named : List ℕ) (lists : List (List ℕ)) : Type 0 where
  pub count : length lists ≡ length (type_names d)
  pub ascending : (k : ℕ) → IsStrictlySortedBy nat_cmp (get_or lists k [])
  pub members : (k o : ℕ) → k < length (type_names d) → o < length (object_names d p)
      → Contains (get_or lists k []) o ↔ (Contains named k × HasType d p (object_at d p o) (type_at d k))
  pub within : (k o : ℕ) → Contains (get_or lists k []) o → o < length (object_names d p)

-- the objects below i are in the lists of all types with a flag that the types in their rows lead to
pub record AreFilled (pairs : List (ℕ × ℕ)) (declared : List (List ℕ)) (flags : List Bool) (n i : ℕ) (lists : List (List ℕ)) : Type 0 where
  pub count : length lists ≡ n
  pub ascending : (k : ℕ) → IsStrictlySortedBy nat_cmp (get_or lists k [])
  pub members : (k o : ℕ) → Contains (get_or lists k []) o
      ↔ ((o < i) × (get_or flags k false ≡ true) × ((t : ℕ) × Contains (get_or declared o []) t × Reaches pairs t k))

-- the list has exactly those with a flag of what some of the numbers lead to, each once
pub record IsFlaggedAbove (pairs : List (ℕ × ℕ)) (flags : List Bool) (starts found : List ℕ) : Type 0 where
  pub different : IsDistinct nat_eq found
  pub members : (x : ℕ) → Contains found x ↔ ((get_or flags x false ≡ true) × ((t : ℕ) × Contains starts t × Reaches pairs t x))
